-- `host::pot_write` meets its contract: the length crosses, and the room is the writer's. Assumes nothing.
use mathlib.Core.Path.{subst}
use Rattle.sketch.specs.declared.Sketch.{Sketch}
use Rattle.image.specs.Calls.{Writes}
use Rattle.host.proofs.Outcomes.{told}
use Rattle.host.proofs.pot_write.Goals as goal

pub returns : goal.returns
returns c =
    let w = subst (λ (k : Sketch). Writes k c.args.room.now c.write_from.result c.write_from.new.room) c.sketch_lent.ensures c.write_from.ensures in
    record { told = told c.into.ensures w.answer; contents = w.contents }
