-- `host::pot_walker_next` meets its contract: the hit and the walker after it cross. Assumes nothing.
use mathlib.Core.Path.{ap, ◌∙◌}
use Rattle.crossing.specs.Crossing.{walker_row}
use Rattle.host.proofs.Outcomes.{told}
use Rattle.host.proofs.pot_walker_next.Goals as goal

pub returns : goal.returns
returns c =
    let s = rw c.walker_in.ensures at c.step-stepped.ensures in
    record { told = told c.into.ensures s.answer; row = c.walker_row.ensures ∙ ap walker_row s.walker }
