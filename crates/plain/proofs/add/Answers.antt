-- `plain::add` meets its contract. Assumes nothing.
use mathlib.Core.Path.{refl, sym, ap, ◌∙◌}
use Rattle.sketch.specs.Calls.{done_with}
use Rattle.sketch.proofs.Facts.{sketch_facts}
use Rattle.sketch.proofs.Handing.{hands_done, hands_refused}
use Rattle.plain.proofs.Calls.{plain_granted, plain_told}
use Rattle.plain.proofs.add.Goals as goal

pub added-next-requires : goal.added-next-requires
added-next-requires c =
    let a = c.args in
    let g = plain_granted _ a.sketch.settings a.lo a.hi c.in-Ok.ensures in
    (sketch_facts a.sketch (sym c.good.ensures ∙ g.0), g.1)

pub returns-in-Ok : goal.returns-in-Ok
returns-in-Ok c =
    let a = c.args in
    hands_done _ _ _ _ (sym (plain_told a.sketch a.lo a.hi c.good.ensures c.in-Ok.ensures)) (ap done_with c.added-next.ensures)

pub returns-in-Err : goal.returns-in-Err
returns-in-Err c =
    let a = c.args in
    hands_refused _ _ _ _ _ (sym (plain_told a.sketch a.lo a.hi c.good.ensures c.in-Err.ensures)) refl
