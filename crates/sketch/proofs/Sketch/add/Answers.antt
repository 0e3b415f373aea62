-- `sketch::Sketch::add` meets its contract. Assumes nothing.
use mathlib.Core.Path.{sym, ap, ◌∙◌}
use Rattle.rule.specs.Refusals.{of_answer}
use Rattle.sketch.specs.Calls.{done_with}
use Rattle.sketch.proofs.Facts.{sketch_facts}
use Rattle.sketch.proofs.Handing.{hands_done, hands_refused, add_granted, add-told}
use Rattle.sketch.proofs.Sketch.add.Goals as goal

pub added-next-requires : goal.added-next-requires
added-next-requires c =
    let a = c.args in
    let g = add_granted _ a.self.settings a.lo a.hi (sym (ap of_answer c.in-Ok.is) ∙ c.add_answer.ensures) in
    (sketch_facts a.self (sym c.good.ensures ∙ g.0), g.1)

pub returns-in-Ok : goal.returns-in-Ok
returns-in-Ok c =
    let a = c.args in
    let said = sym (ap of_answer c.in-Ok.is) ∙ c.add_answer.ensures in
    let told = add-told a.self a.lo a.hi c.good.ensures said in
    hands_done _ _ _ _ (sym told) (c.done.ensures ∙ ap done_with c.added-next.ensures)

pub returns-in-Err : goal.returns-in-Err
returns-in-Err c =
    let a = c.args in
    let said = sym (ap of_answer c.in-Err.is) ∙ c.add_answer.ensures in
    let told = add-told a.self a.lo a.hi c.good.ensures said in
    hands_refused _ _ _ _ _ (sym told) c.refused.ensures
