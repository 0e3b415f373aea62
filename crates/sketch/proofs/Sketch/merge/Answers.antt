-- `sketch::Sketch::merge` meets its contract. Assumes nothing.
use mathlib.Core.Path.{sym, ap, ◌∙◌}
use Rattle.rule.specs.Refusals.{of_answer}
use Rattle.sketch.specs.Calls.{done_with}
use Rattle.sketch.proofs.Facts.{sketch_facts}
use Rattle.sketch.proofs.Handing.{hands_done, hands_refused, merge_granted, merge-told}
use Rattle.sketch.proofs.Sketch.merge.Goals as goal

pub merged-both-requires : goal.merged-both-requires
merged-both-requires c =
    let a = c.args in
    let said = sym (ap of_answer c.in-Ok.is) ∙ c.merge_answer.ensures in
    let g = merge_granted _ _ a.self.settings a.other.settings said in (
      sketch_facts a.self (sym c.good.ensures ∙ g.0),
      sketch_facts a.other (sym c.good-2.ensures ∙ g.1),
      g.2,
    )

pub returns-in-Ok : goal.returns-in-Ok
returns-in-Ok c =
    let a = c.args in
    let said = sym (ap of_answer c.in-Ok.is) ∙ c.merge_answer.ensures in
    let told = merge-told a.self a.other c.good.ensures c.good-2.ensures said in
    hands_done _ _ _ _ (sym told) (c.done.ensures ∙ ap done_with c.merged-both.ensures)

pub returns-in-Err : goal.returns-in-Err
returns-in-Err c =
    let a = c.args in
    let said = sym (ap of_answer c.in-Err.is) ∙ c.merge_answer.ensures in
    let told = merge-told a.self a.other c.good.ensures c.good-2.ensures said in
    hands_refused _ _ _ _ _ (sym told) c.refused.ensures
