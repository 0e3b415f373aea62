-- `find::Walker::step` meets its contract. Assumes nothing.
use mathlib.Core.Path.{sym, ◌∙◌}
use native.Mathlib.Omega.{arith}
use Rattle.rule.proofs.NextHits.{next_some}
use Rattle.find.proofs.Checks.{denied, granted}
use Rattle.find.proofs.Walks.{walker-within, steps_refused, steps_cell, steps_nothing}
use Rattle.find.proofs.Walker.step.Goals as goal

pub returns-then-not-good : goal.returns-then-not-good
returns-then-not-good c = steps_refused _ (denied _ _ c.good.ensures c.if-not-good.true)

pub first_in-requires : goal.first_in-requires
first_in-requires c = walker-within _ (granted _ _ c.good.ensures c.if-not-good.false)

pub overflow_add-result : goal.overflow_add-result
overflow_add-result c =
    let v = walker-within _ (granted _ _ c.good.ensures c.if-not-good.false) in
    let h = next_some _ _ _ _ _ (sym c.first_in.ensures ∙ c.in-Some.is) in
    omega (arith, h.1, v.last, v.good.n_high)

pub returns-in-Some : goal.returns-in-Some
returns-in-Some c = steps_cell _ _ (granted _ _ c.good.ensures c.if-not-good.false) (sym c.first_in.ensures ∙ c.in-Some.is)

pub returns-in-None : goal.returns-in-None
returns-in-None c = steps_nothing _ (granted _ _ c.good.ensures c.if-not-good.false) (sym c.first_in.ensures ∙ c.in-None.is)
