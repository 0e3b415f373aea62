-- `sketch::lent::Lent::estimate` meets its contract. Assumes nothing.
use mathlib.Core.Path.{sym, ap, ◌∙◌}
use Prim.Native.Nat.{ℕ}
use lib.Ieee.{Float}
use Rattle.rule.specs.Refusals.{answered}
use Rattle.find.proofs.Checks.{denied, granted}
use Rattle.sketch.specs.declared.estimates.Estimate.TheVariants.{Refused}
use Rattle.sketch.specs.Estimates.{of_estimate, about}
use Rattle.sketch.specs.Sketches.{held_of}
use Rattle.sketch.proofs.Facts.{sketch_facts}
use Rattle.sketch.proofs.Worth.{few_enough, weighs_not, weighs_exact, weighs_about, estimate_worth}
use Rattle.sketch.proofs.lent.Lent.estimate.Goals as goal

pub returns-then-not-good : goal.returns-then-not-good
returns-then-not-good c =
    let k = held_of c.args.self in
    estimate_worth k _
    (ap (λ (number : ℕ). of_estimate (Refused number)) c.into.ensures ∙ sym (weighs_not k (denied _ _ c.good.ensures c.if-not-good.true)))

pub returns-then-self-eq0 : goal.returns-then-self-eq0
returns-then-self-eq0 c =
    let k = held_of c.args.self in
    estimate_worth k _ (sym (weighs_exact k (granted _ _ c.good.ensures c.if-not-good.false) c.if-self-eq0.true))

pub float_at-requires : goal.float_at-requires
float_at-requires c = few_enough _ (sketch_facts (held_of c.args.self) (granted _ _ c.good.ensures c.if-not-good.false))

pub returns : goal.returns
returns c =
    let k = held_of c.args.self in
    estimate_worth k _
    (ap (λ (x : Float). answered (about x)) c.float_at.ensures ∙ sym (weighs_about k (granted _ _ c.good.ensures c.if-not-good.false) c.if-self-eq0.false))
