-- The laws of the estimate: what cells kept at a level stand for, in whole numbers and as a float.
--     level-small     the level of a sketch is below 32
--     stands_none     at a level without a region nothing is kept
--     few_enough      the number of cells times p is below 2^53
--     float-near      the float lies near the fraction
--     float-whole     its whole part is the whole number
--     float-exact     where the region's size divides, nothing is rounded
--     region-zero     at level 0 the region's size is p
--     weighs_not, weighs_exact, weighs_about    what is told: all that those above know of the estimate
--     estimate_worth  and what it is worth
--     estimate_one    the reading of the enum is one-to-one
-- Assumes nothing.
use mathlib.Core.Path.{◌≡◌, sym, ap, ◌∙◌}
use mathlib.Core.Bool.{true, false}
use mathlib.Core.Logic.{◌⊎◌, inl, inr, ⊎_elim}
use Prim.Native.Nat.{ℕ, ◌*◌, ◌^◌, ◌<◌, ◌≤◌}
use native.Mathlib.Omega.{arith}
use native.Mathlib.Nat.{le_trans, le_of_eq, le_of_lt, lt_of_le_of_lt, mul-le-mul, mul-le-mul_right, one-mul, zero-mul, eq-zero-or-pos}
use native.Mathlib.Nat.{div-zero, div-one, div-le_self}
use lib.Dec.{eqb, lit≤, lit<}
use lib.Ieee.{to_unsigned}
use borrow.Author.Tests.{leb-true, le-leb, eq-eqb, ne_eqb, eqb-true, eqb-false}
use Rattle.lists.proofs.Tests.{tested}
use Rattle.floats.specs.Quotients.{float, Near}
use Rattle.floats.proofs.Quotients.{over-exact, over-near, over-whole}
use Rattle.rule.specs.declared.Settings.{Settings}
use Rattle.rule.specs.Rule.{region}
use Rattle.rule.specs.Refusals.{answered, refused, not_one}
use Rattle.rule.proofs.Facts.{positive, small}
use Rattle.rule.proofs.Passing.{top_small, level-within}
use Rattle.sketch.specs.declared.Sketch.{Sketch}
use Rattle.sketch.specs.declared.estimates.Estimate.{Estimate}
use Rattle.sketch.specs.declared.estimates.Estimate.TheVariants.{Exact, About, Refused}
use Rattle.sketch.specs.Sketches.{is_sketch, Sound}
use Rattle.sketch.specs.Estimates.{exactly, about, of_estimate, stands_at, float_at, upper, lower, stands_for, float_for, estimate_on, Worth, Estimates}
use Rattle.sketch.proofs.Facts.{sketch_facts, count_few}

pub level-small : (k : Sketch) → Sound k → k.level ≤ 31
level-small k w = omega (arith, w.level, top_small k.settings w.settings)

pub stands_none : (s : Settings) (level count : ℕ) → region s level ≡ 0 → 0 ≡ stands_at s level count
unfolding stands_at
stands_none s level count z = rw z (sym (div-zero _))

-- the two numbers of the fraction
module _ (k : Sketch) (w : Sound k) where
  p_small : k.settings.p ≤ 4000000000
  p_small = omega (arith, w.settings.p_high, w.settings.n_high)

  room : upper k < 2 ^ 53
  room = lt_of_le_of_lt (mul-le-mul (count_few k w) p_small) (lit< tt)

  pub few_enough : upper k ≤ 2 ^ 53
  few_enough = le_of_lt room

  some : 0 < lower k
  some =
      let s = k.settings in
      leb-true 1 (lower k) (level-within s k.level (positive s w.settings) (small s w.settings) ∙ le-leb _ _ w.level)

  lower-within : lower k ≤ k.settings.p
  unfolding region
  lower-within = div-le_self k.settings.p (2 ^ k.level)

  lower-small : lower k ≤ 2 ^ 53
  lower-small = le_trans lower-within (le_trans p_small (lit≤ tt))

  none_or_more : (upper k ≡ 0) ⊎ (lower k ≤ upper k)
  none_or_more =
      ⊎_elim
      (λ (z : k.count ≡ 0). inl (ap (λ (n : ℕ). n * k.settings.p) z ∙ zero-mul k.settings.p))
      (λ (c : 0 < k.count). inr (le_trans lower-within (le_trans (le_of_eq (sym (one-mul k.settings.p))) (mul-le-mul_right k.settings.p c))))
      (eq-zero-or-pos k.count)

  pub float-near : Near (upper k) (lower k) (float_for k)
  unfolding float_at
  float-near = over-near (upper k) (lower k) some room lower-small none_or_more

  pub float-whole : to_unsigned 64 (float_for k) ≡ stands_for k
  unfolding float_at stands_at
  float-whole = over-whole (upper k) (lower k) some room lower-small none_or_more

  pub float-exact : (q : ℕ) → upper k ≡ q * lower k → float_for k ≡ float q
  unfolding float_at
  float-exact q e = over-exact q (upper k) (lower k) some e few_enough lower-small

pub region-zero : (s : Settings) (level : ℕ) → level ≡ 0 → region s level ≡ s.p
unfolding region
region-zero s level z = rw z (div-one s.p)

module _ (k : Sketch) where
  pub weighs_not : is_sketch k ≡ false → estimate_on k ≡ refused not_one 0
  unfolding estimate_on
  weighs_not e = rw e

  pub weighs_exact : is_sketch k ≡ true → k.level ≡ 0 → estimate_on k ≡ answered (exactly k.count)
  unfolding estimate_on
  weighs_exact e z = rw (e, eq-eqb k.level 0 z)

  pub weighs_about : is_sketch k ≡ true → (k.level ≡ 0 → ⊥) → estimate_on k ≡ answered (about (float_for k))
  unfolding estimate_on
  weighs_about e z = rw (e, ne_eqb k.level 0 z)

  worth_on : Worth (estimate_on k) (upper k) (lower k)
  worth_on =
      ⊎_elim
      (λ (e : is_sketch k ≡ true).
      ⊎_elim
      (λ (z : eqb k.level 0 ≡ true).
      let zero = eqb-true k.level 0 z in
      rw (weighs_exact e zero) (ap (λ (r : ℕ). k.count * r) (region-zero k.settings k.level zero)))
      (λ (z : eqb k.level 0 ≡ false). rw (weighs_about e (eqb-false k.level 0 z)) (float-near k (sketch_facts k e)))
      (tested (eqb k.level 0)))
      (λ (e : is_sketch k ≡ false). rw (weighs_not e) tt)
      (tested (is_sketch k))

  pub estimate_worth : (r : Estimate) → of_estimate r ≡ estimate_on k → Estimates k r
  estimate_worth r e = record { answer = e; value = rw e worth_on }

pub estimate_one : (x y : Estimate) → of_estimate x ≡ of_estimate y → x ≡ y
estimate_one (Exact v) (Exact w) e = cc
estimate_one (Exact v) (About y) e = cc
estimate_one (Exact v) (Refused k) e = cc
estimate_one (About x) (Exact w) e = cc
estimate_one (About x) (About y) e = cc
estimate_one (About x) (Refused k) e = cc
estimate_one (Refused j) (Exact w) e = cc
estimate_one (Refused j) (About y) e = cc
estimate_one (Refused j) (Refused k) e = cc
