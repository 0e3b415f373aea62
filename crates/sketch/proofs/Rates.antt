-- What the estimate answers of a sketch, read from its promise.
--     exact-zero    at level 0 exactly the number of cells
--     about-near    above it about the float, which lies near the number of cells times p, divided by the region's size
--     about-none    an empty sample is about 0
--     about-top     at the top each cell stands for p: there the region has one residue
--     about-one     so one cell there is about p
--     about_127     and with p 127 the factor is 127
-- Assumes nothing.
use mathlib.Core.Path.{◌≡◌, sym, ap, ◌∙◌, subst}
use mathlib.Core.Bool.{true, false}
use Prim.Native.Nat.{ℕ, ◌*◌, ◌^◌, ◌≤◌}
use native.Mathlib.Omega.{arith}
use native.Mathlib.Nat.{zero-mul, one-mul, mul-one}
use lib.Dec.{lit≤}
use lib.Ieee.Exact.{HasValue}
use Rattle.floats.specs.Quotients.{float, Near}
use Rattle.floats.proofs.Quotients.{held}
use Rattle.rule.specs.Rule.{region, top}
use Rattle.rule.proofs.Facts.{positive, small}
use Rattle.rule.proofs.Passing.{region-top}
use Rattle.sketch.specs.declared.Sketch.{Sketch}
use Rattle.sketch.specs.declared.estimates.Estimate.{Estimate}
use Rattle.sketch.specs.declared.estimates.Estimate.TheVariants.{Exact, About}
use Rattle.sketch.specs.Sketches.{is_sketch}
use Rattle.sketch.specs.Estimates.{of_estimate, upper, lower, float_for, Worth, Estimates}
use Rattle.sketch.proofs.Facts.{sketch_facts}
use Rattle.sketch.proofs.Worth.{few_enough, float-exact, region-zero, weighs_exact, weighs_about, estimate_one}

-- about the whole number n, with nothing lost
abbrev pub AboutWhole : Estimate → ℕ → Type 0
AboutWhole r n = (r ≡ About (float n)) × HasValue (float n) false n 1

module _ (k : Sketch) (r : Estimate) (e : Estimates k r) (one : is_sketch k ≡ true) where
  pub exact-zero : k.level ≡ 0 → r ≡ Exact k.count
  exact-zero z = estimate_one r (Exact k.count) (e.answer ∙ weighs_exact k one z)

  pub about-near : (k.level ≡ 0 → ⊥) → (r ≡ About (float_for k)) × Near (upper k) (lower k) (float_for k)
  about-near z =
      let told = estimate_one r (About (float_for k)) (e.answer ∙ weighs_about k one z) in
      (told, subst (λ (x : Estimate). Worth (of_estimate x) (upper k) (lower k)) told e.value)

  -- where the region's size divides
  about-whole : (k.level ≡ 0 → ⊥) → (n : ℕ) → upper k ≡ n * lower k → n ≤ 2 ^ 53 → AboutWhole r n
  about-whole z n d h = ((about-near z).0 ∙ ap About (float-exact k (sketch_facts k one) n d), held n h)

  pub about-none : (k.level ≡ 0 → ⊥) → k.count ≡ 0 → AboutWhole r 0
  about-none z none =
      about-whole z 0 (ap (λ (c : ℕ). c * k.settings.p) none ∙ zero-mul k.settings.p ∙ sym (zero-mul (lower k))) (lit≤ tt)

  pub about-top : k.level ≡ top k.settings → AboutWhole r (k.count * k.settings.p)
  about-top t =
      let s = k.settings in
      let w = sketch_facts k one in
      let single : region s k.level ≡ 1 = ap (region s) t ∙ region-top s (positive s w.settings) (small s w.settings) in
      let above : k.level ≡ 0 → ⊥ = λ z. omega (arith, single, region-zero s k.level z, w.settings.p_low, w.settings.n_low) in
      about-whole above (k.count * s.p) (sym (mul-one (k.count * s.p)) ∙ ap (λ (x : ℕ). k.count * s.p * x) (sym single)) (few_enough k w)

  pub about-one : k.level ≡ top k.settings → k.count ≡ 1 → AboutWhole r k.settings.p
  about-one t c = subst (AboutWhole r) (ap (λ (x : ℕ). x * k.settings.p) c ∙ one-mul k.settings.p) (about-top t)

  pub about_127 : k.level ≡ top k.settings → k.settings.p ≡ 127 → AboutWhole r (k.count * 127)
  about_127 t p = subst (AboutWhole r) (ap (λ (x : ℕ). k.count * x) p) (about-top t)
