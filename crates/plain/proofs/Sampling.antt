-- The sample at a level, of the cells of a row together with those of lo..hi, by testing each cell.
--     looked_for      whether a cell is kept
--     out_of_it, of_the_stretch, of_the_kept, of_none      whether a cell is in the sample
--     too_many, few_enough      whether it fits
-- Assumes nothing.
use mathlib.Core.Path.{◌≡◌, refl, sym, ap, ◌∙◌}
use mathlib.Core.Bool.{Bool, true, false, not, ◌&&◌, ◌||◌, and-true, and-false, or-true, or-false}
use mathlib.Core.List.{List, [], ◌∷◌}
use Prim.Native.Nat.{ℕ, ◌<◌, ◌≤◌}
use native.Mathlib.Omega.{arith}
use lib.Dec.{leb, eqb}
use lib.ListN.{length}
use borrow.Author.Tests.{lt-leb, eqb-true}
use Rattle.std.specs.List.{list_any}
use Rattle.std.proofs.lemmas.Bool.Decides.{nat_tests}
use Rattle.lists.specs.Lists.{listed}
use Rattle.rule.specs.declared.Settings.{Settings}
use Rattle.rule.specs.Cells.{Cells}
use Rattle.rule.specs.Rule.{passes}
use Rattle.rule.specs.Samples.{passing, sample, fits}
use Rattle.rule.proofs.Samples.{few-fits}
use Rattle.plain.specs.declared.adding.Adding.{Adding}
use Rattle.plain.specs.Plain.{cells_of}

-- is x one of the row's?
pub looked_for : (row : List ℕ) (x : ℕ) → list_any (λ y. eqb y x) row ≡ listed row x
looked_for [] x = refl
looked_for (y ∷ ys) x = let e : eqb y x ≡ eqb x y = grind (arith, nat_tests) in rw e (ap (λ (t : Bool). eqb x y || t) (looked_for ys x))

empty_keeps : (row : List ℕ) (x : ℕ) → length row ≡ 0 → false ≡ listed row x
empty_keeps [] x e = refl
empty_keeps (y ∷ ys) x e = absurd (omega arith)

-- p says whether it passes
module _ (a : Adding) (level x : ℕ) {p : Bool} (said : p ≡ passes a.settings level x) where
  pub out_of_it : p ≡ false → p ≡ passing a.settings (cells_of a) level x
  unfolding passing
  out_of_it e = e ∙ (rw (sym said ∙ e, and-false))

  pub of_the_stretch : (t : Bool) → p ≡ true → t ≡ (leb a.lo x && leb x a.hi) → t ≡ true → t ≡ passing a.settings (cells_of a) level x
  unfolding passing
  of_the_stretch t e d f = f ∙ (rw (sym d ∙ f, sym said ∙ e, or-true))

  pub of_the_kept : (r : Bool) → p ≡ true → (leb a.lo x && leb x a.hi) ≡ false → r ≡ list_any (λ y. eqb y x) a.kept.now → r ≡ passing a.settings (cells_of a) level x
  unfolding passing
  of_the_kept r e f g = g ∙ looked_for a.kept.now x ∙ (rw (f, sym said ∙ e, or-false, and-true))

  pub of_none : (t : Bool) → p ≡ true → (leb a.lo x && leb x a.hi) ≡ false → t ≡ eqb (length a.kept.now) 0 → t ≡ true → not t ≡ passing a.settings (cells_of a) level x
  unfolding passing
  of_none t e f g h = rw h (empty_keeps a.kept.now x (eqb-true (length a.kept.now) 0 (sym g ∙ h)) ∙ (rw (f, sym said ∙ e, or-false, and-true)))

-- whether the sample at a level fits, by how many cells it has
module _ (s : Settings) (X : Cells) (level : ℕ) {many : ℕ} (counted : many ≡ length (sample s X level)) where
  pub too_many : s.capacity < many → fits s X level ≡ false
  unfolding fits
  too_many h = lt-leb (length (sample s X level)) s.capacity (omega (arith, counted))

  pub few_enough : many ≤ s.capacity → fits s X level ≡ true
  few_enough h = few-fits s X level (omega (arith, counted))
