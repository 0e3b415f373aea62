-- Cases, and tests that say the same.
--     tested          a test is true or false
--     by_order        of two numbers the first is less, or it isn't
--     same_test       two tests that hold together are equal
--     ltb_not         "less" is not "at most" the other way round
-- Assumes nothing.
use mathlib.Core.Path.{◌≡◌, refl, sym, ap, ◌∙◌}
use mathlib.Core.Bool.{Bool, true, false, not}
use mathlib.Core.Logic.{◌⊎◌, inl, inr, ⊎_elim}
use Prim.Native.Nat.{ℕ, ◌≤◌, ◌<◌}
use native.Mathlib.Decide.{dec_le}
use native.Mathlib.Nat.{lt_of_not-le}
use lib.Dec.{leb, ltb}
use borrow.Author.Tests.{leb-true, leb-false, lt-ltb, le-ltb}

pub tested : (t : Bool) → (t ≡ true) ⊎ (t ≡ false)
tested true = inl refl
tested false = inr refl

pub by_order : (i j : ℕ) → (i < j) ⊎ (j ≤ i)
by_order i j = elim (dec_le j i) [ yes h ↦ inr h | no f ↦ inl (lt_of_not-le f) ]

pub same_test : (t u : Bool) → (t ≡ true → u ≡ true) → (u ≡ true → t ≡ true) → t ≡ u
same_test true u f g = sym (f refl)
same_test false true f g = g refl
same_test false false f g = refl

pub ltb_not : (x y : ℕ) → ltb x y ≡ not (leb y x)
ltb_not x y =
    ⊎_elim
    (λ (e : leb y x ≡ true). le-ltb x y (leb-true y x e) ∙ ap not (sym e))
    (λ (e : leb y x ≡ false). lt-ltb x y (leb-false y x e) ∙ ap not (sym e))
    (tested (leb y x))
