-- The laws of the union of two rising lists.
--     listed-union    what is in it
--     rising_union    it rises
--     union-short     it is no longer than both together
-- Assumes nothing.
use mathlib.Core.Path.{◌≡◌, sym, ap, ◌∙◌, subst, refl}
use mathlib.Core.Bool.{Bool, true, false, cond, ◌||◌, or-true, or-false, or_assoc}
use mathlib.Core.Logic.{⊎_elim}
use mathlib.Core.List.{List, [], ◌∷◌}
use Prim.Native.Nat.{ℕ, suc, ◌+◌, ◌≤◌, ◌<◌}
use native.Mathlib.Omega.{arith}
use lib.Dec.{ltb, eqb}
use lib.ListN.{length}
use borrow.Author.Tests.{lt-ltb, le-ltb}
use Rattle.lists.specs.Lists.{listed, Rising}
use Rattle.lists.specs.Rows.{union}
use Rattle.lists.proofs.Tests.{by_order}

-- the three cases of two heads
heads : (P : List ℕ → Type 0) (x y : ℕ) (a b c : List ℕ) → (x < y → P a) → (y < x → P b) → (x ≡ y → P c) → P (cond (ltb x y) a (cond (ltb y x) b c))
heads P x y a b c f g h =
    ⊎_elim
    (λ (l : x < y). rw (lt-ltb x y l) (f l))
    (λ (n : y ≤ x).
    ⊎_elim
    (λ (l : y < x). rw (le-ltb x y n, lt-ltb y x l) (g l))
    (λ (m : x ≤ y). rw (le-ltb x y n, le-ltb y x m) (h (omega arith)))
    (by_order y x))
    (by_order x y)

or_swap : (a b c d : Bool) → (c || ((a || b) || d)) ≡ ((a || b) || (c || d))
or_swap a b true d = sym (or-true (a || b))
or_swap a b false d = refl

or-both : (a b c : Bool) → (a || (b || c)) ≡ ((a || b) || (a || c))
or-both true b c = refl
or-both false b c = refl

pub listed-union : (c d : List ℕ) (z : ℕ) → listed (union c d) z ≡ (listed c z || listed d z)
unfolding union
listed-union [] d z = refl
listed-union (x ∷ xs) [] z = sym (or-false (listed (x ∷ xs) z))
listed-union (x ∷ xs) (y ∷ ys) z =
    heads (λ (l : List ℕ). listed l z ≡ (listed (x ∷ xs) z || listed (y ∷ ys) z)) x y (x ∷ union xs (y ∷ ys)) (y ∷ union (x ∷ xs) ys) (x ∷ union xs ys)
    (λ h. ap (λ (t : Bool). eqb z x || t) (listed-union xs (y ∷ ys) z) ∙ sym (or_assoc (eqb z x) (listed xs z) (listed (y ∷ ys) z)))
    (λ h. ap (λ (t : Bool). eqb z y || t) (listed-union (x ∷ xs) ys z) ∙ or_swap (eqb z x) (listed xs z) (eqb z y) (listed ys z))
    (λ h.
    ap (λ (t : Bool). eqb z x || t) (listed-union xs ys z)
    ∙ or-both (eqb z x) (listed xs z) (listed ys z)
    ∙ ap (λ (v : ℕ). (eqb z x || listed xs z) || (eqb z v || listed ys z)) h)

pub rising_union : (c d : List ℕ) (lo hi : ℕ) → Rising lo hi c → Rising lo hi d → Rising lo hi (union c d)
unfolding union
rising_union [] d lo hi r w = w
rising_union (x ∷ xs) [] lo hi r w = r
rising_union (x ∷ xs) (y ∷ ys) lo hi r w =
    heads (Rising lo hi) x y (x ∷ union xs (y ∷ ys)) (y ∷ union (x ∷ xs) ys) (x ∷ union xs ys)
    (λ h. (r.0, r.1, rising_union xs (y ∷ ys) (suc x) hi r.2 (h, w.1, w.2)))
    (λ h. (w.0, w.1, rising_union (x ∷ xs) ys (suc y) hi (h, r.1, r.2) w.2))
    (λ h. (r.0, r.1, rising_union xs ys (suc x) hi r.2 (subst (λ (v : ℕ). Rising (suc v) hi ys) (sym h) w.2)))

pub union-short : (c d : List ℕ) → length (union c d) ≤ length c + length d
unfolding union
union-short [] d = omega arith
union-short (x ∷ xs) [] = omega arith
union-short (x ∷ xs) (y ∷ ys) =
    heads (λ (l : List ℕ). length l ≤ suc (length xs) + suc (length ys)) x y (x ∷ union xs (y ∷ ys)) (y ∷ union (x ∷ xs) ys) (x ∷ union xs ys)
    (λ h. omega (arith, union-short xs (y ∷ ys)))
    (λ h. omega (arith, union-short (x ∷ xs) ys))
    (λ h. omega (arith, union-short xs ys))
