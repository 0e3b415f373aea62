-- The laws of the next hit that callers cite: the contract allows one answer, and what an answer says of each element's test. Assumes nothing.
use mathlib.Core.Path.{◌≡◌, refl, ap, subst}
use mathlib.Core.Bool.{true, false}
use Prim.Native.Nat.{ℕ, ◌+◌, ◌*◌, ◌%◌, ◌<◌}
use native.Mathlib.Nat.{le_antisymm}
use native.Mathlib.Omega.{by_contra}
use lib.Dec.{ltb}
use borrow.Author.Tests.{lt-ltb, le-ltb}
use Rattle.next.specs.Hit.{First, Finds}
use Rattle.std.specs.Prelude.{Option, Some, None}

first_unique : (p a u l i j : ℕ) → First p a u l i → First p a u l j → i ≡ j
first_unique p a u l i j f g =
    le_antisymm (by_contra i j (λ h. f.least j h g.hit)) (by_contra j i (λ h. g.least i h f.hit))

pub answer_unique : (p a u l n : ℕ) (x y : Option ℕ) → Finds p a u l n x → Finds p a u l n y → x ≡ y
unfolding Finds
answer_unique p a u l n (Some i) (Some j) f g = ap Some (first_unique p a u l i j f.1 g.1)
answer_unique p a u l n (Some i) None f g = absurd (g i f.0 f.1.hit)
answer_unique p a u l n None (Some j) f g = absurd (f j g.0 g.1.hit)
answer_unique p a u l n None None f g = refl

-- an answer x, and which one it is
pub answer_at : (p a u l n i : ℕ) (x : Option ℕ) → Finds p a u l n x → x ≡ Some i
    → (i < n) × (ltb ((u + i * a) % p) l ≡ true) × ((j : ℕ) → j < i → ltb ((u + j * a) % p) l ≡ false)
unfolding Finds
answer_at p a u l n i x f e = told (subst (Finds p a u l n) e f)
  where
    told : (i < n) × First p a u l i → (i < n) × (ltb ((u + i * a) % p) l ≡ true) × ((j : ℕ) → j < i → ltb ((u + j * a) % p) l ≡ false)
    told g = (g.0, lt-ltb _ _ g.1.hit, λ j h. le-ltb _ _ (by_contra _ _ (g.1.least j h)))

pub answer-nothing : (p a u l n : ℕ) (x : Option ℕ) → Finds p a u l n x → x ≡ None → (i : ℕ) → i < n → ltb ((u + i * a) % p) l ≡ false
unfolding Finds
answer-nothing p a u l n x f e i h = le-ltb _ _ (by_contra _ _ (subst (Finds p a u l n) e f i h))
