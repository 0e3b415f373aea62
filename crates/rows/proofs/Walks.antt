-- The turns and the end of the walks over a row that test it or store what passes, and what a search by halving finds.
--     passing-room, passing_on, passing_off       the room and the turn of `store_passing` and `keep_passing`
--     test_on, test_end       the walks of `in_order`, `all_pass` and `zeros`
--     none_seen      what `zeros` has seen
--     all-pass-zero      at level 0 every cell passes
--     parted      what the search of `below` found
-- Assumes nothing.
use Prim.Native.Nat.{ℕ, zero, suc, ◌+◌, ◌<◌, ◌≤◌}
use mathlib.Core.Path.{◌≡◌, refl, sym, ap, ◌∙◌}
use mathlib.Core.Bool.{Bool, true, false, ◌&&◌, and_assoc, and-true, true≢false}
use mathlib.Core.Logic.{⊎_elim}
use mathlib.Core.List.{List, [], ◌∷◌}
use native.Mathlib.Omega.{arith}
use lib.Bits.{bit_or, or_zero_l, or_add_and, and_le_r}
use lib.Dec.{eqb}
use lib.ListN.{length, take, drop, get_or, set, drop_of_length-le}
use borrow.Author.Tests.{eqb-true, eq-eqb}
use Rattle.std.specs.List.Sorted.{IsPartitionPoint}
use Rattle.lists.specs.Lists.{filter}
use Rattle.lists.specs.Rows.{Stored}
use Rattle.lists.proofs.Tests.{tested}
use Rattle.lists.proofs.Steps.{next, filter_on, filter_off, filter-room}
use Rattle.lists.proofs.Stores.{stored_more}
use Rattle.rule.specs.declared.Settings.{Settings}
use Rattle.rule.specs.Cells.{Cells}
use Rattle.rule.specs.Rule.{passes}
use Rattle.rule.proofs.Passing.{passes-zero}
use Rattle.rows.specs.Walked.{all_in}

-- A walk over l that stores the cells of a set. x was read as its cell i, from l itself or from what l has become since.
module _ (X : Cells) (l : List ℕ) (i : ℕ) (within : i < length l) {x : ℕ} (read : x ≡ get_or l i 0) {row : List ℕ} {k place : ℕ} {after : List ℕ}
    (g : Stored row k (filter X (take i l)) place after) where
  pub passing-room : X x ≡ true → place < k + length (filter X l)
  passing-room t = omega (arith, g.next_place, filter-room X l i within (ap X (sym read) ∙ t))

  pub passing_on : X x ≡ true → place < length row → Stored row k (filter X (take (i + 1) l)) (place + 1) (set after place x)
  passing_on t room = rw (filter_on X l i within (ap X (sym read) ∙ t), ← read) (stored_more g x room)

  pub passing_off : X x ≡ false → Stored row k (filter X (take (i + 1) l)) place after
  passing_off t = rw (filter_off X l i within (ap X (sym read) ∙ t)) g

-- A walk that tests every cell: t is the test so far, f what is to hold of the cells from i on, and g of those after cell i.
module _ (l : List ℕ) (i : ℕ) (t r : Bool) (f : List ℕ → Bool) (e : (t && f (drop i l)) ≡ r) where
  pub test_on : i < length l → (u : Bool) (g : List ℕ → Bool) → f (get_or l i 0 ∷ drop (i + 1) l) ≡ (u && g (drop (i + 1) l))
      → ((t && u) && g (drop (i + 1) l)) ≡ r
  test_on h u g q = and_assoc t u (g (drop (i + 1) l)) ∙ ap (λ v. t && v) (sym (ap f (next l i h) ∙ q)) ∙ e

  pub test_end : length l ≤ i → f [] ≡ true → t ≡ r
  test_end h q = sym (and-true t) ∙ ap (λ v. t && v) (sym (ap f (drop_of_length-le l {i = i} h) ∙ q)) ∙ e

-- the bits seen so far and those of one more place are none where both are none
pub none_seen : (s x : ℕ) → eqb (bit_or s x) 0 ≡ (eqb s 0 && eqb x 0)
none_seen s x =
    ⊎_elim
    (λ (z : eqb s 0 ≡ true). ap (λ (v : ℕ). eqb (bit_or v x) 0) (eqb-true s 0 z) ∙ ap (λ (v : ℕ). eqb v 0) (or_zero_l x)
    ∙ ap (λ (t : Bool). t && eqb x 0) (sym z))
    (λ (z : eqb s 0 ≡ false).
    ⊎_elim
    (λ (o : eqb (bit_or s x) 0 ≡ true).
    let none : s ≡ 0 = omega (arith, eqb-true (bit_or s x) 0 o, or_add_and s x, and_le_r s x) in
    absurd (true≢false (sym (eq-eqb s 0 none) ∙ z)))
    (λ (o : eqb (bit_or s x) 0 ≡ false). o ∙ ap (λ (t : Bool). t && eqb x 0) (sym z))
    (tested (eqb (bit_or s x) 0)))
    (tested (eqb s 0))

-- at level 0 every cell passes
pub all-pass-zero : (s : Settings) → 0 < s.p → (xs : List ℕ) → all_in (passes s 0) xs ≡ true
all-pass-zero s h [] = refl
all-pass-zero s h (x ∷ xs) = rw (passes-zero s x h) (all-pass-zero s h xs)

-- where the first n cells of a row are in a set and the others are not, n is how many are
pub parted : (X : Cells) (row : List ℕ) (n : ℕ) → n ≤ length row → IsPartitionPoint (λ y. X y ≡ true) (λ y. X y ≡ false) row n → n ≡ length (filter X row)
parted X [] n w g = omega arith
parted X (y ∷ ys) zero w g =
    rw (g.1 0 0 (omega arith) (omega arith))
    (parted X ys zero (omega arith) (λ k d l h. absurd (omega arith), λ k d l h. g.1 (suc k) d (omega arith) (omega arith)))
parted X (y ∷ ys) (suc n) w g =
    rw (g.0 0 0 (omega arith) (omega arith))
    (ap suc (parted X ys n (omega arith) (λ k d l h. g.0 (suc k) d (omega arith) (omega arith), λ k d l h. g.1 (suc k) d (omega arith) (omega arith))))
