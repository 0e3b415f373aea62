-- The laws of a walk over a row by an index.
--     next, take_next     the next element of what is left, and of what is walked
--     part_rest       the part of a row from an index on, as a slice
--     slice_next, slice_part      the part between two indices: one element more; what is left from the first index on, up to the second
--     filter_on, filter_off, filter-room      a turn of a walk that takes the numbers of a set
--     length_more     one element more
-- Assumes nothing.
use mathlib.Core.Path.{◌≡◌, sym, ap, ◌∙◌}
use mathlib.Core.Bool.{Bool, true, false}
use mathlib.Core.List.{List, [], ◌∷◌, ◌++◌, append-nil}
use Prim.Native.Nat.{ℕ, zero, suc, ◌+◌, ◌-◌, ◌<◌, ◌≤◌}
use native.Mathlib.Omega.{arith}
use native.Mathlib.Numerals.{add-one}
use lib.ListN.{length, take, drop, get_or, length-append, length-drop}
use lib.Seq.{drop-cons, take-suc, take_all, take-nil, split_at, slice, length-take-le, drop-append-le}
use Rattle.lists.specs.Lists.{filter}
use Rattle.lists.proofs.Filters.{filter-append}

pub next : (l : List ℕ) (i : ℕ) → i < length l → drop i l ≡ get_or l i 0 ∷ drop (i + 1) l
next l i h = rw (add-one, ← drop-cons l i 0 h)

pub take_next : (l : List ℕ) (i : ℕ) → i < length l → take (i + 1) l ≡ take i l ++ (get_or l i 0 ∷ [])
take_next l i h = rw (add-one, ← take-suc l i 0 h)

pub part_rest : (l : List ℕ) (i : ℕ) → take (length l - i) (drop i l) ≡ drop i l
part_rest l i = take_all (length l - i) (drop i l) (omega (arith, length-drop i l))

pub slice_next : (f i : ℕ) (l : List ℕ) → f ≤ i → i < length l → slice f (i + 1) l ≡ slice f i l ++ (get_or l i 0 ∷ [])
slice_next f i l k h = ap (drop f) (take_next l i h) ∙ drop-append-le f (take i l) (get_or l i 0 ∷ []) (omega (arith, length-take-le i l (omega arith)))

pub slice_part : (f t : ℕ) (l : List ℕ) → slice f t l ≡ take (t - f) (drop f l)
slice_part zero t l = let e : t - 0 ≡ t = omega arith in rw e
slice_part (suc f) zero l = let e : 0 - suc f ≡ 0 = omega arith in rw e
slice_part (suc f) (suc t) [] = sym (take-nil (suc t - suc f))
slice_part (suc f) (suc t) (x ∷ xs) = let e : suc t - suc f ≡ t - f = omega arith in rw e (slice_part f t xs)

pub length_more : (xs : List ℕ) (x : ℕ) → length (xs ++ (x ∷ [])) ≡ length xs + 1
length_more xs x = length-append xs (x ∷ [])

module _ (X : ℕ → Bool) (l : List ℕ) (i : ℕ) (h : i < length l) where
  pub filter_on : X (get_or l i 0) ≡ true → filter X (take (i + 1) l) ≡ filter X (take i l) ++ (get_or l i 0 ∷ [])
  filter_on t = rw (take_next l i h, filter-append, t)

  pub filter_off : X (get_or l i 0) ≡ false → filter X (take (i + 1) l) ≡ filter X (take i l)
  filter_off t = rw (take_next l i h, filter-append, t, append-nil)

  -- there is room for it
  pub filter-room : X (get_or l i 0) ≡ true → length (filter X (take i l)) < length (filter X l)
  filter-room t =
      let e : filter X l ≡ filter X (take i l) ++ (get_or l i 0 ∷ filter X (drop (suc i) l)) = ap (filter X) (split_at l i 0 h) ∙ (rw (filter-append, t)) in
      rw (e, length-append) (omega arith)
