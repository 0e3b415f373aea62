-- The laws of a row with a list stored in it, and of zeros.
--     placed-none, placed_one      nothing stored; one element
--     placed-length   a store does not change how many places there are
--     placed_front, placed_back    what stands up to the end of the list, and after it
--     placed_twice    two lists stored one after the other
--     placed_more     one element stored after a list
--     placed-pad, placed-after     a list stored in zeros, and after a list with zeros after it
--     pad-length, pad_cut     how many places a list has with zeros after it; with fewer zeros
--     zero_facts, zeros_zero       a row of nothing but zeros
-- Assumes nothing.
use mathlib.Core.Path.{◌≡◌, refl, sym, ap, ◌∙◌}
use mathlib.Core.Bool.{true, and-eq-true_iff}
use mathlib.Core.List.{List, [], ◌∷◌, ◌++◌, append_assoc}
use Prim.Native.Nat.{ℕ, zero, suc, ◌+◌, ◌-◌, ◌≤◌, ◌<◌}
use native.Mathlib.Omega.{arith}
use native.Mathlib.Nat.{add-zero, zero-add}
use native.Mathlib.Numerals.{add-one}
use lib.Dec.{eqb}
use lib.ListN.{length, take, drop, set, replicate, length-append, length-drop, length-replicate, take-append-drop}
use lib.Seq.{length-take-le, drop-drop, take_at, drop_at, set_split}
use borrow.Author.Tests.{eqb-true}
use Rattle.lists.specs.Rows.{pad, placed, all_zero}

pub placed-none : (row : List ℕ) (k : ℕ) → placed row k [] ≡ row
placed-none row k = rw (add-zero, take-append-drop)

pub placed_one : (row : List ℕ) (k x : ℕ) → k < length row → set row k x ≡ placed row k (x ∷ [])
placed_one row k x h = rw (add-one, ← set_split row k x h)

pub placed-length : (row : List ℕ) (k : ℕ) (xs : List ℕ) → k + length xs ≤ length row → length (placed row k xs) ≡ length row
placed-length row k xs h =
    let t : length (take k row) ≡ k = length-take-le k row (omega arith) in
    simp (length-append, length-drop) (omega arith)

-- the row, cut after the list that is stored in it
module _ (row : List ℕ) (k : ℕ) (xs : List ℕ) where
  placed_cut : placed row k xs ≡ (take k row ++ xs) ++ drop (k + length xs) row
  placed_cut = sym (append_assoc (take k row) xs (drop (k + length xs) row))

  placed_seam : k ≤ length row → length (take k row ++ xs) ≡ k + length xs
  placed_seam h = let t : length (take k row) ≡ k = length-take-le k row h in omega (arith, length-append (take k row) xs)

  pub placed_front : k ≤ length row → take (k + length xs) (placed row k xs) ≡ take k row ++ xs
  placed_front h = ap (take (k + length xs)) placed_cut ∙ take_at (take k row ++ xs) (drop (k + length xs) row) (k + length xs) (placed_seam h)

  pub placed_back : k ≤ length row → drop (k + length xs) (placed row k xs) ≡ drop (k + length xs) row
  placed_back h = ap (drop (k + length xs)) placed_cut ∙ drop_at (take k row ++ xs) (drop (k + length xs) row) (k + length xs) (placed_seam h)

  pub placed_twice : (ys : List ℕ) → k ≤ length row → placed (placed row k xs) (k + length xs) ys ≡ placed row k (xs ++ ys)
  placed_twice ys h =
      let m : ℕ = k + length xs in
      let rest : drop (m + length ys) (placed row k xs) ≡ drop (m + length ys) row =
      sym (drop-drop (length ys) m (placed row k xs)) ∙ ap (drop (length ys)) (placed_back h) ∙ drop-drop (length ys) m row in
      let e : m + length ys ≡ k + length (xs ++ ys) = omega (arith, length-append xs ys) in
      rw (placed_front h, rest, e) (simp append_assoc)

pub placed_more : (row : List ℕ) (k : ℕ) (xs : List ℕ) (x : ℕ) → k + length xs < length row
    → set (placed row k xs) (k + length xs) x ≡ placed row k (xs ++ (x ∷ []))
placed_more row k xs x h =
    placed_one (placed row k xs) (k + length xs) x (omega (arith, placed-length row k xs (omega arith)))
    ∙ placed_twice row k xs (x ∷ []) (omega arith)

drop_zeros : (k n : ℕ) → drop {A = ℕ} k (replicate n 0) ≡ replicate (n - k) 0
drop_zeros zero n = let e : n - 0 ≡ n = omega arith in rw e
drop_zeros (suc k) zero = let e : 0 - suc k ≡ 0 = omega arith in rw e
drop_zeros (suc k) (suc n) = let e : suc n - suc k ≡ n - k = omega arith in rw e (drop_zeros k n)

take_zeros : (k n : ℕ) → k ≤ n → take {A = ℕ} k (replicate n 0) ≡ replicate k 0
take_zeros zero n h = refl
take_zeros (suc k) zero h = absurd (omega arith)
take_zeros (suc k) (suc n) h = ap (λ (l : List ℕ). 0 ∷ l) (take_zeros k n (omega arith))

pub pad-length : (n : ℕ) (xs : List ℕ) → length xs ≤ n → length (pad n xs) ≡ n
pad-length n xs h = simp (length-append, length-replicate) (omega arith)

pub pad_cut : (m n : ℕ) (xs : List ℕ) → length xs ≤ m → m ≤ n → take m (pad n xs) ≡ pad m xs
pad_cut m n [] few h =
    let e : m - 0 ≡ m = omega arith in
    let f : n - 0 ≡ n = omega arith in
    rw (e, f) (take_zeros m n h)
pad_cut zero n (x ∷ xs) few h = absurd (omega arith)
pad_cut (suc m) zero (x ∷ xs) few h = absurd (omega arith)
pad_cut (suc m) (suc n) (x ∷ xs) few h =
    let e : suc m - suc (length xs) ≡ m - length xs = omega arith in
    let f : suc n - suc (length xs) ≡ n - length xs = omega arith in
    rw (e, f) (ap (λ (l : List ℕ). x ∷ l) (pad_cut m n xs (omega arith) (omega arith)))

pub placed-pad : (n : ℕ) (xs : List ℕ) → placed (replicate n 0) 0 xs ≡ pad n xs
placed-pad n xs = rw (zero-add, drop_zeros)

pub placed-after : (n : ℕ) (xs ys : List ℕ) → placed (pad n xs) (length xs) ys ≡ pad n (xs ++ ys)
placed-after n xs ys =
    let e : 0 + length xs ≡ length xs = omega arith in
    ap (λ (k : ℕ). placed (pad n xs) k ys) (sym e)
    ∙ ap (λ (row : List ℕ). placed row (0 + length xs) ys) (sym (placed-pad n xs))
    ∙ placed_twice (replicate n 0) 0 xs ys (omega arith)
    ∙ placed-pad n (xs ++ ys)

pub zero_facts : (xs : List ℕ) → all_zero xs ≡ true → xs ≡ replicate (length xs) 0
zero_facts [] e = refl
zero_facts (x ∷ xs) e =
    let h = (and-eq-true_iff (eqb x 0) (all_zero xs)).0 e in
    let z : x ≡ 0 = eqb-true x 0 h.0 in
    let r : xs ≡ replicate (length xs) 0 = zero_facts xs h.1 in
    cc

pub zeros_zero : (n : ℕ) → all_zero (replicate n 0) ≡ true
zeros_zero zero = refl
zeros_zero (suc n) = zeros_zero n
