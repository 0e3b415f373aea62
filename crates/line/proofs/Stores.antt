-- The walk that stores digits.
--     placed-before, digit-stored    one byte stored before the rest of a text: digits, from the last on
-- Assumes nothing.
use mathlib.Core.Path.{◌≡◌, refl, sym, ap, ◌∙◌}
use mathlib.Core.List.{List, [], ◌∷◌, ◌++◌, append_assoc}
use Prim.Native.Nat.{ℕ, zero, suc, ◌+◌, ◌-◌, ◌/◌, ◌%◌, ◌≤◌, ◌<◌}
use native.Mathlib.Omega.{arith}
use lib.ListN.{length, take, drop, set, length-append}
use lib.Seq.{set_split, length-take-le, take-set-le, drop_at}
use Rattle.lists.specs.Rows.{placed}
use Rattle.lists.proofs.Steps.{length_more}
use Rattle.line.proofs.Decimals.{last_digits}

pub placed-before : (row : List ℕ) (k : ℕ) (xs : List ℕ) (d : ℕ) → k + length xs < length row
    → placed (set row (k + length xs) d) k xs ≡ placed row k (xs ++ (d ∷ []))
placed-before row k xs d h =
    let j : ℕ = k + length xs in
    let t : take k (set row j d) ≡ take k row = take-set-le k row j d (omega arith) in
    let b : drop j (set row j d) ≡ d ∷ drop (suc j) row =
    ap (drop j) (set_split row j d h) ∙ drop_at (take j row) (d ∷ drop (suc j) row) j (length-take-le j row (omega arith)) in
    let e : suc j ≡ k + length (xs ++ (d ∷ [])) = omega (arith, length-append xs (d ∷ [])) in
    rw (t, b, e, append_assoc xs (d ∷ []) (drop (k + length (xs ++ (d ∷ []))) row))

-- a walk that stores digits from the last on
last-length : (m y : ℕ) → length (last_digits m y) ≡ m
last-length zero y = refl
last-length (suc m) y = omega (arith, length_more (last_digits m (y / 10)) (48 + y % 10), last-length m (y / 10))

pub digit-stored : (out : List ℕ) (at i y : ℕ) → at < i → i ≤ length out
    → placed (set out (i - 1) (48 + y % 10)) at (last_digits (i - 1 - at) (y / 10)) ≡ placed out at (last_digits (i - at) y)
digit-stored out at i y h l =
    let m : ℕ = i - 1 - at in
    let e : i - at ≡ suc m = omega arith in
    let n : length (last_digits m (y / 10)) ≡ m = last-length m (y / 10) in
    let j : i - 1 ≡ at + length (last_digits m (y / 10)) = omega arith in
    ap (λ (k : ℕ). placed (set out k (48 + y % 10)) at (last_digits m (y / 10))) j
    ∙ placed-before out at (last_digits m (y / 10)) (48 + y % 10) (omega arith)
    ∙ ap (λ (k : ℕ). placed out at (last_digits k y)) (sym e)
