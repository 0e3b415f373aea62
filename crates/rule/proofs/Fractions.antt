-- The hash by rounded fractions, over plain numbers: M is 2^32 in the code, and K is 2^33.
--     fraction_fits     a number below p, over p, is below 1
--     quotient_low, quotient_high     with both fractions rounded down, the quotient is right or one less
--     rest_once     then what is left has p at most once, and without it is the rest of the division
--     Divided, divided     both, for the numbers that the code has
-- Assumes nothing.
use Prim.Native.Nat.{ℕ, ◌+◌, ◌-◌, ◌*◌, ◌/◌, ◌%◌, ◌^◌, ◌<◌, ◌≤◌}
use mathlib.Core.Path.{◌≡◌, refl, ap, ◌∙◌}
use mathlib.Core.Logic.{⊎_elim}
use native.Mathlib.Omega.{arith}
use native.Mathlib.Nat.{div-mul-le_self, lt-div-mul-add, div-lt_iff_lt-mul, mul-le-mul_right, mul-lt-mul_of_pos_left, le_of_mul-le-mul_right}
use native.Mathlib.Nat.{lt_of_mul-lt-mul_right, div-eq_of_lt, div-eq_of_lt-le, mul-add-mod_self_right, mod-eq_of_lt}
use Rattle.lists.proofs.Tests.{by_order}

pub fraction_fits : (a p M : ℕ) → a < p → 0 < M → a * M / p < M
fraction_fits a p M h pos = (div-lt_iff_lt-mul {k = p} {x = a * M} {y = M} (omega arith)).1 (omega (arith, mul-lt-mul_of_pos_left {m = a} {n = p} {k = M} h pos))

-- w and c are the two fractions, and q the quotient that they give. Rounding down loses less than p of a·M and of b·M,
-- so less than (x + 1)·p of (a·x + b)·M, which is at most p·M: one in the quotient.
module _ (a b p x M w c q : ℕ) (ha : a < p) (hx : x < M) (ew : w ≡ a * M / p) (ec : c ≡ b * M / p) (eq : q ≡ (w * x + c) / M) where
  quotient_low : q * p ≤ a * x + b
  quotient_low =
      let all : q * M ≤ w * x + c = omega (arith, ap (λ (y : ℕ). y * M) eq, div-mul-le_self (w * x + c) M) in
      let of-a : w * p ≤ a * M = omega (arith, ap (λ (y : ℕ). y * p) ew, div-mul-le_self (a * M) p) in
      let of-b : c * p ≤ b * M = omega (arith, ap (λ (y : ℕ). y * p) ec, div-mul-le_self (b * M) p) in
      le_of_mul-le-mul_right {m = q * p} {n = a * x + b} {k = M} (omega (arith, mul-le-mul_right p all, mul-le-mul_right x of-a)) (omega arith)

  quotient_high : a * x + b < (q + 2) * p
  quotient_high =
      let all : w * x + c + x + 1 ≤ q * M + 2 * M = omega (arith, ap (λ (y : ℕ). y * M) eq, lt-div-mul-add {a = w * x + c} {b = M} (omega arith)) in
      let of-a : a * M ≤ w * p + p = omega (arith, ap (λ (y : ℕ). y * p) ew, lt-div-mul-add {a = a * M} {b = p} (omega arith)) in
      let of-b : b * M < c * p + p = omega (arith, ap (λ (y : ℕ). y * p) ec, lt-div-mul-add {a = b * M} {b = p} (omega arith)) in
      lt_of_mul-lt-mul_right M {m = a * x + b} {n = (q + 2) * p} (omega (arith, mul-le-mul_right p all, mul-le-mul_right x of-a))

-- u is q times p and `left`, which is below 2p; `over` is 1 where p is in it, and otherwise 0
module _ (u q p K left over : ℕ) (low : q * p ≤ u) (high : u < (q + 2) * p) (room : p ≤ K) (el : left ≡ u - q * p) (eo : over ≡ (left + (K - p)) / K) where
  rest_once : (over * p ≤ left) × (left - over * p ≡ u % p)
  rest_once =
      ⊎_elim
      (λ (h : left < p).
      let o : over * p ≡ 0 * p = ap (λ (y : ℕ). y * p) (eo ∙ div-eq_of_lt {n = left + (K - p)} {m = K} (omega arith)) in
      let e : q * p + left ≡ u = omega arith in
      (omega arith, omega (arith, ap (λ (y : ℕ). y % p) e, mul-add-mod_self_right q p left, mod-eq_of_lt {n = left} {m = p} h)))
      (λ (h : p ≤ left).
      let o : over * p ≡ 1 * p = ap (λ (y : ℕ). y * p) (eo ∙ div-eq_of_lt-le {k = 1} K {m = left + (K - p)} (omega arith) (omega arith)) in
      let e : (q + 1) * p + (left - p) ≡ u = omega arith in
      (omega arith, omega (arith, ap (λ (y : ℕ). y % p) e, mul-add-mod_self_right (q + 1) p (left - p), mod-eq_of_lt {n = left - p} {m = p} (omega arith))))
      (by_order left p)

-- the steps of the code, from the two fractions w and c
abbrev quotient : ℕ → ℕ → ℕ → ℕ
quotient x w c = (w * x + c) / 2 ^ 32

abbrev leaves : ℕ → ℕ → ℕ → ℕ → ℕ → ℕ → ℕ
leaves a b p x w c = a * x + b - quotient x w c * p

abbrev over : ℕ → ℕ → ℕ
over p left = (left + (2 ^ 33 - p)) / 2 ^ 33

pub record Divided (a b p x w c : ℕ) : Type 0 where
  pub low : quotient x w c * p ≤ a * x + b
  pub few : leaves a b p x w c < 2 * p
  pub once : over p (leaves a b p x w c) * p ≤ leaves a b p x w c
  pub rest : leaves a b p x w c - over p (leaves a b p x w c) * p ≡ (a * x + b) % p

pub divided : (a b p x w c : ℕ) → a < p → p < 2 ^ 32 → x < 2 ^ 32 → w ≡ a * 2 ^ 32 / p → c ≡ b * 2 ^ 32 / p → Divided a b p x w c
divided a b p x w c ha hp hx ew ec =
    let low = quotient_low a b p x (2 ^ 32) w c (quotient x w c) ha hx ew ec refl in
    let high = quotient_high a b p x (2 ^ 32) w c (quotient x w c) ha hx ew ec refl in
    let once = rest_once (a * x + b) (quotient x w c) p (2 ^ 33) (leaves a b p x w c) (over p (leaves a b p x w c)) low high (omega arith) refl refl in
    record { low = low; few = omega arith; once = once.0; rest = once.1 }
