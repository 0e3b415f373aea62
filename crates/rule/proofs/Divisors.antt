-- The greatest common divisor: what it is, and that subtracting and halving finds it. Assumes nothing.
--     only_one, one_only    "no common divisor but 1" and "the greatest is 1" say the same
--     Strips, equal_bits, end_zeros     how often a number can be halved, told by its bits
--     KeepsDivisors, keeps_start, keeps_turn, keeps_end     the loop over two odd numbers
--     first-zero, second_zero, strips_end     zeros and even numbers
use Prim.Native.Nat.{ℕ, zero, suc, ◌+◌, ◌-◌, ◌*◌, ◌/◌, ◌%◌, ◌^◌, ◌<◌, ◌≤◌, ◌∣◌, min, max}
use mathlib.Core.Path.{◌≡◌, sym, ap, ap₂, ◌∙◌, subst}
use mathlib.Core.Bool.{true, and-eq-true_iff}
use mathlib.Core.Logic.{◌⊎◌, inl, inr, ⊎_elim}
use native.Mathlib.Omega.{arith}
use native.Mathlib.Nat.{mul-one, mul_assoc, pow-suc, suc-min-suc, le_trans, le-mul_of_pos_right, mul-dvd-mul, dvd_of_mul-dvd-mul_right, dvd-zero, one-dvd}
use native.Mathlib.Nat.{dvd_refl, dvd_trans, dvd-add, dvd-sub, dvd-add_iff_right, dvd-mul_left_of_dvd, dvd-mul_right_of_dvd, dvd-mul_right, le_of_dvd}
use native.Mathlib.Nat.{le_antisymm, pos_of_dvd_of_pos, dvd_iff_mod-eq-zero}
use borrow.Author.Tests.{eqb-true, eq-eqb}
use lib.Dec.{eqb, lit<}
use lib.Pow.{pow_pos, pow-add, shl-shr}
use lib.Count.{count_trailing_zeros, under}
use lib.Bits.{bit_xor, xor_add_and, xor_shr, xor_zero_r}
use Rattle.lists.specs.Searches.{greatest}
use Rattle.lists.proofs.Tests.{by_order}
use Rattle.lists.proofs.Searches.{greatest-above, greatest-found, greatest_to}
use Rattle.rule.specs.Rule.{divides_both, common_divisor}

both_facts : (x y d : ℕ) → divides_both x y d ≡ true → (d ∣ x) × (d ∣ y)
unfolding divides_both
both_facts x y d e =
    let h = (and-eq-true_iff (eqb (x % d) 0) (eqb (y % d) 0)).0 e in
    ((dvd_iff_mod-eq-zero d).1 (eqb-true _ _ h.0), (dvd_iff_mod-eq-zero d).1 (eqb-true _ _ h.1))

facts_both : (x y d : ℕ) → d ∣ x → d ∣ y → divides_both x y d ≡ true
unfolding divides_both
facts_both x y d hx hy = rw (eq-eqb _ _ ((dvd_iff_mod-eq-zero d).0 hx), eq-eqb _ _ ((dvd_iff_mod-eq-zero d).0 hy))

some_pos : (x y : ℕ) → 0 < max x y → (0 < y) ⊎ (0 < x)
some_pos x zero h = inr (omega arith)
some_pos x (suc y) h = inl (omega arith)

-- a common divisor, of numbers not both 0, is at most the greatest
common_below : (x y d : ℕ) → 0 < max x y → d ∣ x → d ∣ y → d ≤ common_divisor x y
unfolding common_divisor
common_below x y d pos hx hy =
    greatest-above (divides_both x y) (max x y) d
    (⊎_elim (λ h. omega (arith, le_of_dvd h hy)) (λ h. omega (arith, le_of_dvd h hx)) (some_pos x y pos))
    (facts_both x y d hx hy)

-- the greatest is one, or 0
common_is : (x y : ℕ) → (common_divisor x y ≡ 0) ⊎ ((common_divisor x y ∣ x) × (common_divisor x y ∣ y))
unfolding common_divisor
common_is x y = ⊎_elim (λ h. inl h) (λ h. inr (both_facts x y (greatest (divides_both x y) (max x y)) h)) (greatest-found (divides_both x y) (max x y))

-- of numbers not both 0 it is one
common_divides : (x y : ℕ) → 0 < max x y → (common_divisor x y ∣ x) × (common_divisor x y ∣ y)
common_divides x y pos = ⊎_elim (λ (z : common_divisor x y ≡ 0). absurd (omega (arith, common_below x y 1 pos (one-dvd x) (one-dvd y)))) (λ w. w) (common_is x y)

pub common_few : (x y : ℕ) → common_divisor x y ≤ max x y
unfolding common_divisor
common_few x y = greatest_to (divides_both x y) (max x y)

parity : (d : ℕ) → (d % 2 ≡ 0) ⊎ (d % 2 ≡ 1)
parity d = ⊎_elim (λ h. inl (omega arith)) (λ h. inr (omega arith)) (by_order (d % 2) 1)

pub one_only : (x y : ℕ) → 0 < y → common_divisor x y ≡ 1 → (d : ℕ) → d ∣ x → d ∣ y → d ≡ 1
one_only x y pos e d hx hy = omega (arith, common_below x y d (omega arith) hx hy, pos_of_dvd_of_pos hy pos)

pub only_one : (x y : ℕ) → 0 < y → ((d : ℕ) → d ∣ x → d ∣ y → d ≡ 1) → common_divisor x y ≡ 1
only_one x y pos h = let w = common_divides x y (omega arith) in h (common_divisor x y) w.0 w.1

-- x and y have the common divisors of a and p
pub record KeepsDivisors (a p x y : ℕ) : Type 0 where
  pub there : (d : ℕ) → d ∣ a → d ∣ p → (d ∣ x) × (d ∣ y)
  pub back : (d : ℕ) → d ∣ x → d ∣ y → (d ∣ a) × (d ∣ p)

pub keeps_start : (a p : ℕ) → KeepsDivisors a p a p
keeps_start a p = record { there = λ d ha hp. (ha, hp); back = λ d ha hp. (ha, hp) }

-- a divisor of an odd number is odd
divisor_odd : (d x : ℕ) → d ∣ x → x % 2 ≡ 1 → d % 2 ≡ 1
divisor_odd d x h o =
    ⊎_elim
    (λ (e : d % 2 ≡ 0). absurd (omega (arith, (dvd_iff_mod-eq-zero 2).0 (dvd_trans 2 ((dvd_iff_mod-eq-zero 2).1 e) h))))
    (λ (e : d % 2 ≡ 1). e)
    (parity d)

-- one more in the power of two is one more doubling
twice : (x t : ℕ) → x * 2 ^ suc t ≡ x * 2 ^ t * 2
twice x t = ap (λ (v : ℕ). x * v) (pow-suc 2 t) ∙ sym (mul_assoc x (2 ^ t) 2)

-- an odd number that divides a double divides its half: d·x is (d / 2)·(x·2) and one x more
odd_halves : (d x : ℕ) → d % 2 ≡ 1 → d ∣ x * 2 → d ∣ x
odd_halves d x o h =
    let e : d ≡ d / 2 * 2 + 1 = omega arith in
    (dvd-add_iff_right d (dvd-mul_left_of_dvd d h (d / 2))).1
    (subst (λ (v : ℕ). d ∣ v) (ap (λ (v : ℕ). v * x) e ∙ apart (d / 2)) (dvd-mul_right d x))
  where
    apart : (i : ℕ) → (i * 2 + 1) * x ≡ i * (x * 2) + x
    apart i = omega arith

-- so it divides what is left after any number of halvings
odd_drops : (t d x : ℕ) → d % 2 ≡ 1 → d ∣ x * 2 ^ t → d ∣ x
odd_drops zero d x o h = subst (λ (v : ℕ). d ∣ v) (mul-one x) h
odd_drops (suc t) d x o h = odd_drops t d x o (odd_halves d (x * 2 ^ t) o (subst (λ (v : ℕ). d ∣ v) (twice x t) h))

-- n can be halved t times, fewer than k, and what is left is odd
pub record Strips (k t n : ℕ) : Type 0 where
  pub rest : ℕ
  pub below : t < k
  pub whole : n ≡ rest * 2 ^ t
  pub odd : rest % 2 ≡ 1

-- one bit more: where the lowest bits are equal, the difference is twice that of the halves
strips_bit : (k t r x y : ℕ) → (x + y) % 2 ≡ r → (x % 2 ≡ y % 2 → Strips k t ((x / 2 - y / 2) + (y / 2 - x / 2)))
    → Strips (suc k) (under r t) ((x - y) + (y - x))
strips_bit k t zero x y e h =
    let s = h (omega arith) in
    let z : (x - y) + (y - x) ≡ ((x / 2 - y / 2) + (y / 2 - x / 2)) * 2 = omega arith in
    record { rest = s.rest; below = omega arith; whole = z ∙ ap (λ (v : ℕ). v * 2) s.whole ∙ sym (twice s.rest t); odd = s.odd }
strips_bit k t (suc r) x y e h =
    record { rest = (x - y) + (y - x); below = omega arith; whole = sym (mul-one _); odd = omega arith }

-- a difference can be halved as often as the two numbers have equal lowest bits
pub equal_bits : (k x y : ℕ) → x < 2 ^ k → y < 2 ^ k → (x ≡ y → ⊥) → Strips k (count_trailing_zeros k (bit_xor x y)) ((x - y) + (y - x))
unfolding count_trailing_zeros
equal_bits zero x y hx hy ne = absurd (ne (omega arith))
equal_bits (suc k) x y hx hy ne =
    let two = pow-suc 2 k in
    strips_bit k (count_trailing_zeros k (bit_xor x y / 2)) (bit_xor x y % 2) x y (omega (arith, xor_add_and x y))
    (λ e. subst (λ (v : ℕ). Strips k (count_trailing_zeros k v) ((x / 2 - y / 2) + (y / 2 - x / 2))) (sym (xor_shr x y 1))
    (equal_bits k (x / 2) (y / 2) (omega arith) (omega arith) (λ f. ne (omega arith))))

-- a number can be halved as often as it has zeros at its end: its difference from 0
pub end_zeros : (k x : ℕ) → x < 2 ^ k → (x ≡ 0 → ⊥) → Strips k (count_trailing_zeros k x) x
end_zeros k x h ne =
    let e : (x - 0) + (0 - x) ≡ x = omega arith in
    rw (xor_zero_r, e) at (equal_bits k x 0 h (omega arith) ne)

-- what is left is what the shift gives, and no more than the number
pub strips_rest : {k t n : ℕ} → (s : Strips k t n) → n / 2 ^ t ≡ s.rest
strips_rest {k} {t} s = ap (λ (v : ℕ). v / 2 ^ t) s.whole ∙ shl-shr s.rest t

pub strips_few : {k t n : ℕ} → (s : Strips k t n) → s.rest ≤ n
strips_few {k} {t} s = rw s.whole (le-mul_of_pos_right s.rest (pow_pos t))

-- a turn: the lesser, and the odd part of the difference, have the same common divisors, which are odd
pub keeps_turn : (a p x y t : ℕ) → KeepsDivisors a p x y → x % 2 ≡ 1 → (s : Strips 32 t ((x - y) + (y - x))) → KeepsDivisors a p s.rest (min x y)
keeps_turn a p x y t k o s =
    record {
      there =
          λ d ha hp.
          (let h = k.there d ha hp in (
            odd_drops t d s.rest (divisor_odd d x h.0 o)
                (subst (λ (v : ℕ). d ∣ v) s.whole (dvd-add d (dvd-sub d h.0 h.1) (dvd-sub d h.1 h.0))),
            ⊎_elim (λ (l : x < y). to d (omega arith) h.0) (λ (l : y ≤ x). to d (omega arith) h.1) (by_order x y),
          ));
      back =
          λ d hr hm.
          (let hg : d ∣ (x - y) + (y - x) = to d s.whole (dvd-mul_right_of_dvd d hr (2 ^ t)) in
          let hs = dvd-add d hm hg in
          ⊎_elim (λ (l : x < y). k.back d (to d (omega arith) hm) (to d (omega arith) hs))
          (λ (l : y ≤ x). k.back d (to d (omega arith) hs) (to d (omega arith) hm)) (by_order x y));
    }
  where
    to : (d : ℕ) {u v : ℕ} → v ≡ u → d ∣ u → d ∣ v
    to d e h = subst (λ (w : ℕ). d ∣ w) (sym e) h

-- where both are x, x is the greatest common divisor
pub keeps_end : (a p x : ℕ) → KeepsDivisors a p x x → x ≡ common_divisor a p
keeps_end a p x k =
    ⊎_elim
    (λ (pos : 0 < max a p).
    let h = k.back x (dvd_refl x) (dvd_refl x) in
    let w = common_divides a p pos in
    le_antisymm (common_below a p x pos h.0 h.1) (le_of_dvd (above pos h) (k.there (common_divisor a p) w.0 w.1).0))
    (λ (none : max a p ≤ 0).
    let h = k.there (suc x) (nothing a (suc x) (omega arith)) (nothing p (suc x) (omega arith)) in
    let zero-x : (0 < x → ⊥) = (λ w. omega (arith, le_of_dvd w h.0)) in
    omega (arith, common_few a p))
    (by_order 0 (max a p))
  where
    above : 0 < max a p → (x ∣ a) × (x ∣ p) → 0 < x
    above pos h = ⊎_elim (λ w. pos_of_dvd_of_pos h.1 w) (λ w. pos_of_dvd_of_pos h.0 w) (some_pos a p pos)

    nothing : (v d : ℕ) → v ≤ 0 → d ∣ v
    nothing zero d h = dvd-zero d
    nothing (suc v) d h = absurd (omega arith)

-- every number divides 0, so beside a 0 the other number is the greatest common divisor
pub first-zero : (a p : ℕ) → a ≡ 0 → p ≡ common_divisor a p
first-zero a p z = keeps_end a p p (record { there = λ d ha hp. (hp, hp); back = λ d hp h. (rw z (dvd-zero d), hp) })

pub second_zero : (a p : ℕ) → p ≡ 0 → a ≡ common_divisor a p
second_zero a p z = keeps_end a p a (record { there = λ d ha hp. (ha, ha); back = λ d ha h. (ha, rw z (dvd-zero d)) })

-- a common divisor that is odd divides the odd parts
odd_below : (i j u v d : ℕ) → d % 2 ≡ 1 → 0 < u → d ∣ u * 2 ^ i → d ∣ v * 2 ^ j → d ≤ common_divisor u v * 2 ^ min i j
odd_below i j u v d o pos hu hv =
    le_trans (common_below u v d (omega arith) (odd_drops i d u o hu) (odd_drops j d v o hv)) (le-mul_of_pos_right (common_divisor u v) (pow_pos (min i j)))

-- and one that is even is twice one of the halves
below_twos : (i j u v d : ℕ) → u % 2 ≡ 1 → v % 2 ≡ 1 → d ∣ u * 2 ^ i → d ∣ v * 2 ^ j → d ≤ common_divisor u v * 2 ^ min i j
below_twos zero j u v d ou ov hu hv = odd_below 0 j u v d (divisor_odd d (u * 1) hu (omega arith)) (omega arith) hu hv
below_twos (suc i) zero u v d ou ov hu hv = odd_below (suc i) 0 u v d (divisor_odd d (v * 1) hv (omega arith)) (omega arith) hu hv
below_twos (suc i) (suc j) u v d ou ov hu hv =
    ⊎_elim
    (λ (e : d % 2 ≡ 0).
    let two : common_divisor u v * 2 ^ min (suc i) (suc j) ≡ common_divisor u v * 2 ^ min i j * 2 = ap (λ (m : ℕ). common_divisor u v * 2 ^ m) (suc-min-suc i j)
    ∙ twice (common_divisor u v) (min i j) in
    omega (arith, below_twos i j u v (d / 2) ou ov (halves e u i hu) (halves e v j hv)))
    (λ (o : d % 2 ≡ 1). odd_below (suc i) (suc j) u v d o (omega arith) hu hv)
    (parity d)
  where
    halves : d % 2 ≡ 0 → (x t : ℕ) → d ∣ x * 2 ^ suc t → d / 2 ∣ x * 2 ^ t
    halves e x t h =
        let half : d ≡ d / 2 * 2 = omega arith in
        dvd_of_mul-dvd-mul_right (d / 2) (lit< {m = 0} {n = 2} tt) (subst (λ (v : ℕ). v ∣ x * 2 ^ t * 2) half (subst (λ (v : ℕ). d ∣ v) (twice x t) h))

-- the odd parts' greatest common divisor, doubled as often as both can be halved, is that of the whole
shared_twos : (i j u v : ℕ) → u % 2 ≡ 1 → v % 2 ≡ 1 → common_divisor u v * 2 ^ min i j ≡ common_divisor (u * 2 ^ i) (v * 2 ^ j)
shared_twos i j u v ou ov =
    let l : u ≤ u * 2 ^ i = le-mul_of_pos_right u (pow_pos i) in
    let h = common_divides u v (omega arith) in
    let w = common_divides (u * 2 ^ i) (v * 2 ^ j) (omega arith) in
    le_antisymm
    (common_below (u * 2 ^ i) (v * 2 ^ j) (common_divisor u v * 2 ^ min i j) (omega arith)
    (mul-dvd-mul (common_divisor u v) (2 ^ min i j) h.0 (fewer (min i j) i (omega arith)))
    (mul-dvd-mul (common_divisor u v) (2 ^ min i j) h.1 (fewer (min i j) j (omega arith))))
    (below_twos i j u v (common_divisor (u * 2 ^ i) (v * 2 ^ j)) ou ov w.0 w.1)
  where
    fewer : (m n : ℕ) → m ≤ n → 2 ^ m ∣ 2 ^ n
    fewer m n h =
        let e : m + (n - m) ≡ n = omega arith in
        subst (λ (v : ℕ). 2 ^ m ∣ v) (sym (pow-add 2 m (n - m)) ∙ ap (λ (v : ℕ). 2 ^ v) e) (dvd-mul_right (2 ^ m) (2 ^ (n - m)))

-- the same of the code's own numbers
pub strips_end : {i j a p : ℕ} → Strips 32 i a → Strips 32 j p → common_divisor (a / 2 ^ i) (p / 2 ^ j) * 2 ^ min i j ≡ common_divisor a p
strips_end {i} {j} s t =
    rw (strips_rest s, strips_rest t) (shared_twos i j s.rest t.rest s.odd t.odd ∙ ap₂ common_divisor (sym s.whole) (sym t.whole))
