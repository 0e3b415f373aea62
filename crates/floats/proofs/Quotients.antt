-- The laws of `over`, from the one law of a rounded division.
--     in_float_lem, held    a float holds a whole number up to 2^53 with nothing lost
--     over-exact        where b divides a nothing is rounded
--     over-near         a quotient of 1 or more, or of 0, lies near
--     over-whole        and its whole part is the quotient rounded down in whole numbers
-- Assumes nothing.
use mathlib.Core.Path.{◌≡◌, refl, sym, ap, ◌∙◌}
use mathlib.Core.Logic.{◌⊎◌, inl, inr, ⊎_elim}
use mathlib.Core.Bool.{false}
use Prim.Native.Nat.{ℕ, ◌+◌, ◌-◌, ◌*◌, ◌/◌, ◌%◌, ◌^◌, ◌≤◌, ◌<◌}
use native.Mathlib.Nat.{le_trans, le_of_eq, lt_of_le_of_lt, eq-zero-or-pos, le_of_lt, zero-mul, mul-one, mul_comm, mul_right_comm}
use native.Mathlib.Nat.{lt_trans, le_of_suc-le-suc, lt_of_not-le, min-eq_left, add-mul, mul-le-mul_left, mul-le-mul_right}
use native.Mathlib.Nat.{div-add-mod', div-eq_of_lt-le, div-le_self, mul-div_cancel, mul-div-mul_right, mod-lt}
use native.Mathlib.Omega.{arith}
use lib.Dec.{T, le→leb, lit<, lit≤}
use lib.IntN.{pos}
use lib.Pow.{pow_pos}
use lib.Ieee.{Float, nan, inf, fin, binary64, up, down, round, of_int, in_float, to_unsigned}
use lib.Ieee.Exact.{HasValue}
use lib.Ieee.Fits.{down_pos}
use lib.Ieee.Scale.{round_same}
use Rattle.floats.specs.Quotients.{float, over, distance, Near}
use Rattle.floats.proofs.Rounded.{Rounded, rounded, cast_exact, div_of_casts}

pub in_float_lem : (n : ℕ) → n ≤ 2 ^ 53 → T (in_float binary64 (pos n))
unfolding in_float
in_float_lem n h = le→leb n (2 ^ 53) h

pub held : (n : ℕ) → n ≤ 2 ^ 53 → HasValue (float n) false n 1
held n h = cast_exact binary64 n h

-- a / b rounded, before it is a division of floats
abbrev R : ℕ → ℕ → Float
R a b = round binary64 false a b

over_rounds : (a b : ℕ) → 0 < b → a ≤ 2 ^ 53 → b ≤ 2 ^ 53 → over a b ≡ R a b
unfolding over
over_rounds a b B ha hb = div_of_casts binary64 a b B ha hb

-- the same number in parts of 1 / c
in_parts : (x : Float) (a c : ℕ) → HasValue x false a 1 → HasValue x false (a * c) c
in_parts nan a c v = v
in_parts (inf s) a c v = v
in_parts (fin s m e) a c v = (v.0, ap (λ (n : ℕ). n * c) (sym (mul-one (m * up e)) ∙ v.1) ∙ mul_right_comm a (down e) c)

-- where b divides a
module _ (q a b : ℕ) (B : 0 < b) (e : a ≡ q * b) (ha : a ≤ 2 ^ 53) (hb : b ≤ 2 ^ 53) where
  pub over-exact : over a b ≡ float q
  unfolding of_int
  over-exact = over_rounds a b B ha hb ∙ round_same binary64 false a b q 1 B (lit< tt) (mul-one a ∙ e)

  exact-value : HasValue (over a b) false (q * 2 ^ 52) (2 ^ 52)
  exact-value =
      let few : q * 1 ≤ a = le_trans (mul-le-mul_left q B) (le_of_eq (sym e)) in
      rw over-exact (in_parts (float q) q (2 ^ 52) (held q (omega (arith, few, ha))))

-- from the two ends of an error to its size; `omega` keeps its numbers to 38 digits, so that each law has few hypotheses
near-high : (z a y : ℕ) → 2 * z ≤ 2 * (a * 2 ^ 52) + y → 2 ^ 52 * y ≤ a * 2 ^ 52 → (z - a * 2 ^ 52) * 2 ^ 53 ≤ a * 2 ^ 52
near-high z a y h g = omega arith

near-low : (z a y : ℕ) → 2 * (a * 2 ^ 52) ≤ 2 * z + y → 2 ^ 52 * y ≤ a * 2 ^ 52 → (a * 2 ^ 52 - z) * 2 ^ 53 ≤ a * 2 ^ 52
near-low z a y h g = omega arith

sized : (z x e : ℕ) → (z - x) * 2 ^ 53 ≤ e → (x - z) * 2 ^ 53 ≤ e → distance z x * 2 ^ 53 ≤ e
sized z x e h g = omega arith

-- a float's whole part, where it is w / 2^52
whole_part : (x : Float) (w : ℕ) → HasValue x false w (2 ^ 52) → w / 2 ^ 52 < 2 ^ 64 → to_unsigned 64 x ≡ w / 2 ^ 52
unfolding to_unsigned
whole_part nan w v l = absurd v
whole_part (inf s) w v l = absurd v
whole_part (fin s m e) w v l =
    let same : m * up e / down e ≡ w / 2 ^ 52 =
    sym (mul-div-mul_right (m * up e) (down e) (pow_pos 52))
    ∙ ap (λ (n : ℕ). n / (down e * 2 ^ 52)) v.1
    ∙ ap (λ (n : ℕ). w * down e / n) (mul_comm (down e) (2 ^ 52))
    ∙ mul-div-mul_right w (2 ^ 52) (down_pos e) in
    rw (v.0, same) (min-eq_left (omega (arith, l)))

-- what lies near a / b lies between the two whole numbers around it, where b doesn't divide a
module _
    (w q b t a : ℕ)
    (e : a ≡ q * b + t) (some : 0 < t) (rest : t < b) (ha : a < 2 ^ 53) (d : distance (w * b) (a * 2 ^ 52) * 2 ^ 53 ≤ a * 2 ^ 52)
  where
    close : distance (w * b) (a * 2 ^ 52) < 2 ^ 52
    close = small (distance (w * b) (a * 2 ^ 52)) d
      where
        small : (x : ℕ) → x * 2 ^ 53 ≤ a * 2 ^ 52 → x < 2 ^ 52
        small x h = omega (arith, h, ha)

    no_lower : w < q * 2 ^ 52 → ⊥
    no_lower h =
        let g : w * b ≤ q * b * 2 ^ 52 = le_trans (mul-le-mul_right b (le_of_lt h)) (le_of_eq (mul_right_comm q (2 ^ 52) b)) in
        omega (arith, g, close, e, some)

    no_higher : (q + 1) * 2 ^ 52 ≤ w → ⊥
    no_higher h =
        let g : (q + 1) * b * 2 ^ 52 ≤ w * b = le_trans (le_of_eq (mul_right_comm (q + 1) b (2 ^ 52))) (mul-le-mul_right b h) in
        let f : (q + 1) * b ≡ q * b + 1 * b = add-mul q 1 b in
        omega (arith, g, f, close, e, rest)

    between : w / 2 ^ 52 ≡ q
    between = div-eq_of_lt-le (2 ^ 52) (le_of_suc-le-suc (lt_of_not-le no_lower)) (lt_of_not-le no_higher)

module _ (a b : ℕ) (B : 0 < b) (ha : a < 2 ^ 53) (hb : b ≤ 2 ^ 53) (h : (a ≡ 0) ⊎ (b ≤ a)) where
  pub over-near : Near a b (over a b)
  over-near = go h
    where
      go : (a ≡ 0) ⊎ (b ≤ a) → Near a b (over a b)
      go (inl z) = record { w = 0 * 2 ^ 52; value = exact-value 0 a b B (z ∙ sym (zero-mul b)) (le_of_lt ha) hb; near = rw z (omega arith) }
      go (inr g) =
          let r : Rounded binary64 a b 52 = rounded binary64 a b 1022 52 0 53 B refl refl (le_trans g (le_of_eq (sym (mul-one a)))) ha (lit≤ tt) in
          let z = r.w * b in
          let y = b * 2 ^ r.t in
          record {
            w = r.w;
            value = rw (over_rounds a b B (le_of_lt ha) hb) r.value;
            near = sized z (a * 2 ^ 52) (a * 2 ^ 52) (near-high z a y r.high r.unit) (near-low z a y r.low r.unit);
          }

  pub over-whole : to_unsigned 64 (over a b) ≡ a / b
  over-whole = ⊎_elim divides leaves (eq-zero-or-pos (a % b))
    where
      small : a / b < 2 ^ 64
      small = lt_of_le_of_lt (div-le_self a b) (lt_trans ha (lit< tt))

      divides : a % b ≡ 0 → to_unsigned 64 (over a b) ≡ a / b
      divides z =
          let whole : a / b * 2 ^ 52 / 2 ^ 52 ≡ a / b = mul-div_cancel (a / b) (pow_pos 52) in
          let value = exact-value (a / b) a b B (omega (arith, div-add-mod' a b, z)) (le_of_lt ha) hb in
          whole_part (over a b) (a / b * 2 ^ 52) value (rw whole small) ∙ whole

      leaves : 0 < a % b → to_unsigned 64 (over a b) ≡ a / b
      leaves some =
          let n = over-near in
          let whole = between n.w (a / b) b (a % b) a (sym (div-add-mod' a b)) some (mod-lt a B) ha n.near in
          whole_part (over a b) n.w n.value (rw whole small) ∙ whole
