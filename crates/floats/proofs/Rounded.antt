-- One rounded division, in any format: the result is off by at most half the weight of its last digit.
--     cast_exact      a whole number up to 2^prec is held with nothing lost
--     closest_half    rounding to the nearest whole number is off by a half at most
--     rounded         a / b, rounded: a whole number of parts of 2^-s, and its distance from a / b
--     div_of_casts    the division of two floats that hold whole numbers is that
-- Assumes nothing.
use mathlib.Core.Path.{◌≡◌, refl, sym, ap, ◌∙◌, subst}
use mathlib.Core.Logic.{◌⊎◌, inl, inr}
use Prim.Native.Nat.{ℕ, zero, suc, ◌+◌, ◌-◌, ◌*◌, ◌/◌, ◌%◌, ◌^◌, ◌≤◌, ◌<◌, compare, Ordering}
use native.Mathlib.Nat.{le_trans, le_of_eq, lt_of_lt_of_le, lt_of_le_of_lt, lt_of_not-le, not-le_of_lt, ne_of_gt}
use native.Mathlib.Nat.{mul-one, mul_comm, mul_assoc, mul_left_comm, suc-mul, add-mul, mul-add, mul-pos}
use native.Mathlib.Nat.{mul-le-mul_left, mul-le-mul_right, le_of_mul-le-mul_left, eq_of_mul-eq-mul_left}
use native.Mathlib.Nat.{mod-lt, div-add-mod', div-le_self, div-div-eq-div-mul, le-div_iff_mul-le}
use native.Mathlib.Omega.{arith}
use mathlib.Core.Bool.{Bool, false, not, cond}
use lib.IntN.{pos}
use lib.Dec.{T, is_le, compare_is_eq, eqb, leb→le, nleb→lt, eqb→eq, eqb_refl, not_T, lit<}
use lib.Arith.{lt_of_le-ne}
use lib.Pow.{pow-add, pow_pos, pow_mono, pow-lt, shl_lt}
use lib.Ieee.{Float, nan, inf, fin, Format, prec, emax, low, up, down, unlike, size, nearest, round, div, of_int}
use lib.Ieee.Digits.{size-lt, size-le, size_reaches}
use lib.Ieee.Fits.{nearest-le, kept-lt, two, down_pos}
use lib.Ieee.Exact.{HasValue}
use lib.Ieee.Nearest.{closest}
use lib.Ieee.Order.{drop, kept}
use lib.Ieee.Scale.{grid, overflow, round_val, round_same}
use lib.Ieee.Positive.{first_pos}
use lib.Ieee.Bits.{cond_no}
use lib.Ieee.Back.{round_whole}

pub cast_exact : (f : Format) (n : ℕ) → n ≤ 2 ^ prec f → HasValue (of_int f (pos n)) false n 1
unfolding of_int
cast_exact f n h = round_whole f false n h

abbrev Cmp : Ordering → ℕ → ℕ → Type 0
Cmp Ordering.lt a b = a < b
Cmp Ordering.eq a b = a ≡ b
Cmp Ordering.gt a b = b < a

cmp : (a b : ℕ) → Cmp (compare a b) a b
cmp a b = go (compare a b) (leb→le a b) (nleb→lt a b) (eqb→eq a b) (λ (e : a ≡ b). subst (λ (x : ℕ). T (eqb a x)) e (eqb_refl a))
  where
    go : (o : Ordering) → (T (is_le o) → a ≤ b) → (T (not (is_le o)) → b < a) → (T (compare_is_eq o) → a ≡ b) → (a ≡ b → T (compare_is_eq o)) → Cmp o a b
    go Ordering.lt h k e n = lt_of_le-ne (h tt) n
    go Ordering.eq h k e n = e tt
    go Ordering.gt h k e n = k tt

-- z is within half of b of x
abbrev Half : ℕ → ℕ → ℕ → Type 0
Half z x b = (2 * z ≤ 2 * x + b) × (2 * x ≤ 2 * z + b)

even_or_odd : (q : ℕ) → (q % 2 ≡ 0) ⊎ (q % 2 ≡ 1)
even_or_odd q = go (q % 2) (mod-lt q (lit< tt))
  where
    go : (m : ℕ) → m < 2 → (m ≡ 0) ⊎ (m ≡ 1)
    go zero h = inl refl
    go (suc zero) h = inr refl
    go (suc (suc m)) h = absurd (too m h)
      where
        too : (k : ℕ) → suc (suc k) < 2 → ⊥
        too k g = omega arith

near-half : (q r b : ℕ) (o : Ordering) → Cmp o (r * 2) b → r < b → Half (nearest q o * b) (q * b + r) b
near-half q r b Ordering.lt c l = (omega arith, omega arith)
near-half q r b Ordering.eq c l =
    elim (even_or_odd q) [
      | inl e ↦ let z : (q + q % 2) * b ≡ q * b + 0 * b = ap (λ (x : ℕ). (q + x) * b) e ∙ add-mul q 0 b in (omega arith, omega arith)
      | inr e ↦ let z : (q + q % 2) * b ≡ q * b + 1 * b = ap (λ (x : ℕ). (q + x) * b) e ∙ add-mul q 1 b in (omega arith, omega arith)
    ]
near-half q r b Ordering.gt c l = let z : suc q * b ≡ q * b + b = suc-mul q b in (omega arith, omega arith)

pub closest_half : (a b : ℕ) → 0 < b → Half (closest a b * b) a b
closest_half a b B =
    subst (λ (x : ℕ). Half (closest a b * b) x b) (div-add-mod' a b)
    (near-half (a / b) (a % b) b (compare (a % b * 2) b) (cmp (a % b * 2) b) (mod-lt a B))

size_gt : (n j : ℕ) → 2 ^ j ≤ n → j < size n
size_gt n j h = lt_of_not-le (λ (g : size n ≤ j). not-le_of_lt (lt_of_lt_of_le (size-lt n) (pow_mono g)) h)

-- from one fraction to another of the same size: both ends are c times as large
shrink : (x : Float) (w l c : ℕ) → 0 < c → HasValue x false (c * w) (c * l) → HasValue x false w l
shrink nan w l c C v = v
shrink (inf t) w l c C v = v
shrink (fin t m e) w l c C v =
    (v.0, eq_of_mul-eq-mul_left c C (m * up e * l) (w * down e) (mul_left_comm c (m * up e) l ∙ v.1 ∙ mul_assoc c w (down e)))

-- a / b, rounded in the format f: w parts of 2^-s. The last digit that the format keeps weighs 2^t parts, the error is half of that at most,
-- and a / b is 2^(prec - 1) times that at least
pub record Rounded (f : Format) (a b s : ℕ) : Type 0 where
  pub w : ℕ
  pub t : ℕ
  pub value : HasValue (round f false a b) false w (2 ^ s)
  pub high : 2 * (w * b) ≤ 2 * (a * 2 ^ s) + b * 2 ^ t
  pub low : 2 * (a * 2 ^ s) ≤ 2 * (w * b) + b * 2 ^ t
  pub unit : 2 ^ (prec f - 1) * (b * 2 ^ t) ≤ a * 2 ^ s

half_shrink : (c z x y : ℕ) → 0 < c → Half (c * z) (c * x) (c * y) → Half z x y
half_shrink c z x y C h = (one z x h.0, one x z h.1)
  where
    one : (z x : ℕ) → 2 * (c * z) ≤ 2 * (c * x) + c * y → 2 * z ≤ 2 * x + y
    one z x g =
        le_of_mul-le-mul_left {k = c}
        (le_trans (le_of_eq (mul_left_comm c 2 z)) (le_trans g (le_of_eq (ap (λ (v : ℕ). v + c * y) (mul_left_comm 2 c x) ∙ sym (mul-add c (2 * x) y)))))
        C

kept-le : (p n b : ℕ) → kept p n b ≤ 2 ^ p
kept-le p n b =
    let k = drop p n b in
    let u = b * 2 ^ k in
    le_trans (nearest-le (n / u) (compare (n % u * 2) u)) (subst (λ (x : ℕ). x < 2 ^ p) (div-div-eq-div-mul n b (2 ^ k)) (kept-lt p (n / b)))

-- A quotient that isn't below 2^-j has no digit below 2^-s, where s is prec + j - 1; of the smallest value's places, i more, nothing is used.
-- Nor does it reach the greatest value.
module _
    (f : Format) (a b i s j m : ℕ)
    (B : 0 < b) (e : i + s ≡ low f) (d : suc s ≡ prec f + j) (h : b ≤ a * 2 ^ j) (up_to_lem : a < 2 ^ m) (top : m ≤ emax f)
  where
    -- the whole part of a / b in units of the format's smallest value has i + prec digits at least
    lots : i + prec f ≤ size (a * 2 ^ low f / b)
    lots =
        let P = prec f in
        let two_digits : 2 ≤ P = two f in
        let e3 : i + P - 1 + j ≡ low f = sum i s j P (low f) two_digits e d in
        let g : 2 ^ (i + P - 1) * b ≤ a * 2 ^ low f =
        le_trans (mul-le-mul_left (2 ^ (i + P - 1)) h)
        (le_of_eq (mul_left_comm (2 ^ (i + P - 1)) a (2 ^ j) ∙ ap (λ (x : ℕ). a * x) (sym (pow-add 2 (i + P - 1) j) ∙ ap (λ (x : ℕ). 2 ^ x) e3))) in
        last i P (size (a * 2 ^ low f / b)) two_digits (size_gt (a * 2 ^ low f / b) (i + P - 1) ((le-div_iff_mul-le B).1 g))
      where
        sum : (i s j p l : ℕ) → 2 ≤ p → i + s ≡ l → suc s ≡ p + j → i + p - 1 + j ≡ l
        sum i s j p l h e d = omega arith

        last : (i p z : ℕ) → 2 ≤ p → i + p - 1 < z → i + p ≤ z
        last i p z h g = omega arith

    -- so i digits are dropped, and t more
    abbrev more : ℕ
    more = size (a * 2 ^ low f / b) - prec f - i

    dropped : drop (prec f) (a * 2 ^ low f) b ≡ i + more
    dropped = go i (prec f) (size (a * 2 ^ low f / b)) lots
      where
        go : (i p z : ℕ) → i + p ≤ z → z - p ≡ i + (z - p - i)
        go i p z h = omega arith

    all_digits : prec f + drop (prec f) (a * 2 ^ low f) b ≡ size (a * 2 ^ low f / b)
    all_digits = go i (prec f) (size (a * 2 ^ low f / b)) lots
      where
        go : (i p z : ℕ) → i + p ≤ z → p + (z - p) ≡ z
        go i p z h = omega arith

    under : grid f a b < overflow f
    under =
        let P = prec f in
        let n = a * 2 ^ low f in
        let k = drop P n b in
        let fits : size (n / b) ≤ m + low f = size-le (n / b) (m + low f) (lt_of_le_of_lt (div-le_self n b) (shl_lt m (low f) up_to_lem)) in
        lt_of_le_of_lt
        (le_trans (mul-le-mul_right (2 ^ k) (kept-le P n b)) (le_trans (le_of_eq (sym (pow-add 2 P k) ∙ ap (λ (x : ℕ). 2 ^ x) all_digits)) (pow_mono fits)))
        (pow-lt (room m (low f) (emax f) top))
      where
        room : (m l x : ℕ) → m ≤ x → m + l < l + suc x
        room m l x h = omega arith

    pub rounded : Rounded f a b s
    rounded =
        let P = prec f in
        let n = a * 2 ^ low f in
        let k = drop P n b in
        let q = kept P n b in
        let t = more in
        let c = 2 ^ i in
        let C : 0 < c = pow_pos i in
        let ck : 2 ^ k ≡ c * 2 ^ t = ap (λ (x : ℕ). 2 ^ x) dropped ∙ pow-add 2 i t in
        let cl : 2 ^ low f ≡ c * 2 ^ s = ap (λ (x : ℕ). 2 ^ x) (sym e) ∙ pow-add 2 i s in
        let eg : q * 2 ^ k ≡ c * (q * 2 ^ t) = ap (λ (x : ℕ). q * x) ck ∙ mul_left_comm q c (2 ^ t) in
        let en : n ≡ c * (a * 2 ^ s) = ap (λ (x : ℕ). a * x) cl ∙ mul_left_comm a c (2 ^ s) in
        let eb : b * 2 ^ k ≡ c * (b * 2 ^ t) = ap (λ (x : ℕ). b * x) ck ∙ mul_left_comm b c (2 ^ t) in
        let ez : q * (b * 2 ^ k) ≡ c * (q * 2 ^ t * b) =
        ap (λ (x : ℕ). q * x) eb ∙ mul_left_comm q c (b * 2 ^ t) ∙ ap (λ (x : ℕ). c * x) (turn q b (2 ^ t)) in
        let near : Half (q * (b * 2 ^ k)) n (b * 2 ^ k) = closest_half n (b * 2 ^ k) (mul-pos B (pow_pos k)) in
        let half : Half (q * 2 ^ t * b) (a * 2 ^ s) (b * 2 ^ t) =
        half_shrink c (q * 2 ^ t * b) (a * 2 ^ s) (b * 2 ^ t) C (three ez en eb near) in
        let reach : 2 ^ (P - 1 + k) ≤ n / b = size_reaches (n / b) (P - 1 + k) (last P k (size (n / b)) (two f) all_digits) in
        let eu : 2 ^ (P - 1 + k) * b ≡ c * (2 ^ (P - 1) * (b * 2 ^ t)) =
        ap (λ (x : ℕ). x * b) (pow-add 2 (P - 1) k)
        ∙ sym (turn (2 ^ (P - 1)) b (2 ^ k))
        ∙ ap (λ (x : ℕ). 2 ^ (P - 1) * x) eb
        ∙ mul_left_comm (2 ^ (P - 1)) c (b * 2 ^ t) in
        record {
          w = q * 2 ^ t;
          t = t;
          value =
              shrink (round f false a b) (q * 2 ^ t) (2 ^ s) c C
              (subst (λ (x : ℕ). HasValue (round f false a b) false (c * (q * 2 ^ t)) x) cl
              (subst (λ (x : ℕ). HasValue (round f false a b) false x (2 ^ low f)) eg (round_val f a b under)));
          high = half.0;
          low = half.1;
          unit = le_of_mul-le-mul_left {k = c} (le_trans (le_of_eq (sym eu)) (le_trans ((le-div_iff_mul-le B).0 reach) (le_of_eq en))) C;
        }
      where
        turn : (q b t : ℕ) → q * (b * t) ≡ q * t * b
        turn q b t = ap (λ (x : ℕ). q * x) (mul_comm b t) ∙ sym (mul_assoc q t b)

        three : {z z' x x' y y' : ℕ} → z ≡ z' → x ≡ x' → y ≡ y' → Half z x y → Half z' x' y'
        three p q r g = rw (← p, ← q, ← r) g

        last : (p k z : ℕ) → 2 ≤ p → p + k ≡ z → p - 1 + k < z
        last p k z h e = omega arith

-- the division of two floats that are whole numbers, b above 0, is a / b rounded
pub div_at : (f : Format) (x y : Float) (a b : ℕ) → 0 < b → HasValue x false a 1 → HasValue y false b 1 → div f x y ≡ round f false a b
unfolding div
div_at f nan y a b B v u = absurd v
div_at f (inf s) y a b B v u = absurd v
div_at f (fin s m e) nan a b B v u = absurd u
div_at f (fin s m e) (inf t) a b B v u = absurd u
div_at f (fin s m e) (fin t n d) a b B v u =
    let ex : m * up e ≡ a * down e = sym (mul-one (m * up e)) ∙ v.1 in
    let ey : n * up d ≡ b * down d = sym (mul-one (n * up d)) ∙ u.1 in
    let ny : 0 < n * up d = subst (λ (x : ℕ). 0 < x) (sym ey) (mul-pos B (down_pos d)) in
    let nz : 0 < n = first_pos n (up d) ny in
    let some = not_T (eqb n 0) (λ (g : T (eqb n 0)). ne_of_gt nz (eqb→eq n 0 g)) in
    cond_no (eqb n 0) (cond (eqb m 0) nan (inf (unlike s t))) (round f (unlike s t) (m * up e * down d) (n * up d * down e)) some
    ∙ ap (λ (z : Bool). round f (unlike z t) (m * up e * down d) (n * up d * down e)) v.0
    ∙ ap (λ (z : Bool). round f (unlike false z) (m * up e * down d) (n * up d * down e)) u.0
    ∙ round_same f false (m * up e * down d) (n * up d * down e) a b (mul-pos ny (down_pos e)) B
    (ap (λ (z : ℕ). z * down d * b) ex ∙ cross a b (down e) (down d) ∙ ap (λ (z : ℕ). a * (z * down e)) (sym ey))
  where
    cross : (a b p q : ℕ) → a * p * q * b ≡ a * (b * q * p)
    cross a b p q = simp (mul_assoc, mul_comm, mul_left_comm)

pub div_of_casts : (f : Format) (a b : ℕ) → 0 < b → a ≤ 2 ^ prec f → b ≤ 2 ^ prec f → div f (of_int f (pos a)) (of_int f (pos b)) ≡ round f false a b
div_of_casts f a b B ha hb = div_at f (of_int f (pos a)) (of_int f (pos b)) a b B (cast_exact f a ha) (cast_exact f b hb)
