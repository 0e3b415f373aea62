-- The laws by which the functions' proofs go: the first elements of the rounds, as they are or mirrored, and what the search's answer says of the hits.
-- Assumes nothing.
use mathlib.Core.Path.{◌≡◌, ap, ◌∙◌}
use Prim.Native.Nat.{ℕ, zero, suc, ◌+◌, ◌-◌, ◌*◌, ◌/◌, ◌%◌, ◌<◌, ◌≤◌}
use native.Mathlib.Nat.{lt_of_not-le, mul-le-mul_right, mul-le-mul_left, mod-lt, mod-le, mod-eq_of_lt, mul-add-mod_self_right, div-add-mod'}
use native.Mathlib.Omega.{arith, by_contra}
use Rattle.next.specs.Hit.{IsBelow, Finds}
use Rattle.next.specs.Rounds.{HitIn, Least, Searched}
use Rattle.std.specs.Prelude.{Some, None}

-- the index of the first element of round 1, and that element modulo p
abbrev pub first : ℕ → ℕ → ℕ → ℕ
first p a u = (p - u + (a - 1)) / a

abbrev pub foot : ℕ → ℕ → ℕ → ℕ
foot p a u = u + first p a u * a - p

-- what the search knows where the progression moves: of round 1, and that its numbers fit
pub record Moving (p a u w : ℕ) : Type 0 where
  pub foot_at : u + first p a u * a ≡ p + foot p a u
  pub foot_low : foot p a u < a
  pub later : 0 < first p a u
  pub rest_low : p % a < a
  pub small : p ≤ 4000000000
  pub few : first p a u ≤ p
  pub weighs : first p a u * w ≤ 4000000000
  pub inner_small : w * (p / a) * a ≤ 4000000000
  pub inner_weight : 0 < w * (p / a)
  pub inner_weighs : w * (p / a) ≤ 4000000000

-- element i is in a round up to i, as the difference is at most p
few_rounds : (p a u k i : ℕ) → u < p → a ≤ p → k * p ≤ u + i * a → k ≤ i
few_rounds p a u k i up ap h =
    by_contra k i (λ z. omega (arith, mul-le-mul_right {m = suc i} {n = k} p z, mul-le-mul_left {m = a} {n = p} i ap))

none-answer : (p a u l w b : ℕ) → ((i k : ℕ) → i * w < b → ¬ HitIn p a u l k i) → Least p a u l w b 0 0
none-answer p a u l w b none =
    record { hit = λ h. absurd (omega arith); near = λ h. absurd (omega arith); least = λ i k h z. absurd (none i k h z) }

pub still_answer : (p a u l w b : ℕ) → Searched p a u l w → a ≡ 0 → Least p a u l w b 0 0
still_answer p a u l w b t e = none-answer p a u l w b none
  where
    none : (i k : ℕ) → i * w < b → ¬ HitIn p a u l k i
    none i zero h z = omega (arith, z.high)
    none i (suc k) h z = omega (arith, z.low, ap (λ (y : ℕ). i * y) e)

module _ (p a u l w : ℕ) (t : Searched p a u l w) (pos : 0 < a) where
  foot_sum : (u + first p a u * a ≡ p + foot p a u) × (foot p a u < a) × (0 < first p a u)
  foot_sum =
      let x = p - u + (a - 1) in
      let e = div-add-mod' x a in
      let r = mod-lt x pos in
      (omega arith, omega arith, lt_of_not-le (λ z. omega (arith, mul-le-mul_right {m = first p a u} {n = 0} a z)))

  rest : (p % a < a) × (p / a * a + p % a ≡ p)
  rest = (mod-lt p pos, div-add-mod' p a)

  first-few : first p a u ≤ p
  first-few =
      by_contra (first p a u) p
      (λ z. omega (arith, mul-le-mul_right {m = suc p} {n = first p a u} a z, mul-le-mul_left {m = 1} {n = a} p pos, foot_sum))

  some_round : 0 < p / a
  some_round = lt_of_not-le (λ z. omega (arith, mul-le-mul_right {m = p / a} {n = 0} a z, rest))

  pub moving : Moving p a u w
  moving =
      record {
        foot_at = foot_sum.0;
        foot_low = foot_sum.1;
        later = foot_sum.2;
        rest_low = rest.0;
        small = omega (arith, mul-le-mul_right {m = 1} {n = w} p t.weight);
        few = first-few;
        weighs = omega (arith, mul-le-mul_right {m = first p a u} {n = p} w first-few);
        inner_small = omega (arith, mul-le-mul_left {m = p / a * a} {n = p} w (omega (arith, rest)));
        inner_weight = omega (arith, mul-le-mul_left {m = 1} {n = p / a} w some_round);
        inner_weighs = omega (arith, mul-le-mul_left {m = 1} {n = a} (w * (p / a)) pos, mul-le-mul_left {m = p / a * a} {n = p} w (omega (arith, rest)));
      }

  -- before round 1 the elements rise from u
  none_before : (i k : ℕ) → i < first p a u → ¬ HitIn p a u l k i
  none_before i zero h z = omega (arith, z.high)
  none_before i (suc k) h z = omega (arith, mul-le-mul_right {m = suc i} {n = first p a u} a h, z.low, foot_sum)

  module _ (b : ℕ) where
    pub past_answer : b ≤ first p a u * w → Least p a u l w b 0 0
    past_answer h =
        none-answer p a u l w b (λ i k g. none_before i k (lt_of_not-le (λ z. omega (arith, mul-le-mul_right {m = first p a u} {n = i} w z))))

    pub first-answer : foot p a u < l → Least p a u l w b (first p a u) 1
    first-answer h =
        record {
          hit = λ g. record { low = omega (arith, foot_sum); high = omega (arith, foot_sum) };
          near = λ g. lt_of_not-le (λ z. omega (arith, mul-le-mul_right {m = p} {n = first p a u} a z, mul-le-mul_left {m = 1} {n = a} p pos, foot_sum));
          least = λ i k g z. (omega arith, by_contra (first p a u) i (λ y. none_before i k y z));
        }

  rounds : (d : ℕ) → d * (p / a * a) + d * (p % a) ≡ d * p
  rounds d = let z : d * (p / a * a + p % a) ≡ d * p = ap (λ (y : ℕ). d * y) rest.1 in omega arith

  -- each round has p / a elements or more
  in_time : (d i : ℕ) → HitIn p a u l (d + 1) i → first p a u + d * (p / a) ≤ i
  in_time d i z =
      by_contra (first p a u + d * (p / a)) i
      (λ y. omega (arith, mul-le-mul_right {m = suc i} {n = first p a u + d * (p / a)} a y, rounds d, z.low, foot_sum))

  module _ (lf : l ≤ foot p a u) where
    -- index i and round d + 1 of a hit, against index d and round m of the first elements, as they are or mirrored
    same_up : (d i m : ℕ) → i + m ≡ first p a u + d * (p / a + 1) → foot p a u + d * (a - p % a) + (d + 1) * p ≡ m * a + (u + i * a)
    same_up d i m g =
        let y : a - p % a + p % a ≡ a = omega (arith, rest) in
        let z : d * (a - p % a + p % a) ≡ d * a = ap (λ (y : ℕ). d * y) y in
        let w : (i + m) * a ≡ (first p a u + d * (p / a + 1)) * a = ap (λ (y : ℕ). y * a) g in
        omega (arith, rounds d, foot_sum)

    same_mirrored : (d i m : ℕ) → i + 1 ≡ first p a u + d * (p / a) + m → a - foot p a u + l - 1 + d * (p % a) + (u + i * a) + 1 ≡ m * a + (d + 1) * p + l
    same_mirrored d i m g =
        let w : (i + 1) * a ≡ (first p a u + d * (p / a) + m) * a = ap (λ (y : ℕ). y * a) g in
        omega (arith, rounds d, foot_sum)

    lower-up : (d i : ℕ) → HitIn p a u l (d + 1) i → HitIn a (a - p % a) (foot p a u) l (first p a u + d * (p / a + 1) - i) d
    lower-up d i z =
        let s = first p a u + d * (p / a + 1) in
        let h : i ≤ s = by_contra i s (λ y. omega
        (arith, mul-le-mul_right {m = suc s} {n = i} a y, rounds d, mul-le-mul_left {m = p % a} {n = a} d (omega (arith, rest)), z.high, foot_sum)) in
        let g = same_up d i (s - i) (omega arith) in
        record { low = omega (arith, z.low); high = omega (arith, z.high) }

    lower_mirrored : (d i : ℕ) → HitIn p a u l (d + 1) i → HitIn a (p % a) (a - foot p a u + l - 1) l (i + 1 - (first p a u + d * (p / a))) d
    lower_mirrored d i z =
        let g = same_mirrored d i (i + 1 - (first p a u + d * (p / a))) (omega (arith, in_time d i z)) in
        record { low = omega (arith, z.high); high = omega (arith, z.low) }

    -- the answer, from that of the first elements: a hit at index d, or none where m is 0
    module _ (b d m : ℕ) (inner : (e i : ℕ) → e * (w * (p / a)) < b - first p a u * w → HitIn p a u l (e + 1) i → (0 < m) × (d ≤ e)) where
      outer : (i k : ℕ) → i * w < b → HitIn p a u l k i → (0 < m) × (d < k)
      outer i zero h z = absurd (omega (arith, z.high))
      outer i (suc k) h z =
          let y : HitIn p a u l (k + 1) i = record { low = omega (arith, z.low); high = omega (arith, z.high) } in
          let g = inner k i (omega (arith, mul-le-mul_right {m = first p a u + k * (p / a)} {n = i} w (in_time k i y))) y in
          (g.0, omega arith)

      raise_none : m ≡ 0 → Least p a u l w b 0 0
      raise_none e = none-answer p a u l w b (λ i k h z. omega (arith, outer i k h z))

      raise_hit : (i : ℕ) → d < a → HitIn p a u l (d + 1) i → Least p a u l w b i (d + 1)
      raise_hit i da z =
          record {
            hit = λ h. z;
            near = λ h. lt_of_not-le (λ y. omega (arith, mul-le-mul_right {m = p} {n = i} a y, mul-le-mul_right {m = suc d} {n = a} p da, z.high));
            least = λ j k h y. (
              omega arith,
              by_contra i j
                  (λ x. omega (
                    arith,
                    mul-le-mul_right {m = suc j} {n = i} a x,
                    mul-le-mul_right {m = suc d} {n = k} p
                        (outer j k h y).1,
                    y.low,
                    z.high,
                    foot_sum,
                  )),
            );
          }

    module _ (b d m : ℕ) (x : Least a (a - p % a) (foot p a u) l (w * (p / a)) (b - first p a u * w) d m) where
      up_inner : (e i : ℕ) → e * (w * (p / a)) < b - first p a u * w → HitIn p a u l (e + 1) i → (0 < m) × (d ≤ e)
      up_inner e i h z = x.least e (first p a u + e * (p / a + 1) - i) h (lower-up e i z)

      pub up_none : m ≡ 0 → Least p a u l w b 0 0
      up_none = raise_none b d m up_inner

      pub up-few : 0 < m → (m ≤ d) × (d < a) × (d * (p / a + 1) ≤ 2 * p)
      up-few h = (
        few_rounds a (a - p % a) (foot p a u) m d foot_sum.1 (omega arith) (x.hit h).low,
        x.near h,
        omega
            (arith, mul-le-mul_right {m = d} {n = a} (p / a + 1) (omega (arith, x.near h)), rest),
      )

      pub up-hit : 0 < m → Least p a u l w b (first p a u + d * (p / a + 1) - m) (d + 1)
      up-hit h =
          let i = first p a u + d * (p / a + 1) - m in
          let g = same_up d i m (omega (arith, up-few h)) in
          raise_hit b d m up_inner i (x.near h) (record { low = omega (arith, (x.hit h).low); high = omega (arith, (x.hit h).high) })

    module _ (b d m : ℕ) (x : Least a (p % a) (a - foot p a u + l - 1) l (w * (p / a)) (b - first p a u * w) d m) where
      mirrored_inner : (e i : ℕ) → e * (w * (p / a)) < b - first p a u * w → HitIn p a u l (e + 1) i → (0 < m) × (d ≤ e)
      mirrored_inner e i h z = x.least e (i + 1 - (first p a u + e * (p / a))) h (lower_mirrored e i z)

      pub mirrored_none : m ≡ 0 → Least p a u l w b 0 0
      mirrored_none = raise_none b d m mirrored_inner

      pub mirrored_few : 0 < m → (m ≤ d) × (d < a) × (d * (p / a) ≤ p)
      mirrored_few h = (
        few_rounds a (p % a) (a - foot p a u + l - 1) m d (omega (arith, foot_sum)) (omega (arith, rest)) (x.hit h).low,
        x.near h,
        omega
            (arith, mul-le-mul_right {m = d} {n = a} (p / a) (omega (arith, x.near h)), rest),
      )

      pub mirrored_hit : 0 < m → Least p a u l w b (first p a u + d * (p / a) + m - 1) (d + 1)
      mirrored_hit h =
          let i = first p a u + d * (p / a) + m - 1 in
          let g = same_mirrored d i m (omega (arith, foot_sum)) in
          raise_hit b d m mirrored_inner i (x.near h) (record { low = omega (arith, (x.hit h).high); high = omega (arith, (x.hit h).low) })

-- the round of a hit is what the modulus takes away
hit_in : (p a u l i : ℕ) → IsBelow p a u l i → HitIn p a u l ((u + i * a) / p) i
hit_in p a u l i h = let e = div-add-mod' (u + i * a) p in record { low = omega arith; high = omega arith }

in_hit : (p a u l k i : ℕ) → HitIn p a u l k i → IsBelow p a u l i
in_hit p a u l k i z =
    let v = u + i * a - k * p in
    let e : u + i * a ≡ k * p + v = omega (arith, z.low) in
    let g : (u + i * a) % p ≡ v % p = ap (λ (y : ℕ). y % p) e ∙ mul-add-mod_self_right k p v in
    omega (arith, mod-le v p, z.high)

-- what the search's answer says of the hits among the first n elements
module _ (p a u l n index round : ℕ) (x : Least p a u l 1 n index round) where
  found : (i : ℕ) → i < n → IsBelow p a u l i → (0 < round) × (index ≤ i)
  found i h z = x.least i ((u + i * a) / p) (omega arith) (hit_in p a u l i z)

  pub answer-found : 0 < round → index < n → Finds p a u l n (Some index)
  unfolding Finds
  answer-found r h =
      (h, record { hit = in_hit p a u l round index (x.hit r); least = λ i g z. omega (arith, found i (omega arith) z) })

  pub answer-none : round ≡ 0 → Finds p a u l n None
  unfolding Finds
  answer-none r i h z = omega (arith, found i h z)

  pub answer_later : n ≤ index → Finds p a u l n None
  unfolding Finds
  answer_later g i h z = omega (arith, found i h z)

-- the answers that need no search
pub answer_empty : (p a u l n : ℕ) → n ≡ 0 → Finds p a u l n None
unfolding Finds
answer_empty p a u l n e i h z = omega arith

pub answer-zero : (p a u l n : ℕ) → l ≡ 0 → Finds p a u l n None
unfolding Finds
answer-zero p a u l n e i h z = omega arith

pub answer_here : (p a u l n : ℕ) → u < p → u < l → 0 < n → Finds p a u l n (Some 0)
unfolding Finds
answer_here p a u l n up ul pn =
    let z : u + 0 * a ≡ u = omega arith in
    let e : (u + 0 * a) % p ≡ u = ap (λ (y : ℕ). y % p) z ∙ mod-eq_of_lt up in
    (pn, record { hit = omega arith; least = λ j h. absurd (omega arith) })
