-- What the proofs of the two counts cite: the law of rounds at the numbers that a call computes. Assumes nothing.
use mathlib.Core.Path.{◌≡◌, refl, sym, ap, ◌∙◌}
use mathlib.Core.Bool.{Bool, true, false, ◌||◌}
use mathlib.Core.Logic.{◌⊎◌, inl, inr, ⊎_elim}
use Prim.Native.Nat.{ℕ, suc, ◌+◌, ◌-◌, ◌*◌, ◌/◌, ◌%◌, ◌<◌, ◌≤◌, min}
use native.Mathlib.Nat.{mod-lt, div-add-mod', div-le_self, mul-le-mul}
use native.Mathlib.Omega.{arith}
use lib.Dec.{eqb}
use borrow.Author.Tests.{eqb-true}
use Rattle.count.specs.declared.Rounds.{Rounds}
use Rattle.count.specs.Hits.{hit, hits_up, hits_down, Takes}
use Rattle.count.specs.Cuts.{Cut}
use Rattle.count.proofs.Laws.{hit-min, hits_few, hits_turn, hits-none, hits-zero}
use Rattle.count.proofs.Folds.{hits_rounds, rounds_few}

-- what the functions multiply fits
pub wide : (a b : ℕ) → a ≤ 4000000000 → b ≤ 200000000 → a * b ≤ 4000000000 * 200000000
wide a b ha hb = mul-le-mul {n₂ = 4000000000} {m₂ = 200000000} ha hb

-- the last of n elements upwards, not yet reduced
pub reach_up : (m d u n e : ℕ) → e ≡ u + (n - 1) * d → u + (n - 1) * d ≡ e / m * m + e % m
reach_up m d u n e ee = omega (arith, div-add-mod' e m)

-- and it passes m at most once at each step
pub passes : (m d u n e : ℕ) → d ≤ m → u < m → e ≡ u + (n - 1) * d → e / m ≤ n - 1
passes m d u n e dm um ee = rounds_few m d u (n - 1) (e / m) (e % m) dm um (reach_up m d u n e ee)

-- a progression downwards, read from its end e % m: it stops at u
pub reach_down : (m d u n e : ℕ) → d ≤ m → u < m → e ≡ u + (n - 1) * (m - d) → e % m + (n - 1) * d ≡ (n - 1 - e / m) * m + u
reach_down m d u n e dm um ee =
    let all : (n - 1) * (m - d + d) ≡ (n - 1) * m = ap (λ (y : ℕ). (n - 1) * y) (omega arith) in
    let part : (n - 1 - e / m + e / m) * m ≡ (n - 1) * m = ap (λ (y : ℕ). y * m) (omega (arith, passes m (m - d) u n e (omega arith) um ee)) in
    omega (arith, div-add-mod' e m)

-- so a count downwards is one upwards, from there
pub turned : (m d u n l e : ℕ) → d ≤ m → 0 < n → e ≡ u + (n - 1) * (m - d) → hits_down m d u n l ≡ hits_up m d (e % m) n l
turned m d u n l e dm pn ee =
    let one : n ≡ suc (n - 1) = omega arith in
    ap (λ (k : ℕ). hits_down m d u k l) one
    ∙ hits_turn m d u (n - 1) l dm
    ∙ ap (λ (k : ℕ). hits_up m d ((u + (n - 1) * (m - d)) % m) k l) (sym one)
    ∙ ap (λ (y : ℕ). hits_up m d (y % m) n l) (sym ee)

pub turned_takes : {m d u n l : ℕ} (e : ℕ) → Takes m d u n l → Takes m d (e % m) n l
turned_takes e t = record { small = t.small; half = t.half; start = mod-lt e (omega arith); bound = t.bound; few = t.few }

-- n elements from u on, the last at x, k rounds further on, with those rounds
pub record Reached (m d u n l k x : ℕ) (c : Rounds) : Type 0 where
  pub takes : Takes m d u n l
  pub some : 0 < n
  pub moves : 0 < d
  pub inside : x < m
  pub ends : u + (n - 1) * d ≡ k * m + x
  pub rounds : Cut m d u k x l c

-- the smaller job's count: the k feet below l % d
abbrev pub feet : ℕ → ℕ → ℕ → ℕ → ℕ → ℕ
feet m d u k l = hits_up d (d - m % d) (u % d) k (l % d)

-- with it the rounds add up to the count h, and the sum fits
pub record Adds (h : ℕ) (c : Rounds) (low : ℕ) : Type 0 where
  pub sum : h + c.before ≡ c.sure + low
  pub fits : c.sure + low ≤ 1000000000000000000

either : (s t : Bool) → (s || t) ≡ true → (s ≡ true) ⊎ (t ≡ true)
either true t e = inl refl
either false t e = inr e

module _ {m d u n l k x : ℕ} {c : Rounds} (r : Reached m d u n l k x c) where
  few_rounds : k ≤ n - 1
  few_rounds = rounds_few m d u (n - 1) k x (omega arith) r.takes.start r.ends

  -- the smaller job is one that the counts take, and its difference is less
  pub smaller : (t : ℕ) → d ≡ t → (c.step < t) × Takes d c.step c.foot k c.bound
  smaller t e =
      let few : k ≤ n - 1 = few_rounds in (
        omega arith,
        record {
          small = omega arith;
          half = r.rounds.half;
          start = omega (arith, mod-lt u r.moves);
          bound = omega
              (arith, mod-lt l r.moves);
          few = omega arith;
        },
      )

  -- its count: 0 where there is no round or no foot can be below, and else that of a call
  pub low-none : (low : ℕ) → (eqb k 0 || eqb c.bound 0) ≡ true → low ≡ 0 → low ≡ feet m d u k l
  low-none low e z =
      ⊎_elim
      (λ h. z ∙ sym (hits-none d (d - m % d) (u % d) k (l % d) (eqb-true k 0 h)))
      (λ h. z ∙ sym (hits-zero d (d - m % d) (u % d) k (l % d) (sym r.rounds.bound_is ∙ eqb-true c.bound 0 h)))
      (either (eqb k 0) (eqb c.bound 0) e)

  pub low_down : (low : ℕ) → c.down ≡ true → low ≡ hits_down d c.step c.foot k c.bound → low ≡ feet m d u k l
  unfolding hits_down
  low_down low e h = let s : c.step ≡ m % d = r.rounds.falls e in cc

  pub low_up : (low : ℕ) → c.down ≡ false → low ≡ hits_up d c.step c.foot k c.bound → low ≡ feet m d u k l
  low_up low e h = let s : c.step ≡ d - m % d = r.rounds.rises e in cc

  pub counted : (low : ℕ) → low ≡ feet m d u k l → Adds (hits_up m d u n l) c low
  counted low e =
      let few : k ≤ n - 1 = few_rounds in
      let one : n ≡ suc (n - 1) = omega arith in
      let a : hits_up m d u n l ≡ hits_up m d u (suc (n - 1)) l = ap (λ (i : ℕ). hits_up m d u i l) one in
      let law : hits_up m d u (suc (n - 1)) l + min (u / d) (l / d + hit (u % d) (l % d))
      ≡ l / d * k + feet m d u k l + min (x / d + 1) (l / d + hit (x % d) (l % d)) =
      hits_rounds m d u (n - 1) l k x r.moves (omega arith) r.takes.start r.inside r.takes.bound r.ends in
      record {
        sum = omega arith;
        fits = omega (
          arith,
          wide (l / d) k (omega (arith, div-le_self l d)) (omega arith),
          hit-min (x % d) (l % d),
          div-le_self l d,
          hits_few d (d - m % d)
              (u % d) k (l % d),
        );
      }
