-- The law of rounds: what a fold computes is the count.
--     hits_rounds, rounds_few        a progression of k rounds counts as one of its k starts, modulo the difference, and there are few
--     halves                         the smaller job's difference is at most half
-- Assumes nothing.
use mathlib.Core.Path.{◌≡◌, sym, ap, ◌∙◌, subst}
use mathlib.Core.Logic.{⊎_elim}
use Prim.Native.Nat.{ℕ, zero, suc, ◌+◌, ◌-◌, ◌*◌, ◌/◌, ◌%◌, ◌<◌, ◌≤◌, min}
use native.Mathlib.Nat.{add-suc, mul-le-mul_right, mod-lt, mod-eq_of_lt, add-mod_right, add-mul-mod_self_right, mul-add-mod_self_right}
use native.Mathlib.Nat.{div-add-mod', div-eq_of_lt, add-div_right, add-mul-div_right, zero-min, mul-le-mul_left}
use native.Mathlib.Omega.{arith}
use Rattle.lists.proofs.Tests.{by_order}
use Rattle.count.specs.Hits.{hit, hits_up}
use Rattle.count.proofs.Laws.{hit_yes, hit_no, hit-min, hit_same, hits_join}

-- the order of numbers by their quotients first
lex : (d a f q r : ℕ) → f < d → r < d → hit (a * d + f) (q * d + r) ≡ hit a (q + hit f r)
lex d a f q r hf hr = hit_same (a * d + f) (q * d + r) a (q + hit f r) there back
  where
    there : a * d + f < q * d + r → a < q + hit f r
    there h =
        ⊎_elim
        (λ lt. ⊎_elim (λ ok. ok) (λ ge. omega (arith, hit_yes f r lt, mul-le-mul_right {m = q + 1} {n = a} d (omega (arith, hit_yes f r lt))))
        (by_order a (q + hit f r)))
        (λ le. ⊎_elim (λ ok. ok) (λ ge. omega (arith, hit_no f r le, mul-le-mul_right {m = q} {n = a} d (omega (arith, hit_no f r le))))
        (by_order a (q + hit f r)))
        (by_order f r)

    back : a < q + hit f r → a * d + f < q * d + r
    back h =
        ⊎_elim
        (λ lt. omega (arith, mul-le-mul_right {m = a} {n = q} d (omega (arith, hit_yes f r lt))))
        (λ le. omega (arith, mul-le-mul_right {m = a + 1} {n = q} d (omega (arith, hit_no f r le))))
        (by_order f r)

hit-div : (d x l : ℕ) → 0 < d → hit x l ≡ hit (x / d) (l / d + hit (x % d) (l % d))
hit-div d x l pos =
    ap (λ (y : ℕ). hit y l) (sym (div-add-mod' x d))
    ∙ ap (λ (y : ℕ). hit (x / d * d + x % d) y) (sym (div-add-mod' l d))
    ∙ lex d (x / d) (x % d) (l / d) (l % d) (mod-lt x pos) (mod-lt l pos)

-- of x = a * d + f, the elements f, f + d, .., x that lie below l
upto : ℕ → ℕ → ℕ → ℕ
upto d l x = min (x / d + 1) (l / d + hit (x % d) (l % d))

-- the last of them is the first
upto_first : (d l x : ℕ) → x < d → upto d l x ≡ hit x l
unfolding upto
upto_first d l x h =
    let e : x / d ≡ 0 = div-eq_of_lt h in
    omega (arith, hit-div d x l (omega arith), hit-min (x / d) (l / d + hit (x % d) (l % d)))

-- one more
upto_more : (d l x : ℕ) → 0 < d → upto d l (x + d) ≡ upto d l x + hit (x + d) l
unfolding upto
upto_more d l x pos =
    let q : (x + d) / d ≡ x / d + 1 = add-div_right x pos in
    let f : hit ((x + d) % d) (l % d) ≡ hit (x % d) (l % d) = ap (λ (y : ℕ). hit y (l % d)) (add-mod_right x d) in
    omega (arith, hit-div d (x + d) l pos, hit-min ((x + d) / d) (l / d + hit ((x + d) % d) (l % d)))

-- all, where the next would not lie below l
upto_all : (d l x : ℕ) → 0 < d → l ≤ x + d → upto d l x ≡ l / d + hit (x % d) (l % d)
unfolding upto
upto_all d l x pos h =
    let q : (x + d) / d ≡ x / d + 1 = add-div_right x pos in
    let f : hit ((x + d) % d) (l % d) ≡ hit (x % d) (l % d) = ap (λ (y : ℕ). hit y (l % d)) (add-mod_right x d) in
    omega (arith, hit_no (x + d) l h, hit-div d (x + d) l pos, hit-min ((x + d) / d) (l / d + hit ((x + d) % d) (l % d)))

-- where a round starts: the foot of round k
foot : (m d f n k x : ℕ) → 0 < d → f + n * d ≡ k * m + x → (f + k * (d - m % d)) % d ≡ x % d
foot m d f n k x pos e =
    sym (add-mul-mod_self_right (f + k * (d - m % d)) n d)
    ∙ ap (λ (y : ℕ). y % d) same
    ∙ add-mul-mod_self_right x (k * (m / d + 1)) d
  where
    back : k * (m / d * d + m % d + (d - m % d)) ≡ k * (m / d + 1) * d
    back =
        let e : m / d * d + m % d + (d - m % d) ≡ (m / d + 1) * d = omega (arith, mod-lt m pos) in
        ap (λ (y : ℕ). k * y) e ∙ omega arith

    whole : k * (m / d * d + m % d + (d - m % d)) ≡ k * (m + (d - m % d))
    whole = ap (λ (y : ℕ). k * (y + (d - m % d))) (div-add-mod' m d)

    same : f + k * (d - m % d) + n * d ≡ x + k * (m / d + 1) * d
    same = omega (arith, back, whole, e)

-- what k whole rounds and the one that comes up to x have below l
total : ℕ → ℕ → ℕ → ℕ → ℕ → ℕ → ℕ
total m d l f k x = l / d * k + hits_up d (d - m % d) f k (l % d) + upto d l x

module _ (m d l f : ℕ) (pos : 0 < d) (dm : d ≤ m) (lm : l ≤ m) (fd : f < d) where
  place : (n k x : ℕ) → x < m → f + n * d ≡ k * m + x → hit ((f + n * d) % m) l ≡ hit x l
  place n k x xm e = ap (λ (y : ℕ). hit y l) (ap (λ (y : ℕ). y % m) e ∙ mul-add-mod_self_right k m x ∙ mod-eq_of_lt xm)

  -- a step inside of a round
  inside : (n k x : ℕ) → d ≤ x → hits_up m d f (suc n) l ≡ total m d l f k (x - d) → hit ((f + suc n * d) % m) l ≡ hit x l
      → hits_up m d f (suc (suc n)) l ≡ total m d l f k x
  unfolding hits_up total
  inside n k x h ih p =
      let z : x - d + d ≡ x = omega arith in
      let more : upto d l x ≡ upto d l (x - d) + hit x l = subst (λ (y : ℕ). upto d l y ≡ upto d l (x - d) + hit y l) z (upto_more d l (x - d) pos) in
      omega arith

  -- a step into the next round
  across : (n k x : ℕ) → x < d → f + n * d ≡ k * m + (x + (m - d)) → hits_up m d f (suc n) l ≡ total m d l f k (x + (m - d))
      → hit ((f + suc n * d) % m) l ≡ hit x l
      → hits_up m d f (suc (suc n)) l ≡ total m d l f (suc k) x
  unfolding hits_up total
  across n k x h e ih p =
      let all : upto d l (x + (m - d)) ≡ l / d + hit ((x + (m - d)) % d) (l % d) = upto_all d l (x + (m - d)) pos (omega arith) in
      let low : hit ((f + k * (d - m % d)) % d) (l % d) ≡ hit ((x + (m - d)) % d) (l % d) = ap (λ (y : ℕ). hit y (l % d))
      (foot m d f n k (x + (m - d)) pos e) in
      omega (arith, upto_first d l x h)

  -- the count from the foot f of the first round on: n + 1 elements, of which the last is x in round k
  rounds : (n k x : ℕ) → x < m → f + n * d ≡ k * m + x → hits_up m d f (suc n) l ≡ total m d l f k x
  unfolding hits_up total
  rounds zero zero x xm e = omega (arith, place 0 0 x xm e, upto_first d l x (omega arith))
  rounds zero (suc k) x xm e = absurd (omega arith)
  rounds (suc n) zero x xm e =
      ⊎_elim
      (λ h. absurd (omega arith))
      (λ h. inside n 0 x h (rounds n 0 (x - d) (omega arith) (omega arith)) (place (suc n) 0 x xm e))
      (by_order x d)
  rounds (suc n) (suc k) x xm e =
      ⊎_elim
      (λ h. across n k x h (omega arith) (rounds n k (x + (m - d)) (omega arith) (omega arith)) (place (suc n) (suc k) x xm e))
      (λ h. inside n (suc k) x h (rounds n (suc k) (x - d) (omega arith) (omega arith)) (place (suc n) (suc k) x xm e))
      (by_order x d)

  -- the first t elements, none past the first round
  first : (t : ℕ) → f + t * d < m + d → hits_up m d f t l ≡ min t (l / d + hit f (l % d))
  unfolding hits_up total upto
  first zero h = sym (zero-min (l / d + hit f (l % d)))
  first (suc t) h =
      let q : (f + t * d) / d ≡ t = add-mul-div_right f t pos ∙ omega (arith, div-eq_of_lt fd) in
      let s : hit ((f + t * d) % d) (l % d) ≡ hit f (l % d) = ap (λ (y : ℕ). hit y (l % d)) (add-mul-mod_self_right f t d ∙ mod-eq_of_lt fd) in
      omega (arith, rounds t 0 (f + t * d) (omega arith) (omega arith))

-- the law of rounds: of n + 1 elements from u on the last is x, k rounds further on
pub hits_rounds : (m d u n l k x : ℕ) → 0 < d → d ≤ m → u < m → x < m → l ≤ m → u + n * d ≡ k * m + x
    → hits_up m d u (suc n) l + min (u / d) (l / d + hit (u % d) (l % d))
    ≡ l / d * k + hits_up d (d - m % d) (u % d) k (l % d) + min (x / d + 1) (l / d + hit (x % d) (l % d))
unfolding total upto
hits_rounds m d u n l k x pos dm um xm lm e =
    let fd : u % d < d = mod-lt u pos in
    let du : u % d + u / d * d ≡ u = omega (arith, div-add-mod' u d) in
    let join : hits_up m d (u % d) (suc (u / d + n)) l ≡ hits_up m d (u % d) (u / d) l + hits_up m d u (suc n) l =
    ap (λ (k : ℕ). hits_up m d (u % d) k l) (sym (add-suc (u / d) n))
    ∙ hits_join m d (u % d) (u / d) (suc n) l
    ∙ ap (λ (y : ℕ). hits_up m d (u % d) (u / d) l + hits_up m d y (suc n) l) du in
    let start : hits_up m d (u % d) (u / d) l ≡ min (u / d) (l / d + hit (u % d) (l % d)) = first m d l (u % d) pos dm lm fd (u / d) (omega arith) in
    omega (arith, rounds m d l (u % d) pos dm lm fd (u / d + n) k x xm (omega arith))

-- there are at most as many rounds as steps
pub rounds_few : (m d u n k x : ℕ) → d ≤ m → u < m → u + n * d ≡ k * m + x → k ≤ n
rounds_few m d u n k x dm um e =
    ⊎_elim
    (λ h. omega arith)
    (λ h. absurd (omega (arith, mul-le-mul_left n dm, mul-le-mul_right m h)))
    (by_order k (n + 1))

-- the smaller job's difference, down by m % d or up by d - m % d, whichever is less, is at most half of d
pub halves : (m d s : ℕ) → 0 < d → s ≡ min (m % d) (d - m % d) → 2 * s ≤ d
halves m d s pos e = omega (arith, mod-lt m pos)
