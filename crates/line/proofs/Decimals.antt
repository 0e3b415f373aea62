-- The decimal digits of a number.
--     decimal-value, decimal-digits, decimal-first    read back they give the number; each is a digit; no leading zero
--     number-text     so the text of a number up to 4294967295 is read back as that number
--     decimal-some, decimal-short    at least one digit, and at most as many as the power of ten says
--     decimal-length, decimal_ten    so 1 to 20 digits, and at most 10 for a number of 32 bits
--     last_digits, decimal-last    the digits as a walk from the last one makes them
--     Left, left_all, left_step, left_one    the digits as they are counted
-- Assumes nothing.
use mathlib.Core.Path.{◌≡◌, refl, sym, ap, ◌∙◌}
use mathlib.Core.Bool.{true, false, not}
use mathlib.Core.Logic.{⊎_elim}
use mathlib.Core.List.{List, [], ◌∷◌, ◌++◌}
use Rattle.std.specs.Prelude.{Some}
use Prim.Native.Nat.{ℕ, zero, suc, ◌+◌, ◌*◌, ◌/◌, ◌%◌, ◌^◌, ◌≤◌, ◌<◌}
use native.Mathlib.Omega.{arith}
use native.Mathlib.Nat.{div-add-mod', mod-lt, mod-eq_of_lt, div-lt_iff_lt-mul, pow-suc}
use lib.Dec.{leb, ltb}
use lib.ListN.{length}
use borrow.Author.Tests.{le-leb, ltb-true, ltb-false, lt-ltb, le-ltb, ne_eqb}
use Rattle.lists.proofs.Tests.{tested}
use Rattle.lists.proofs.Steps.{length_more}
use Rattle.line.specs.Lines.{Word, digit, digits, no_leading_zero, value, number}
use Rattle.line.specs.Texts.{decimal_in, decimal}
use Rattle.line.proofs.Words.{digits_append, onward-append, leading}

-- the last digit of a number, and what is left of it
last : (x : ℕ) → (x % 10 < 10) × (x / 10 * 10 + x % 10 ≡ x)
last x = (mod-lt x {m = 10} (omega arith), div-add-mod' x 10)

left_below : (k x : ℕ) → x < 10 ^ suc k → x / 10 < 10 ^ k
left_below k x h = (div-lt_iff_lt-mul {k = 10} {x = x} {y = 10 ^ k} (omega arith)).1 (rw pow-suc at h)

-- a statement on the digits, by the two cases of the definition
cases : (P : List ℕ → Type 0) (k x : ℕ) → (x < 10 → P ((48 + x) ∷ [])) → (10 ≤ x → P (decimal_in k (x / 10) ++ ((48 + x % 10) ∷ []))) → P (decimal_in (suc k) x)
cases P k x f g =
    ⊎_elim (λ (e : ltb x 10 ≡ true). rw e (f (ltb-true x 10 e))) (λ (e : ltb x 10 ≡ false). rw e (g (ltb-false x 10 e))) (tested (ltb x 10))

below_one : {x : ℕ} → x < 10 ^ 0 → x ≡ 0
below_one h = omega arith

pub decimal-value : (k x : ℕ) → x < 10 ^ k → value (decimal_in k x) ≡ x
decimal-value zero x h = sym (below_one h)
decimal-value (suc k) x h =
    cases (λ (l : List ℕ). value l ≡ x) k x (λ s. omega arith) (λ s.
    let ih : value (decimal_in k (x / 10)) ≡ x / 10 = decimal-value k (x / 10) (left_below k x h) in
    rw (onward-append 0 (decimal_in k (x / 10)) ((48 + x % 10) ∷ []), ih) (omega (arith, last x)))

a_digit : (d : ℕ) → d < 10 → digit (48 + d) ≡ true
a_digit d h = rw (le-leb 48 (48 + d) (omega arith), le-leb (48 + d) 57 (omega arith))

pub decimal-digits : (k x : ℕ) → digits (decimal_in k x) ≡ true
decimal-digits zero x = refl
decimal-digits (suc k) x =
    cases (λ (l : List ℕ). digits l ≡ true) k x (λ s. rw (a_digit x s)) (λ s.
    rw (digits_append (decimal_in k (x / 10)) ((48 + x % 10) ∷ []), decimal-digits k (x / 10), a_digit (x % 10) (last x).0))

pub decimal-some : (k x : ℕ) → 1 ≤ length (decimal_in (suc k) x)
decimal-some k x =
    cases (λ (l : List ℕ). 1 ≤ length l) k x (λ s. omega arith) (λ s. omega (arith, length_more (decimal_in k (x / 10)) (48 + x % 10)))

pub decimal-first : (k x : ℕ) → x < 10 ^ k → no_leading_zero (decimal_in k x) ≡ true
decimal-first zero x h = refl
decimal-first (suc k) x h =
    cases (λ (l : List ℕ). no_leading_zero l ≡ true) k x (λ s. refl) (λ s.
    let low : x / 10 < 10 ^ k = left_below k x h in
    let v : 1 ≤ value (decimal_in k (x / 10)) = omega (arith, decimal-value k (x / 10) low, last x) in
    front (decimal_in k (x / 10)) (decimal-digits k (x / 10)) (decimal-first k (x / 10) low) v)
  where
    front : (ds : Word) → digits ds ≡ true → no_leading_zero ds ≡ true → 1 ≤ value ds → no_leading_zero (ds ++ ((48 + x % 10) ∷ [])) ≡ true
    front [] a b v = refl
    front (d ∷ ds) a b v = leading d ds (48 + x % 10) [] a b ∙ ap not (ne_eqb (value (d ∷ ds)) 0 (λ e. omega arith))

pub number-text : (x : ℕ) → x ≤ 4294967295 → number (decimal x) ≡ Some x
unfolding decimal
number-text x h =
    let low : x < 10 ^ 20 = omega arith in
    let v : value (decimal_in 20 x) ≡ x = decimal-value 20 x low in
    let l : leb x 4294967295 ≡ true = le-leb x 4294967295 h in
    rw (lt-ltb 0 (length (decimal_in 20 x)) (decimal-some 19 x), decimal-digits 20 x, decimal-first 20 x low, v, l)

pub decimal-short : (n k x : ℕ) → x < 10 ^ suc k → length (decimal_in n x) ≤ suc k
decimal-short zero k x h = omega arith
decimal-short (suc n) zero x h = cases (λ (l : List ℕ). length l ≤ 1) n x (λ s. omega arith) (λ s. absurd (omega arith))
decimal-short (suc n) (suc k) x h =
    cases (λ (l : List ℕ). length l ≤ suc (suc k)) n x (λ s. omega arith) (λ s.
    omega (arith, length_more (decimal_in n (x / 10)) (48 + x % 10), decimal-short n k (x / 10) (left_below (suc k) x h)))

pub decimal-length : (x : ℕ) → (1 ≤ length (decimal x)) × (length (decimal x) ≤ 20)
unfolding decimal
decimal-length x = (decimal-some 19 x, fuel 20 x)
  where
    fuel : (k x : ℕ) → length (decimal_in k x) ≤ k
    fuel zero x = omega arith
    fuel (suc k) x =
        cases (λ (l : List ℕ). length l ≤ suc k) k x (λ s. omega arith)
        (λ s. omega (arith, length_more (decimal_in k (x / 10)) (48 + x % 10), fuel k (x / 10)))

pub decimal_ten : (x : ℕ) → x < 2 ^ 32 → length (decimal x) ≤ 10
unfolding decimal
decimal_ten x h = decimal-short 20 9 x (omega arith)

-- the last m digits
abbrev pub last_digits : ℕ → ℕ → List ℕ
last_digits zero x = []
last_digits (suc m) x = last_digits m (x / 10) ++ ((48 + x % 10) ∷ [])

last-all : (k x : ℕ) → decimal_in k x ≡ last_digits (length (decimal_in k x)) x
last-all zero x = refl
last-all (suc k) x =
    cases (λ (l : List ℕ). l ≡ last_digits (length l) x) k x (λ s. rw (mod-eq_of_lt {n = x} {m = 10} s)) (λ s.
    let n : length (decimal_in k (x / 10) ++ ((48 + x % 10) ∷ [])) ≡ suc (length (decimal_in k (x / 10))) =
    omega (arith, length_more (decimal_in k (x / 10)) (48 + x % 10)) in
    rw n (ap (λ (l : List ℕ). l ++ ((48 + x % 10) ∷ [])) (last-all k (x / 10))))

pub decimal-last : (x : ℕ) → decimal x ≡ last_digits (length (decimal x)) x
unfolding decimal
decimal-last x = last-all 20 x

-- n digits of x are counted, y among them, and what is left of x is y
pub record Left (x n y : ℕ) : Type 0 where
  pub k : ℕ
  pub room : k + n ≡ 20
  pub below : y < 10 ^ suc k
  pub whole : n + length (decimal_in (suc k) y) ≡ suc (length (decimal x))

pub left_all : (x : ℕ) → x < 2 ^ 64 → Left x 1 x
unfolding decimal
left_all x h = record { k = 19; room = refl; below = omega arith; whole = one (length (decimal_in 20 x)) }
  where
    one : (n : ℕ) → 1 + n ≡ suc n
    one n = omega arith

pub left_step : {x n y : ℕ} → Left x n y → 10 ≤ y → Left x (n + 1) (y / 10)
left_step {x} {n} {y} l h = go l.k l.room l.below l.whole
  where
    go : (k : ℕ) → k + n ≡ 20 → y < 10 ^ suc k → n + length (decimal_in (suc k) y) ≡ suc (length (decimal x)) → Left x (n + 1) (y / 10)
    go zero r b w = absurd (omega arith)
    go (suc k) r b w =
        let e : length (decimal_in (suc (suc k)) y) ≡ suc (length (decimal_in (suc k) (y / 10))) =
        rw (le-ltb y 10 h) (omega (arith, length_more (decimal_in (suc k) (y / 10)) (48 + y % 10))) in
        record { k = k; room = omega arith; below = left_below (suc k) y b; whole = omega arith }

pub left_one : {x n y : ℕ} → Left x n y → y < 10 → n ≡ length (decimal x)
left_one {x} {n} {y} l h = let e : length (decimal_in (suc l.k) y) ≡ 1 = rw (lt-ltb y 10 h) in omega (arith, l.whole)
