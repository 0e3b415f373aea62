-- The sums of a block's words: how they grow, and that only the first 508 bytes count. Assumes nothing.
use Prim.Native.Nat.{ℕ, zero, suc, ◌+◌, ◌*◌, ◌-◌, ◌%◌, ◌≤◌}
use mathlib.Core.Path.{◌≡◌, refl, sym, ap, ap₂, ◌∙◌}
use mathlib.Core.List.{List, ◌++◌}
use native.Mathlib.Numerals.{add-one}
use native.Mathlib.Nat.{mul-le-mul}
use native.Mathlib.Omega.{arith}
use lib.ListN.{length, take, drop, take-append-drop}
use lib.Seq.{length-take-le}
use Rattle.block.specs.Little.{number_at}
use Rattle.block.specs.Sums.{word, sum_to, plain_of, weighted_of}
use Rattle.block.proofs.Numbers.{number_front}

pub sum_none : (f : ℕ → ℕ) → 0 ≡ sum_to f 0
unfolding sum_to
sum_none f = refl

-- one more term
pub sum_on : (f : ℕ → ℕ) (k : ℕ) {a v : ℕ} → a ≡ sum_to f k → v ≡ f (k + 1) → a + v ≡ sum_to f (k + 1)
unfolding sum_to
sum_on f k e h = rw (e, h, add-one)

-- the same for the words, which code counts from 0
module _ (s : List ℕ) (k : ℕ) {v : ℕ} (h : v ≡ number_at 2 (2 * k) s) where
  word_next : v ≡ word s (k + 1)
  word_next = let e : k + 1 - 1 ≡ k = omega arith in rw (e, h)

  pub plain_on : {a : ℕ} → a ≡ sum_to (λ i. word s i) k → a + v ≡ sum_to (λ i. word s i) (k + 1)
  plain_on e = sum_on (λ i. word s i) k e word_next

  pub weighted_on : {a w : ℕ} → w ≡ 254 - k → a ≡ sum_to (λ i. (255 - i) * word s i) k
      → a + w * v ≡ sum_to (λ i. (255 - i) * word s i) (k + 1)
  weighted_on {w = w} l e =
      let d : w ≡ 255 - (k + 1) = omega arith in sum_on (λ i. (255 - i) * word s i) k e (ap₂ ◌*◌ d word_next)

pub sum_same : (f g : ℕ → ℕ) (k : ℕ) → ((i : ℕ) → i ≤ k → f i ≡ g i) → sum_to f k ≡ sum_to g k
unfolding sum_to
sum_same f g zero h = refl
sum_same f g (suc k) h = ap₂ ◌+◌ (sum_same f g k (λ i l. h i (omega arith))) (h (suc k) (omega arith))

-- a weight of at most 254 by a word
pub weight-small : (a w : ℕ) → a ≤ 254 → w ≤ 65535 → a * w ≤ 16645890
weight-small a w h k = mul-le-mul {n₁ = a} {m₁ = w} {n₂ = 254} {m₂ = 65535} h k

module _ (body rest : List ℕ) (len : length body ≡ 508) where
  word_front : (i : ℕ) → i ≤ 254 → word (body ++ rest) i ≡ word body i
  word_front i h = number_front 2 (2 * (i - 1)) body rest (omega arith)

  pub plain_front : plain_of (body ++ rest) ≡ plain_of body
  unfolding plain_of
  plain_front = ap (λ n. n % 65535) (sum_same _ _ 254 word_front)

  pub weighted_front : weighted_of (body ++ rest) ≡ weighted_of body
  unfolding weighted_of
  weighted_front = ap (λ n. n % 65535) (sum_same _ _ 254 (λ i h. ap (λ w. (255 - i) * w) (word_front i h)))

-- the same of the front of a block
pub plain_take : (s : List ℕ) → 508 ≤ length s → plain_of (take 508 s) ≡ plain_of s
plain_take s h = sym (plain_front (take 508 s) (drop 508 s) (length-take-le 508 s h)) ∙ rw take-append-drop

pub weighted_take : (s : List ℕ) → 508 ≤ length s → weighted_of (take 508 s) ≡ weighted_of s
weighted_take s h = sym (weighted_front (take 508 s) (drop 508 s) (length-take-le 508 s h)) ∙ rw take-append-drop
