-- What reducing modulo 65535 by folds rests on. Assumes nothing.
--   leaves_one    65536 leaves 1 when divided by 65535
--   high_keeps    so 65536 · h + l leaves what h + l leaves
--   fold_keeps    so a fold keeps the remainder
--   fold_once     one fold brings a number of 32 bits to 131070 or below
--   fold_twice    two folds bring it to 65535 or below
--   not_at_once   one alone doesn't: 131071 folds to 65536
--   twice_small, twice_left, twice_rest
--                 what two folds leave: 65535 where the remainder is 0, or the remainder
use Prim.Native.Nat.{ℕ, ◌+◌, ◌*◌, ◌/◌, ◌%◌, ◌<◌, ◌≤◌}
use mathlib.Core.Path.{◌≡◌, refl, ap, ◌∙◌}
use native.Mathlib.Omega.{arith}
use Rattle.block.specs.Folds.{folded}

pub leaves_one : 65536 % 65535 ≡ 1
leaves_one = refl

pub high_keeps : (h l : ℕ) → (65536 * h + l) % 65535 ≡ (h + l) % 65535
high_keeps h l = omega arith

pub fold_keeps : (x : ℕ) → folded x % 65535 ≡ x % 65535
unfolding folded
fold_keeps x = omega (arith, high_keeps (x / 65536) (x % 65536))

pub fold_once : (x : ℕ) → x < 4294967296 → folded x ≤ 131070
unfolding folded
fold_once x h = omega arith

pub fold_twice : (x : ℕ) → x < 4294967296 → folded (folded x) ≤ 65535
unfolding folded
fold_twice x h = omega (arith, fold_once x h)

pub not_at_once : folded 131071 ≡ 65536
unfolding folded
not_at_once = refl

module _ {x y : ℕ} (h : x < 4294967296) (e : y ≡ folded (folded x)) where
  keeps : y % 65535 ≡ x % 65535
  keeps = ap (λ n. n % 65535) e ∙ fold_keeps (folded x) ∙ fold_keeps x

  pub twice_small : y ≤ 65535
  twice_small = omega (arith, fold_twice x h)

  pub twice_left : y ≡ 65535 → 0 ≡ x % 65535
  twice_left d = omega (arith, keeps)

  pub twice_rest : (y ≡ 65535 → ⊥) → y ≡ x % 65535
  twice_rest d = omega (arith, keeps, twice_small)
