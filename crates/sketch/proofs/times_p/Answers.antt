-- `sketch::times_p` meets its contract: the product of two numbers of 32 bits fits 64. Assumes nothing.
use Prim.Native.Nat.{ℕ, ◌*◌, ◌^◌, ◌<◌}
use native.Mathlib.Omega.{arith}
use Rattle.rule.proofs.Passing.{product_fits}
use borrow.Author.Rules.{rules}
use Rattle.sketch.proofs.times_p.Goals as goal

both-fit : (x y : ℕ) → x < 2 ^ 32 → y < 2 ^ 32 → x * y < 2 ^ 64
both-fit x y hx hy = omega (arith, product_fits x y 0 hx hy (omega arith))

pub overflow_mul-result : goal.overflow_mul-result
overflow_mul-result c = record { fits = both-fit _ _ (search rules) (search rules) }
