-- `rule::odd_divisor` meets its contract: each turn keeps the common divisors. Assumes nothing.
use Prim.Native.Nat.{◌+◌, ◌%◌, ◌^◌, ◌<◌}
use mathlib.Core.Path.{◌≡◌}
use Rattle.rule.proofs.Divisors.{KeepsDivisors}
use Rattle.rule.proofs.odd_divisor.Given as goal

abbrev pub invariant-loop-x : goal.invariant-loop-x
invariant-loop-x l = KeepsDivisors l.a l.p l.x l.y × (l.x % 2 ≡ 1) × (l.y % 2 ≡ 1) × (l.x < 2 ^ 32) × (l.y < 2 ^ 32)

abbrev pub decreases-loop-x : goal.decreases-loop-x
decreases-loop-x l = l.x + l.y
