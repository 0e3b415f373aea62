-- `strides::Stride::least` meets its contract: the search is for a hit of the progression a, 2 a, 3 a, .. Assumes nothing.
use Prim.Native.Nat.{◌+◌}
use native.Mathlib.Omega.{arith}
use Rattle.rule.proofs.Passing.{product_fits}
use Rattle.strides.proofs.Moves.{search_at, search_nothing}
use Rattle.strides.proofs.Stride.least.Goals as goal

pub returns-in-Some : goal.returns-in-Some
returns-in-Some c =
    rw (← c.from-modulus.ensures, ← c.from-step.ensures, ← c.from.ensures, ← c.from-2.ensures)
    (search_at _ _ _ _ _ c.next_hit.ensures _ c.in-Some.is)

pub overflow_add-d : goal.overflow_add-d
overflow_add-d c = omega (arith, (returns-in-Some c).last)

pub overflow_cast-result : goal.overflow_cast-result
overflow_cast-result c = omega (arith, (returns-in-Some c).last)

pub overflow_mul-result : goal.overflow_mul-result
overflow_mul-result c = omega (arith, product_fits (c.in-Some.i + 1) c.from-step.result 0 (omega (arith, (returns-in-Some c).last)) (omega arith) (omega arith))

pub returns-in-None : goal.returns-in-None
returns-in-None c =
    rw (← c.from-modulus.ensures, ← c.from-step.ensures, ← c.from.ensures, ← c.from-2.ensures)
    (search_nothing _ _ _ _ _ c.next_hit.ensures c.in-None.is)
