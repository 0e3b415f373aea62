-- `rule::Hasher::hash` meets its contract: the division by rounded fractions, and every number fits. Assumes nothing.
use Prim.Native.Nat.{◌+◌, ◌*◌}
use mathlib.Core.Path.{ap, ◌∙◌}
use native.Mathlib.Omega.{arith}
use native.Mathlib.Nat.{mod-lt}
use Rattle.rule.specs.Rule.{hash}
use Rattle.rule.proofs.Passing.{product_fits}
use Rattle.rule.proofs.Fractions.{Divided, divided}
use Rattle.rule.proofs.Hasher.hash.Goals as goal

-- the numbers of the code, in the order a, b, p, x and the two fractions
known : (c : goal.After-from-4)
    → Divided c.from-3.result c.from-4.result c.from-p.result
    c.from-cell.result c.from.result c.from-2.result
known c =
    let g = c.requires in
    divided c.from-3.result c.from-4.result c.from-p.result
    c.from-cell.result c.from.result c.from-2.result (omega arith)
    (omega arith) (omega arith) (rw (
      c.from.ensures,
      c.from-3.ensures,
      c.from-p.ensures,
    ) (ap (λ h. h.slope) g.made))
    (rw (c.from-2.ensures, c.from-4.ensures, c.from-p.ensures)
    (ap (λ h. h.start) g.made))

pub overflow_mul-q : goal.overflow_mul-q
overflow_mul-q c = omega (arith, product_fits c.from.result c.from-cell.result 0 (omega arith) (omega arith) (omega arith))

pub overflow_add-q : goal.overflow_add-q
overflow_add-q c = omega (
  arith,
  product_fits c.from.result c.from-cell.result c.from-2.result (omega arith) (omega arith)
      (omega arith),
)

pub overflow_mul-left : goal.overflow_mul-left
overflow_mul-left c = omega (arith, product_fits c.from-3.result c.from-cell.result 0 (omega arith) (omega arith) (omega arith))

pub overflow_add-left : goal.overflow_add-left
overflow_add-left c = omega (
  arith,
  product_fits c.from-3.result c.from-cell.result c.from-4.result (omega arith)
      (omega arith) (omega arith),
)

pub overflow_mul-left-2 : goal.overflow_mul-left-2
overflow_mul-left-2 c = omega (
  arith,
  (known c).low,
  product_fits c.from-3.result c.from-cell.result
      c.from-4.result (omega arith) (omega arith) (omega arith),
)

pub overflow_sub-left : goal.overflow_sub-left
overflow_sub-left c = (known c).low

pub overflow_add-over : goal.overflow_add-over
overflow_add-over c = omega (arith, (known c).few)

pub overflow_mul-result : goal.overflow_mul-result
overflow_mul-result c = omega (arith, (known c).few, (known c).once)

pub overflow_sub-result : goal.overflow_sub-result
overflow_sub-result c = (known c).once

pub overflow_cast-result : goal.overflow_cast-result
overflow_cast-result c = omega (
  arith,
  (known c).rest,
  mod-lt
      (c.from-3.result * c.from-cell.result + c.from-4.result)
      {m = c.from-p.result} (omega arith),
)

pub returns : goal.returns
unfolding hash
returns c = (known c).rest ∙ simp (
  c.from-cell.ensures,
  c.from-p.ensures,
  c.from-3.ensures,
  c.from-4.ensures,
)
