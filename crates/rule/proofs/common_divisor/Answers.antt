-- `rule::common_divisor` meets its contract: the zeros at the numbers' ends are their halvings, and what is left is odd. Assumes nothing.
use Prim.Native.Nat.{ℕ, ◌*◌, ◌^◌}
use mathlib.Core.Path.{ap₂, ◌∙◌}
use native.Mathlib.Omega.{arith}
use native.Mathlib.Nat.{mod-eq_of_lt}
use Rattle.rule.proofs.Divisors.{common_few, end_zeros, strips_rest, strips_end, first-zero, second_zero}
use Rattle.rule.proofs.common_divisor.Goals as goal

pub overflow_shr-a : goal.overflow_shr-a
overflow_shr-a c = (end_zeros 32 c.args.a (omega arith) c.if-a-eq0.false).below

pub overflow_shr-p : goal.overflow_shr-p
overflow_shr-p c = (end_zeros 32 c.args.p (omega arith) c.if-p-eq0.false).below

pub odd_divisor-requires : goal.odd_divisor-requires
odd_divisor-requires c =
    let s = end_zeros 32 c.args.a (omega arith) c.if-a-eq0.false in
    let t = end_zeros 32 c.args.p (omega arith) c.if-p-eq0.false in
    (rw (strips_rest s) s.odd, rw (strips_rest t) t.odd)

pub overflow_shl-result : goal.overflow_shl-result
overflow_shl-result c =
    let s = end_zeros 32 c.args.a (omega arith) c.if-a-eq0.false in
    rw c.min.ensures (omega (arith, s.below))

pub returns-then-a-eq0 : goal.returns-then-a-eq0
returns-then-a-eq0 c = first-zero _ _ c.if-a-eq0.true

pub returns-then-p-eq0 : goal.returns-then-p-eq0
returns-then-p-eq0 c = second_zero _ _ c.if-p-eq0.true

pub returns-else-p-eq0 : goal.returns-else-p-eq0
returns-else-p-eq0 c =
    let g = c in
    let s = end_zeros 32 g.args.a (omega arith) c.if-a-eq0.false in
    let t = end_zeros 32 g.args.p (omega arith) c.if-p-eq0.false in
    let e = ap₂ (λ (d m : ℕ). d * 2 ^ m) c.odd_divisor.ensures c.min.ensures ∙ strips_end s t in
    rw e (mod-eq_of_lt (omega (arith, common_few g.args.a g.args.p)))
