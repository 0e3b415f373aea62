-- `rule::odd_divisor` meets its contract: each turn keeps the common divisors. Assumes nothing.
use Prim.Native.Nat.{ℕ}
use mathlib.Core.Path.{sym, subst}
use native.Mathlib.Omega.{arith}
use Rattle.rule.proofs.Divisors.{KeepsDivisors, keeps_start, keeps_turn, keeps_end, equal_bits, strips_rest, strips_few}
use Rattle.rule.proofs.odd_divisor.Goals as goal

pub loop-x-init : goal.loop-x-init
loop-x-init c = (keeps_start c.args.a c.args.p, c.requires.0, c.requires.1, omega arith, omega arith)

pub overflow_shr-x : goal.overflow_shr-x
overflow_shr-x c =
    let l = c.loop-x in
    (equal_bits 32 l.x l.y l.invariant.3 l.invariant.4 c.loop-x-test.true).below

pub loop-x-smaller : goal.loop-x-smaller
loop-x-smaller c =
    let l = c.loop-x in
    let s = equal_bits 32 l.x l.y l.invariant.3 l.invariant.4 c.loop-x-test.true in
    rw (c.abs_diff.ensures, c.min-low.ensures, strips_rest s) (omega (arith, strips_few s, c.loop-x-test.true))

pub loop-x-preserved : goal.loop-x-preserved
loop-x-preserved c =
    let l = c.loop-x in
    let s = equal_bits 32 l.x l.y l.invariant.3 l.invariant.4 c.loop-x-test.true in
    rw (c.abs_diff.ensures, c.min-low.ensures, strips_rest s)
    (keeps_turn _ _ l.x l.y _ l.invariant.0 l.invariant.1 s, s.odd, omega arith, omega (arith, strips_few s), omega arith)

pub returns : goal.returns
returns c =
    let e = c.loop-x-test.false in
    keeps_end _ _ _ (subst (λ (v : ℕ). KeepsDivisors c.args.a c.args.p c.loop-x.x v) (sym e)
    c.loop-x.invariant.0)
