-- `evening::feed` meets its contract: a turn is a byte of the run. Assumes nothing.
use borrow.Author.Rules.{rules}
use mathlib.Core.Path.{refl, ap}
use native.Mathlib.Omega.{arith}
use Prim.Native.Nat.{◌+◌}
use lib.ListN.{length-set}
use Rattle.evening.proofs.Feeding.{feeding_start, feeding_line, feeding_noted, feeding_long, feeding_done, feeding_full}
use Rattle.evening.proofs.feed.Goals.{then-x-eq10, else-x-eq10+then-length-lt-LINE, else-x-eq10+else-length-lt-LINE}
use Rattle.evening.proofs.feed.Goals as goal

pub loop-x-init : goal.loop-x-init
loop-x-init c = (feeding_start c.args.evening c.args.input.now c.args.out.now c.requires, refl, search rules)

pub loop-x-preserved : goal.loop-x-preserved
loop-x-preserved c =
    let i = c.loop-x.invariant in
    let next = ap (λ k. k + 1) i.1 in
    elim c.if-x-eq10.branch [
      | then-x-eq10 w ↦ rw (w.out-is, w.pot-is, w.length-is, w.line-is, w.written-is)
          (feeding_line i.0 c.loop-x-test.true (omega arith) w.if-x-eq10.true _ _ _ w.answer-written.ensures (search rules), next, i.2)
      | else-x-eq10+then-length-lt-LINE w ↦ rw (w.out-is, w.pot-is, w.length-is, w.line-is, w.written-is)
          (feeding_noted i.0 c.loop-x-test.true (omega arith) w.if-x-eq10.false w.if-length-lt-LINE.true, next, simp length-set i.2)
      | else-x-eq10+else-length-lt-LINE w ↦ rw (w.out-is, w.pot-is, w.length-is, w.line-is, w.written-is)
          (feeding_long i.0 c.loop-x-test.true (omega arith) w.if-x-eq10.false w.if-length-lt-LINE.false, next, i.2)
    ]

pub returns-then-out-written-lt-ROOM : goal.returns-then-out-written-lt-ROOM
returns-then-out-written-lt-ROOM c = rw c.loop-x.invariant.1 (feeding_full c.loop-x.invariant.0 (omega arith))

pub returns-after-loop-x : goal.returns-after-loop-x
returns-after-loop-x c = rw c.loop-x.invariant.1 (feeding_done c.loop-x.invariant.0 (omega arith))
