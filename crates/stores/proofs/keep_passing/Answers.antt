-- `stores::keep_passing` meets its contract. Assumes nothing.
use mathlib.Core.Path.{sym, ◌∙◌}
use native.Mathlib.Omega.{arith}
use Rattle.lists.proofs.Stores.{stored_beyond}
use Rattle.rows.specs.Sieves.{sifted}
use Rattle.rows.proofs.Walks.{passing_on, passing_off}
use Rattle.stores.proofs.keep_passing.Goals as goal
use Rattle.stores.proofs.keep_passing.Goals.{then-passes, else-passes}

pub loop-i-preserved : goal.loop-i-preserved
loop-i-preserved c =
    let a = c.args in
    let l = c.loop-i in
    let X = sifted a.sieve in
    let read = stored_beyond l.invariant.1 (omega arith) l.i l.invariant.0 in
    let test = sym c.passes.ensures in
    elim c.if-passes.branch [
      | then-passes w ↦ (
        omega arith,
        rw (w.out-is, w.kept-is) (passing_on X a.out.now l.i (omega arith) read l.invariant.1 (test ∙ w.if-passes.true) (omega arith)),
      )
      | else-passes w ↦ (
        omega arith,
        rw (w.out-is, w.kept-is) (passing_off X a.out.now l.i (omega arith) read l.invariant.1 (test ∙ w.if-passes.false)),
      )
    ]
