-- `stores::store_passing` meets its contract. Assumes nothing.
use mathlib.Core.Path.{refl, sym, ◌∙◌}
use native.Mathlib.Omega.{arith}
use Rattle.rows.specs.Sieves.{sifted}
use Rattle.rows.proofs.Walks.{passing-room, passing_on, passing_off}
use Rattle.stores.proofs.store_passing.Goals as goal
use Rattle.stores.proofs.store_passing.Goals.{then-passes, else-passes}

pub bounds-out-next : goal.bounds-out-next
bounds-out-next c =
    let a = c.args in
    let l = c.loop-x in
    let test = sym c.passes.ensures in
    omega (arith, passing-room (sifted a.sieve) a.row.now l.x-index (omega arith) refl l.invariant (test ∙ c.if-passes.true))

pub loop-x-preserved : goal.loop-x-preserved
loop-x-preserved c =
    let a = c.args in
    let l = c.loop-x in
    let X = sifted a.sieve in
    let test = sym c.passes.ensures in
    elim c.if-passes.branch [
      | then-passes w ↦
          let on = test ∙ w.if-passes.true in
          let room = passing-room X a.row.now l.x-index (omega arith) refl l.invariant on in
          rw (w.out-is, w.next-is) (passing_on X a.row.now l.x-index (omega arith) refl l.invariant on (omega arith))
      | else-passes w ↦
          rw (w.out-is, w.next-is) (passing_off X a.row.now l.x-index (omega arith) refl l.invariant (test ∙ w.if-passes.false))
    ]
