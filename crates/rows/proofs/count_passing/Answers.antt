-- `rows::count_passing` meets its contract. Assumes nothing.
use mathlib.Core.Path.{sym, ◌∙◌}
use native.Mathlib.Omega.{arith}
use Rattle.lists.proofs.Steps.{filter_on, filter_off, length_more}
use Rattle.rows.specs.Sieves.{sifted}
use Rattle.rows.proofs.count_passing.Goals as goal
use Rattle.rows.proofs.count_passing.Goals.{then-passes, else-passes}

pub loop-x-preserved : goal.loop-x-preserved
loop-x-preserved c =
    let a = c.args in
    let i = c.loop-x.x-index in
    let test = sym c.passes.ensures in
    elim c.if-passes.branch [
      | then-passes w ↦ (
        omega arith,
        rw (filter_on (sifted a.sieve) a.row.now i (omega arith) (test ∙ w.if-passes.true), length_more) (omega arith),
      )
      | else-passes w ↦ (
        omega arith,
        rw (filter_off (sifted a.sieve) a.row.now i (omega arith) (test ∙ w.if-passes.false)) (omega arith),
      )
    ]
