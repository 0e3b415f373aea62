-- `rows::all_pass` meets its contract. Assumes nothing.
use native.Mathlib.Omega.{arith}
use Rattle.rows.specs.Sieves.{sifted}
use Rattle.rows.specs.Walked.{all_in}
use Rattle.rows.proofs.Walks.{test_on}
use Rattle.rows.proofs.all_pass.Goals as goal

pub loop-x-preserved : goal.loop-x-preserved
loop-x-preserved c =
    let l = c.loop-x in
    let X = all_in (sifted c.args.sieve) in
    test_on c.args.row.now l.x-index l.all _ X l.invariant (omega arith) _ X (rw c.passes-all.ensures)
