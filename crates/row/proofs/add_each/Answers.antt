-- After the next add the run stands before the next stretch.
use Rattle.row.proofs.Runs.{one_more}
use Rattle.row.proofs.add_each.Goals as goal

pub loop-s-preserved : goal.loop-s-preserved
loop-s-preserved c =
    let l = c.loop-s in
    one_more c.args.sketch c.args.row.now l.s-index c.loop-s-test.true l.k l.invariant c.added-k.result c.added-k.ensures
