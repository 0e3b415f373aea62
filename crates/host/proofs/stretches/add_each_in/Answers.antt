-- The next stretch is what the next add takes, and after it the run stands before the one after it.
use Rattle.std.proofs.Common.{rules}
use Rattle.host.proofs.Stretching.{ran_first, ran_takes, ran_on, ran_end}
use Rattle.host.proofs.stretches.add_each_in.Goals as goal

pub loop-s-init : goal.loop-s-init
loop-s-init c = (search rules, ran_first c.args.sketch.now c.args.row.now c.requires)

pub add_known-requires : goal.add_known-requires
add_known-requires c =
    let l = c.loop-s in
    ran_takes c.args.sketch.now c.args.row.now l.s-index c.loop-s-test.true l.sketch l.invariant.1

pub loop-s-preserved : goal.loop-s-preserved
loop-s-preserved c =
    let l = c.loop-s in
    (search rules, ran_on c.args.sketch.now c.args.row.now l.s-index c.loop-s-test.true l.sketch l.invariant.1 c.add_known.new.sketch c.add_known.ensures)

pub returns : goal.returns
returns c =
    let l = c.loop-s in
    ran_end c.args.sketch.now c.args.row.now l.s-index l.sketch l.invariant.1 l.invariant.0 c.loop-s-test.false
