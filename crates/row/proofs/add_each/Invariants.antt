-- The run of adds, turn by turn: `k` is what it has made before this stretch.
use Rattle.row.proofs.Runs.{Added}
use Rattle.row.proofs.add_each.Given as goal

abbrev pub invariant-loop-s : goal.invariant-loop-s
invariant-loop-s l = Added l.fn.sketch l.row l.s-index l.k
