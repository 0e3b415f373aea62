-- The run of adds on the numbers lent, turn by turn: `sketch` is what it has made before this stretch.
use Rattle.std.proofs.Common.{◌≡◌, length}
use Rattle.host.proofs.Stretching.{Ran}
use Rattle.host.proofs.stretches.add_each_in.Given as goal

abbrev pub invariant-loop-s : goal.invariant-loop-s
invariant-loop-s l = (length l.sketch ≡ 511) × Ran l.initial.sketch l.row l.s-index l.sketch
