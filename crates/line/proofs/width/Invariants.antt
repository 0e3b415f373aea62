-- `line::width` meets its contract: digits are counted from the last on. Assumes nothing.
use Rattle.line.proofs.Decimals.{Left}
use Rattle.line.proofs.width.Given as goal

abbrev pub invariant-loop-y : goal.invariant-loop-y
invariant-loop-y l = Left l.x l.n l.y

abbrev pub decreases-loop-y : goal.decreases-loop-y
decreases-loop-y l = l.y
