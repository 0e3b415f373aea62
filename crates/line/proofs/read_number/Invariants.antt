-- `line::read_number` meets its contract: the bytes so far are digits, with the value so far. Assumes nothing.
use Rattle.line.proofs.Words.{Begun}
use Rattle.line.proofs.read_number.Given as goal

abbrev pub invariant-loop-x : goal.invariant-loop-x
invariant-loop-x l = Begun l.word l.x-index l.v
