-- The run over what is left of the piece, from the evening so far, ends as the run over all of it.
use Rattle.std.proofs.Common.{◌≡◌, length}
use Rattle.evening.specs.Runs.{Sitting, fed}
use Rattle.console.proofs.serve_piece.Given as goal

abbrev pub invariant-loop-rest : goal.invariant-loop-rest
invariant-loop-rest g l = ((fed l.s l.rest).evening ≡ (fed l.fn.evening l.fn.input).evening) × Sitting l.s

abbrev pub decreases-loop-rest : goal.decreases-loop-rest
decreases-loop-rest g l = length l.rest
