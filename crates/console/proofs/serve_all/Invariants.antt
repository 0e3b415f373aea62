-- From turn to turn what is open is a sketch.
use Rattle.evening.specs.Runs.{Sitting}
use Rattle.console.proofs.serve_all.Given as goal

abbrev pub invariant-loop : goal.invariant-loop
invariant-loop g l = Sitting l.s
