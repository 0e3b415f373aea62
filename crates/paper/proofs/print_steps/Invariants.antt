-- The cells that counted are no more than the cells that were tested.
use Rattle.std.proofs.Common.{◌≤◌}
use Rattle.paper.proofs.print_steps.Given as goal

abbrev pub invariant-loop-x : goal.invariant-loop-x
invariant-loop-x g l = l.many ≤ l.x-counter
