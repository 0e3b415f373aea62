-- `rows::in_order` meets its contract. Assumes nothing.
use mathlib.Core.Path.{◌≡◌}
use mathlib.Core.Bool.{◌&&◌}
use lib.ListN.{drop}
use Rattle.rows.specs.Walked.{in_order}
use Rattle.rows.proofs.in_order.Given as goal

abbrev pub invariant-loop-x : goal.invariant-loop-x
invariant-loop-x l = (l.all && in_order l.n l.low (drop l.x-index l.row)) ≡ in_order l.n 0 l.row
