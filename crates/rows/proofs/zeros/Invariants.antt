-- `rows::zeros` meets its contract. Assumes nothing.
use mathlib.Core.Path.{◌≡◌}
use mathlib.Core.Bool.{◌&&◌}
use lib.Dec.{eqb}
use lib.ListN.{drop}
use Rattle.lists.specs.Rows.{all_zero}
use Rattle.rows.proofs.zeros.Given as goal

abbrev pub invariant-loop-x : goal.invariant-loop-x
invariant-loop-x l = (eqb l.seen 0 && all_zero (drop l.x-index l.row)) ≡ all_zero l.row
