-- `rows::all_pass` meets its contract. Assumes nothing.
use mathlib.Core.Path.{◌≡◌}
use mathlib.Core.Bool.{◌&&◌}
use lib.ListN.{drop}
use Rattle.rows.specs.Sieves.{sifted}
use Rattle.rows.specs.Walked.{all_in}
use Rattle.rows.proofs.all_pass.Given as goal

abbrev pub invariant-loop-x : goal.invariant-loop-x
invariant-loop-x l = (l.all && all_in (sifted l.sieve) (drop l.x-index l.row)) ≡ all_in (sifted l.sieve) l.row
