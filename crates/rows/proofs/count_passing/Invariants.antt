-- `rows::count_passing` meets its contract. Assumes nothing.
use Prim.Native.Nat.{◌≤◌}
use mathlib.Core.Path.{◌≡◌}
use lib.ListN.{length, take}
use Rattle.lists.specs.Lists.{filter}
use Rattle.rows.specs.Sieves.{sifted}
use Rattle.rows.proofs.count_passing.Given as goal

abbrev pub invariant-loop-x : goal.invariant-loop-x
invariant-loop-x l = (l.many ≤ l.x-index) × (l.many ≡ length (filter (sifted l.sieve) (take l.x-index l.row)))
