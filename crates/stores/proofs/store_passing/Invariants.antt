-- `stores::store_passing` meets its contract. Assumes nothing.
use lib.ListN.{take}
use Rattle.lists.specs.Lists.{filter}
use Rattle.lists.specs.Rows.{Stored}
use Rattle.rows.specs.Sieves.{sifted}
use Rattle.stores.proofs.store_passing.Given as goal

abbrev pub invariant-loop-x : goal.invariant-loop-x
invariant-loop-x l = Stored l.initial.out l.at (filter (sifted l.sieve) (take l.x-index l.row)) l.next l.out
