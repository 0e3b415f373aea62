-- `stores::keep_passing` meets its contract. Assumes nothing.
use Prim.Native.Nat.{◌≤◌}
use lib.ListN.{take}
use Rattle.lists.specs.Lists.{filter}
use Rattle.lists.specs.Rows.{Stored}
use Rattle.rows.specs.Sieves.{sifted}
use Rattle.stores.proofs.keep_passing.Given as goal

abbrev pub invariant-loop-i : goal.invariant-loop-i
invariant-loop-i l = (l.kept ≤ l.i) × Stored l.initial.out 0 (filter (sifted l.sieve) (take l.i l.initial.out)) l.kept l.out
