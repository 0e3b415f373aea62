-- `stores::store` meets its contract. Assumes nothing.
use Prim.Native.Nat.{◌+◌}
use lib.ListN.{take}
use Rattle.lists.specs.Rows.{Stored}
use Rattle.stores.proofs.store.Given as goal

abbrev pub invariant-loop-i : goal.invariant-loop-i
invariant-loop-i l = Stored l.initial.out l.at (take l.i l.row) (l.at + l.i) l.out
