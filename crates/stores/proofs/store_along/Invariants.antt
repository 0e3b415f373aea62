-- `stores::store_along` meets its contract. Assumes nothing.
use Prim.Native.Nat.{suc, ◌-◌}
use Rattle.stores.proofs.Hitting.{Along}
use Rattle.stores.proofs.store_along.Given as goal

abbrev pub invariant-loop-hit : goal.invariant-loop-hit
invariant-loop-hit l = Along l.initial.out l.at l.settings l.level l.first l.hi l.out l.next l.hit

abbrev pub decreases-loop-hit : goal.decreases-loop-hit
decreases-loop-hit l = suc l.hi - l.hit.cell
