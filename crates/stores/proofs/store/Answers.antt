-- `stores::store` meets its contract. Assumes nothing.
use native.Mathlib.Omega.{arith}
use native.Mathlib.Nat.{add_assoc}
use Rattle.lists.proofs.Steps.{take_next}
use Rattle.lists.proofs.Stores.{stored_more}
use Rattle.stores.proofs.store.Goals as goal

pub loop-i-preserved : goal.loop-i-preserved
loop-i-preserved c =
    rw (take_next c.args.row.now c.loop-i.i (omega arith), ← add_assoc) (stored_more c.loop-i.invariant _ (omega arith))
