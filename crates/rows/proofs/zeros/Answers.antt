-- `rows::zeros` meets its contract. Assumes nothing.
use Prim.Native.Nat.{◌+◌}
use mathlib.Core.Path.{refl, ap, ◌∙◌}
use mathlib.Core.Bool.{Bool, ◌&&◌}
use native.Mathlib.Omega.{arith}
use lib.Dec.{eqb}
use lib.ListN.{drop, get_or}
use Rattle.lists.specs.Rows.{all_zero}
use Rattle.rows.proofs.Walks.{test_on, none_seen}
use Rattle.rows.proofs.zeros.Goals as goal

pub loop-x-preserved : goal.loop-x-preserved
loop-x-preserved c =
    let l = c.loop-x in
    let row = c.args.row.now in
    ap (λ (t : Bool). t && all_zero (drop (l.x-index + 1) row)) (none_seen l.seen (get_or row l.x-index 0))
    ∙ test_on row l.x-index (eqb l.seen 0) _ all_zero l.invariant (omega arith) _ all_zero refl
