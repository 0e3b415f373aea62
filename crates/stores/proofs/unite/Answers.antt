-- `stores::unite` meets its contract. Assumes nothing.
use Prim.Native.Nat.{ℕ, ◌-◌, ◌<◌}
use mathlib.Core.Path.{ap, ◌∙◌}
use mathlib.Core.Logic.{inl, inr}
use mathlib.Core.List.{List}
use native.Mathlib.Omega.{arith}
use lib.ListN.{length, take, drop, length-drop}
use borrow.Author.Tests.{ltb-true, ltb-false}
use Rattle.lists.specs.Rows.{Stored}
use Rattle.lists.proofs.Steps.{part_rest}
use Rattle.stores.proofs.Merges.{stepped, merge-start, merge_on_lem, merge-room, merge_end}
use Rattle.stores.proofs.unite.Goals as goal
use Rattle.stores.proofs.unite.Goals.{then-loop-i-test+else-j-end, else-loop-i-test}

-- what was left of the row is stored, before what was left in `out` slides down
stored : (row : List ℕ) (i : ℕ) {out : List ℕ} {next m : ℕ} {after : List ℕ}
    → Stored out next (take (length row - i) (drop i row)) m after → Stored out next (drop i row) m after
stored row i g = rw (part_rest row i) at g

pub loop-i-init : goal.loop-i-init
loop-i-init c = merge-start _ _ _ _ (omega arith)

pub offset_bounds-out-j : goal.offset_bounds-out-j
offset_bounds-out-j c = omega (arith, ltb-true)

pub bounds-out-j : goal.bounds-out-j
bounds-out-j c = omega (arith, ltb-true)

pub overflow_add-j : goal.overflow_add-j
overflow_add-j c = omega (arith, ltb-true, stepped)

pub loop-i-preserved : goal.loop-i-preserved
loop-i-preserved c =
    let h : c.loop-i.i < length c.args.row.now = omega arith in
    let k : c.loop-i.j < c.args.end = omega (arith, ltb-true) in
    merge_on_lem c.loop-i.invariant (omega arith) (omega arith) h k
    (record { stores = c.min.ensures; moves_a = c.from-i.ensures ∙ stepped _ _; moves_b = c.from-j.ensures ∙ stepped _ _ })

pub store-m-requires : goal.store-m-requires
store-m-requires c =
    let row = c.args.row.now in
    omega (arith, ap length (part_rest row c.loop-i.i), length-drop c.loop-i.i row)

pub slide-requires : goal.slide-requires
slide-requires c =
    let s = stored c.args.row.now c.loop-i.i c.store-m.ensures in (
      omega (arith, merge-room c.loop-i.invariant (omega arith) (omega arith) s),
      c.loop-i.invariant.to_end,
      omega (arith, c.store-m.auto.out, c.loop-i.invariant.long),
    )

pub shape_of-out : goal.shape_of-out
shape_of-out c = c.slide.auto.out ∙ c.store-m.auto.out ∙ c.loop-i.invariant.long

pub returns : goal.returns
returns c =
    let s = stored c.args.row.now c.loop-i.i c.store-m.ensures in
    merge_end c.loop-i.invariant (omega arith) (omega arith) s
    (elim c.loop-i-test.branch [
      | then-loop-i-test+else-j-end w ↦ inr (omega (arith, ltb-false))
      | else-loop-i-test w ↦ inl (omega arith)
    ])
    c.slide.ensures
