-- `find::count_in` meets its contract: at level 0 all cells pass, and else the count is that of the hashes' progression. Assumes nothing.
use mathlib.Core.Path.{◌≡◌, ◌∙◌}
use native.Mathlib.Omega.{arith}
use Rattle.rule.specs.Samples.{range_count}
use Rattle.find.proofs.Counting.{count_all, count_takes, count_up_is, count_down_is, count_few}
use Rattle.find.proofs.count_in.Goals as goal
use Rattle.find.proofs.count_in.Goals.{then-h, else-h}

pub returns-then-level-eq0 : goal.returns-then-level-eq0
returns-then-level-eq0 c =
    let a = c.args in
    rw c.if-level-eq0.true (omega (arith, count_all a.settings a.lo a.hi c.requires.good))

pub count_up-many-requires : goal.count_up-many-requires
count_up-many-requires c =
    let h = c in
    count_takes _ _ _ _ _ h.progression-h.ensures _ h.requires (omega arith)

pub count_down-many-requires : goal.count_down-many-requires
count_down-many-requires c =
    let h = c in
    count_takes _ _ _ _ _ h.progression-h.ensures _ h.requires (omega arith)

pub returns : goal.returns
returns c =
    let f = c.progression-h.ensures in
    elim c.if-h.branch [
      | then-h w ↦ w.many-is ∙ w.count_up-many.ensures ∙ count_up_is _ _ _ _ _ f
      | else-h w ↦ w.many-is ∙ w.count_down-many.ensures ∙ count_down_is _ _ _ _ _ f (omega arith)
    ]

pub overflow_cast-result : goal.overflow_cast-result
overflow_cast-result c =
    let a = c.args in
    let many : c.if-h.many ≡ range_count a.settings a.level a.lo a.hi = returns c in
    omega (arith, count_few a.settings a.level a.lo a.hi)
