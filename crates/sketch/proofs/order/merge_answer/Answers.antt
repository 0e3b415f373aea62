-- `sketch::order::merge_answer` meets its contract. Assumes nothing.
use Rattle.find.proofs.Checks.{denied, granted}
use Rattle.sketch.proofs.Handing.{merge_unknown, merge_other, merge-unequal, merge_done}
use Rattle.sketch.proofs.order.merge_answer.Goals as goal

pub returns-then-not-mine : goal.returns-then-not-mine
returns-then-not-mine c = let a = c.args in merge_unknown a.mine a.its a.s a.t c.if-not-mine.true

pub returns-then-not-its : goal.returns-then-not-its
returns-then-not-its c = let a = c.args in merge_other a.mine a.its a.s a.t c.if-not-mine.false c.if-not-its.true

pub returns-then-eq : goal.returns-then-eq
returns-then-eq c =
    let a = c.args in
    merge_done a.mine a.its a.s a.t c.if-not-mine.false c.if-not-its.false (granted _ _ c.eq.ensures c.if-eq.true)

pub returns-else-eq : goal.returns-else-eq
returns-else-eq c =
    let a = c.args in
    merge-unequal a.mine a.its a.s a.t c.if-not-mine.false c.if-not-its.false (denied _ _ c.eq.ensures c.if-eq.false)
