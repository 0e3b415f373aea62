-- `sketch::order::add_answer` meets its contract. Assumes nothing.
use Rattle.find.proofs.Checks.{denied, granted}
use Rattle.sketch.proofs.Handing.{add_unknown, add_outside, add_done}
use Rattle.sketch.proofs.order.add_answer.Goals as goal

pub returns-then-not-known : goal.returns-then-not-known
returns-then-not-known c = let a = c.args in add_unknown a.known a.settings a.lo a.hi c.if-not-known.true

pub returns-then-not-in_range : goal.returns-then-not-in_range
returns-then-not-in_range c =
    let a = c.args in
    let known = c.if-not-known.false in
    add_outside a.known a.settings a.lo a.hi known (denied _ _ c.in_range.ensures c.if-not-in_range.true)

pub returns : goal.returns
returns c =
    let a = c.args in
    let known = c.if-not-known.false in
    add_done a.known a.settings a.lo a.hi known (granted _ _ c.in_range.ensures c.if-not-in_range.false)
