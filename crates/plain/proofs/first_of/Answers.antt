-- `plain::first_of` meets its contract. No cell before x passes. Assumes nothing.
use mathlib.Core.Path.{sym, ap, ◌∙◌}
use Prim.Native.Nat.{◌+◌}
use native.Mathlib.Omega.{arith}
use Rattle.rule.specs.Rule.{passes}
use Rattle.rule.specs.Samples.{next_hit, first}
use Rattle.plain.proofs.Walks.{seen_none, seen_off, seen_all, first_here}
use Rattle.plain.proofs.first_of.Goals as goal

pub loop-x-init : goal.loop-x-init
loop-x-init c = let a = c.args in (omega arith, seen_none (passes a.settings a.level) a.from)

pub returns-then-passes : goal.returns-then-passes
unfolding next_hit
returns-then-passes c =
    let a = c.args in
    let l = c.loop-x in
    sym (first_here (passes a.settings a.level) a.from l.x l.auto.x a.last (omega arith) l.invariant.1 (sym c.passes.ensures ∙ c.if-passes.true))

pub loop-x-preserved : goal.loop-x-preserved
loop-x-preserved c =
    let a = c.args in
    let l = c.loop-x in
    (omega arith, seen_off (passes a.settings a.level) a.from l.x l.auto.x (sym c.passes.ensures ∙ c.if-passes.false) ∙ l.invariant.1)

pub returns : goal.returns
unfolding next_hit
returns c =
    let a = c.args in
    let l = c.loop-x in
    ap first (sym l.invariant.1 ∙ seen_all (passes a.settings a.level) a.from l.x a.last l.invariant.0 (omega arith))

pub returns-else-passes : goal.returns-else-passes
unfolding next_hit
returns-else-passes c =
    let a = c.args in
    let l = c.loop-x in
    let off = seen_off (passes a.settings a.level) a.from l.x l.auto.x (sym c.passes.ensures ∙ c.if-passes.false) in
    ap first (sym (off ∙ l.invariant.1) ∙ seen_all (passes a.settings a.level) a.from (l.x + 1) a.last (omega arith) (omega arith))
