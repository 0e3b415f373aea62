-- `plain::adding::Adding::gather` meets its contract. Assumes nothing.
use mathlib.Core.Path.{sym, ◌∙◌}
use native.Mathlib.Omega.{arith}
use Prim.Native.Nat.{◌+◌}
use Rattle.lists.specs.Rows.{Stored}
use Rattle.lists.proofs.Stores.{stored_as}
use Rattle.rule.specs.Samples.{passing, sample}
use Rattle.plain.specs.Plain.{cells_of}
use Rattle.plain.proofs.Walks.{seen, seen_all, store_room, store_on, store_off}
use Rattle.plain.proofs.adding.Adding.gather.Goals as goal
use Rattle.plain.proofs.adding.Adding.gather.Goals.{then-samples, else-samples, Joined-samples}

-- where the next cell is in the sample there is room for it
pub bounds-out-many : goal.bounds-out-many
unfolding sample
bounds-out-many c =
    let a = c.args in
    let l = c.loop-x in
    let s = a.self.now.settings in
    omega (arith, store_room (passing s (cells_of a.self.now) a.level) 1 l.x l.auto.x l.invariant.1 s.n c.loop-x-test.true (sym c.samples.ensures ∙ c.if-samples.true))

-- after a turn
stored : (c : Joined-samples) → Stored c.args.out.now 0 (seen (passing c.args.self.now.settings (cells_of c.args.self.now) c.args.level) 1 (c.loop-x.x + 1)) c.if-samples.many c.if-samples.out
unfolding sample
stored c =
    let a = c.args in
    let l = c.loop-x in
    let s = a.self.now.settings in
    let X = passing s (cells_of a.self.now) a.level in
    elim c.if-samples.branch [
      | then-samples w ↦ rw (w.out-is, w.many-is) (store_on X 1 l.x l.auto.x l.invariant.1 s.n c.loop-x-test.true c.requires (sym c.samples.ensures ∙ w.if-samples.true))
      | else-samples w ↦ rw (w.out-is, w.many-is) (store_off X 1 l.x l.auto.x l.invariant.1 (sym c.samples.ensures ∙ w.if-samples.false))
    ]

pub loop-x-preserved : goal.loop-x-preserved
loop-x-preserved c = (omega arith, stored (goal.at.loop-x-preserved c).Joined-samples)

pub returns : goal.returns
unfolding sample
returns c =
    let a = c.args in
    let l = c.loop-x in
    let s = a.self.now.settings in
    stored_as l.invariant.1 (seen_all (passing s (cells_of a.self.now) a.level) 1 l.x s.n (omega arith) (omega arith))

pub returns-after-samples : goal.returns-after-samples
unfolding sample
returns-after-samples c =
    let a = c.args in
    let l = c.loop-x in
    let s = a.self.now.settings in
    stored_as (stored (goal.at.returns-after-samples c).Joined-samples) (seen_all (passing s (cells_of a.self.now) a.level) 1 (l.x + 1) s.n (omega arith) (omega arith))
