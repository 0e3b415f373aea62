-- `plain::adding::Adding::count` meets its contract. Assumes nothing.
use mathlib.Core.Path.{◌≡◌, sym, ap, ◌∙◌}
use Prim.Native.Nat.{◌+◌, ◌≤◌}
use native.Mathlib.Omega.{arith}
use lib.ListN.{length}
use Rattle.rule.specs.Samples.{passing, sample}
use Rattle.plain.specs.Plain.{cells_of}
use Rattle.plain.proofs.Walks.{seen, seen_all, count_on, count_off}
use Rattle.plain.proofs.adding.Adding.count.Goals as goal
use Rattle.plain.proofs.adding.Adding.count.Goals.{then-samples, else-samples, Joined-samples}

pub overflow_add-many : goal.overflow_add-many
overflow_add-many c = omega (arith, c.loop-x.invariant.1, c.loop-x.invariant.0)

-- after a turn
few : (c : Joined-samples) → c.if-samples.many ≤ c.loop-x.x + 1
few c =
    elim c.if-samples.branch [
      | then-samples w ↦ omega (arith, w.many-is, c.loop-x.invariant.1)
      | else-samples w ↦ omega (arith, w.many-is, c.loop-x.invariant.1)
    ]

counted : (c : Joined-samples) → c.if-samples.many ≡ length (seen (passing c.args.self.now.settings (cells_of c.args.self.now) c.args.level) 1 (c.loop-x.x + 1))
counted c =
    let a = c.args in
    let l = c.loop-x in
    let X = passing a.self.now.settings (cells_of a.self.now) a.level in
    elim c.if-samples.branch [
      | then-samples w ↦ w.many-is ∙ count_on X 1 l.x l.auto.x l.invariant.2 (sym c.samples.ensures ∙ w.if-samples.true)
      | else-samples w ↦ w.many-is ∙ count_off X 1 l.x l.auto.x l.invariant.2 (sym c.samples.ensures ∙ w.if-samples.false)
    ]

pub loop-x-preserved : goal.loop-x-preserved
loop-x-preserved c = let j = (goal.at.loop-x-preserved c).Joined-samples in (omega arith, few j, counted j)

pub returns : goal.returns
unfolding sample
returns c =
    let a = c.args in
    let l = c.loop-x in
    let s = a.self.now.settings in
    l.invariant.2 ∙ ap length (seen_all (passing s (cells_of a.self.now) a.level) 1 l.x s.n (omega arith) (omega arith))

pub returns-after-samples : goal.returns-after-samples
unfolding sample
returns-after-samples c =
    let a = c.args in
    let l = c.loop-x in
    let s = a.self.now.settings in
    counted (goal.at.returns-after-samples c).Joined-samples
    ∙ ap length (seen_all (passing s (cells_of a.self.now) a.level) 1 (l.x + 1) s.n (omega arith) (omega arith))
