-- `plain::count_each` meets its contract. Each turn adds what one cell counts. Assumes nothing.
use mathlib.Core.Path.{sym, ap, ◌∙◌}
use Prim.Native.Nat.{◌+◌}
use native.Mathlib.Omega.{arith}
use lib.ListN.{length}
use Rattle.rule.specs.Rule.{passes}
use Rattle.rule.specs.Samples.{range_count}
use Rattle.plain.proofs.Walks.{seen_none, seen_more, seen_all, one_at_most}
use Rattle.plain.proofs.count_each.Goals as goal

pub loop-x-init : goal.loop-x-init
loop-x-init c = (omega arith, omega arith, sym (ap length (seen_none (passes c.args.settings c.args.level) c.args.lo)))

pub overflow_add-many : goal.overflow_add-many
overflow_add-many c = omega (arith, c.counts-many.ensures, one_at_most (passes c.args.settings c.args.level c.loop-x.x), c.loop-x.invariant.1)

pub loop-x-preserved : goal.loop-x-preserved
loop-x-preserved c =
    let a = c.args in
    let l = c.loop-x in
    let X = passes a.settings a.level in (
      omega arith,
      omega (arith, c.counts-many.ensures, one_at_most (X l.x)),
      omega (arith, c.counts-many.ensures, l.invariant.2, seen_more X a.lo l.x l.auto.x),
    )

pub returns : goal.returns
unfolding range_count
returns c =
    let l = c.loop-x in
    l.invariant.2 ∙ ap length (seen_all (passes c.args.settings c.args.level) c.args.lo l.x c.args.hi l.invariant.0 (omega arith))

pub returns-2 : goal.returns-2
unfolding range_count
returns-2 c =
    let a = c.args in
    let l = c.loop-x in
    let X = passes a.settings a.level in
    omega (
      arith,
      c.counts-many.ensures,
      l.invariant.2,
      seen_more X a.lo l.x l.auto.x,
      ap length (seen_all X a.lo (l.x + 1) a.hi (omega arith) (omega arith)),
    )
