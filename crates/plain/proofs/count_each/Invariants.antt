-- Each turn adds what one cell counts. Assumes nothing.
use Prim.Native.Nat.{suc, ◌-◌, ◌≤◌}
use mathlib.Core.Path.{◌≡◌}
use lib.ListN.{length}
use Rattle.rule.specs.Rule.{passes}
use Rattle.plain.proofs.Walks.{seen}
use Rattle.plain.proofs.count_each.Given as goal

abbrev pub invariant-loop-x : goal.invariant-loop-x
invariant-loop-x l = (l.x - l.lo ≤ suc l.hi - l.lo) × (l.many ≤ l.x) × (l.many ≡ length (seen (passes l.settings l.level) l.lo l.x))
