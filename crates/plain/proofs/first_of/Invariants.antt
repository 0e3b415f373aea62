-- No cell before x passes. Assumes nothing.
use Prim.Native.Nat.{suc, ◌-◌, ◌≤◌}
use mathlib.Core.Path.{◌≡◌}
use mathlib.Core.List.{[]}
use Rattle.rule.specs.Rule.{passes}
use Rattle.plain.proofs.Walks.{seen}
use Rattle.plain.proofs.first_of.Given as goal

abbrev pub invariant-loop-x : goal.invariant-loop-x
invariant-loop-x l = (l.x - l.from ≤ suc l.last - l.from) × (seen (passes l.settings l.level) l.from l.x ≡ [])
