-- `plain::adding::Adding::first_level` meets its contract. No lower level fits; the levels left up to the top fall. Assumes nothing.
use Prim.Native.Nat.{◌-◌}
use Rattle.plain.specs.Plain.{cells_of}
use Rattle.rule.specs.Rule.{top}
use Rattle.settle.proofs.Searches.{Raising}
use Rattle.plain.proofs.adding.Adding.first_level.Given as goal

abbrev pub invariant-loop-l : goal.invariant-loop-l
invariant-loop-l l = Raising l.self.settings (cells_of l.self) l.level l.l

abbrev pub decreases-loop-l : goal.decreases-loop-l
decreases-loop-l l = top l.self.settings - l.l
