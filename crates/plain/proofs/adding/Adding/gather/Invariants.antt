-- So far it has stored what the walk has seen. Assumes nothing.
use Prim.Native.Nat.{suc, ◌≤◌}
use Rattle.lists.specs.Rows.{Stored}
use Rattle.rule.specs.Samples.{passing}
use Rattle.plain.specs.Plain.{cells_of}
use Rattle.plain.proofs.Walks.{seen}
use Rattle.plain.proofs.adding.Adding.gather.Given as goal

abbrev pub invariant-loop-x : goal.invariant-loop-x
invariant-loop-x l =
    (l.x ≤ suc l.self.settings.n) × Stored l.initial.out 0 (seen (passing l.self.settings (cells_of l.self) l.level) 1 l.x) l.many l.out
