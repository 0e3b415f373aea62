-- So far it has counted what the walk has seen. Assumes nothing.
use Prim.Native.Nat.{suc, ◌≤◌}
use mathlib.Core.Path.{◌≡◌}
use lib.ListN.{length}
use Rattle.rule.specs.Samples.{passing}
use Rattle.plain.specs.Plain.{cells_of}
use Rattle.plain.proofs.Walks.{seen}
use Rattle.plain.proofs.adding.Adding.count.Given as goal

abbrev pub invariant-loop-x : goal.invariant-loop-x
invariant-loop-x l =
    (l.x ≤ suc l.self.settings.n) × (l.many ≤ l.x) × (l.many ≡ length (seen (passing l.self.settings (cells_of l.self) l.level) 1 l.x))
