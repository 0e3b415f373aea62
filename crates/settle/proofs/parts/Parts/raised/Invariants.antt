-- `settle::parts::Parts::raised` meets its contract. Assumes nothing.
use Rattle.settle.specs.Settling.{cells_of}
use Rattle.settle.proofs.Searches.{Lowering}
use Rattle.settle.proofs.parts.Parts.raised.Given as goal

abbrev pub invariant-loop-l : goal.invariant-loop-l
invariant-loop-l l = Lowering l.self.settings (cells_of l.self) l.level l.l
