-- `settle::parts::Parts::climbed` meets its contract. Assumes nothing.
use Rattle.settle.specs.Settling.{cells_of}
use Rattle.settle.proofs.Searches.{Raising}
use Rattle.settle.proofs.parts.Parts.climbed.Given as goal

abbrev pub invariant-loop-l : goal.invariant-loop-l
invariant-loop-l l = Raising l.self.settings (cells_of l.self) l.level l.l
