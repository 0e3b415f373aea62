-- `line::read_numbers` meets its contract: the numbers read so far are in the row. Assumes nothing.
use mathlib.Core.Path.{◌≡◌}
use lib.ListN.{length, drop}
use Rattle.line.proofs.Words.{parts}
use Rattle.line.proofs.Shapes.{Gathered}
use Rattle.line.proofs.read_numbers.Given as goal

abbrev pub invariant-loop-word : goal.invariant-loop-word
invariant-loop-word l = Gathered (parts (drop 1 l.rest)) l.values l.count × (l.count ≡ length l.yielded)
