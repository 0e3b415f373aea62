-- `layout::cells::copy_cells` meets its contract: after j turns the first j cells are copied. Assumes nothing.
use mathlib.Core.Path.{◌≡◌}
use lib.ListN.{length, take, drop}
use Rattle.layout.specs.Images.{numbers_in}
use Rattle.layout.proofs.cells.copy_cells.Given as goal

abbrev pub invariant-loop-j : goal.invariant-loop-j
invariant-loop-j l = (length l.row ≡ length l.initial.row) × (take l.j l.row ≡ numbers_in l.j (drop 4 l.s))
