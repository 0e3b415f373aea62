-- `layout::writer::put_cells` meets its contract: after j turns the first j cells are stored. Assumes nothing.
use mathlib.Core.Path.{◌≡◌}
use lib.ListN.{length, take}
use Rattle.lists.specs.Rows.{placed}
use Rattle.layout.specs.Images.{cell_bytes}
use Rattle.layout.proofs.writer.put_cells.Given as goal

abbrev pub invariant-loop-j : goal.invariant-loop-j
invariant-loop-j l = (length l.s ≡ 512) × (l.s ≡ placed l.initial.s 4 (cell_bytes (take l.j l.cells)))
