-- `layout::writer::put_cells` meets its contract: after j turns the first j cells are stored. Assumes nothing.
use mathlib.Core.Path.{◌≡◌, sym, ap, ◌∙◌}
use native.Mathlib.Omega.{arith}
use lib.Seq.{take_all}
use lib.ListN.{length, take}
use Rattle.lists.proofs.Places.{placed-none}
use Rattle.block.specs.Sums.{sealed}
use Rattle.layout.specs.Images.{cell_bytes}
use Rattle.layout.proofs.Puts.{put_cell, body_filled}
use Rattle.layout.proofs.writer.put_cells.Goals as goal

pub loop-j-init : goal.loop-j-init
unfolding cell_bytes
loop-j-init c = (omega arith, sym (placed-none _ 4))

pub loop-j-preserved : goal.loop-j-preserved
loop-j-preserved c =
    let l = c.loop-j in
    (omega arith, put_cell c.put_word-2.new.s c.args.cells.now l.j (omega arith) (omega arith) l.invariant.1 c.put_number.ensures)

pub returns : goal.returns
returns c =
    let l = c.loop-j in
    let a = c.args in
    let e : take l.j a.cells.now ≡ a.cells.now = take_all l.j a.cells.now (omega arith) in
    c.seal.ensures
    ∙ ap sealed (body_filled (length a.s.now) (omega arith) (c.fill.ensures.after (λ y h. h)) a.number a.cells.now (omega arith)
    c.put_word.ensures c.put_word-2.ensures (rw e at l.invariant.1))
