-- `layout::cells::copy_all` meets its contract: after k turns the cells of k blocks are copied. Assumes nothing.
use Prim.Native.Nat.{◌+◌, ◌*◌}
use mathlib.Core.Path.{◌≡◌, sym, ap, ◌∙◌}
use mathlib.Core.List.{◌++◌}
use native.Mathlib.Omega.{arith}
use lib.ListN.{drop, length, length-drop}
use Rattle.std.specs.Slice.Iter.{chunks_exact_rest}
use Rattle.std.specs.Iterator.Adapters.{enumerate_source, enumerate_count}
use Rattle.layout.proofs.Turns.{block_here, block_next, block_within, cells_turn, cells_end}
use Rattle.layout.proofs.cells.copy_all.Goals as goal

pub loop-i-preserved : goal.loop-i-preserved
loop-i-preserved c =
    let l = c.loop-i.invariant in
    let step = c.in-Some.ensures.steps in
    let i = c.in-Some.i in
    let s = c.args.s.now in
    let b = c.in-Some.block.now in
    let next : enumerate_count c.next.new.self ≡ i + 1 = omega (arith, step.1, step.2) in
    let rest : drop (512 * i) s ≡ b ++ chunks_exact_rest (enumerate_source c.next.new.self) = sym (rw (sym step.1) at l.rest) ∙ step.0.1.0 in
    let size : length b ≡ 512 = step.0.1.1 ∙ l.size in
    rw next (record {
      size = step.0.0 ∙ l.size;
      rest = block_next i s b _ rest size;
      copied = cells_turn i c.args.count s _ (omega (arith, block_within i s b _ rest size)) (omega arith) (rw (sym step.1) at l.copied) _ c.min-to.ensures b _ (block_here i s b _ rest size) c.copy_cells.ensures;
    })

pub returns : goal.returns
returns c =
    let l = c.loop-i.invariant in
    let k = enumerate_count c.loop-i.i-iterator in
    let s = c.args.s.now in
    l.copied ∙ cells_end k c.args.count s (omega (arith, c.in-None.ensures.steps.0.1.0, l.size, ap length l.rest, length-drop (512 * k) s))
