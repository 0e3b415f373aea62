-- `layout::writer::put_blocks` meets its contract: after k turns the first k blocks are written. Assumes nothing.
use Prim.Native.Nat.{◌+◌, ◌*◌, ◌<◌, ◌≤◌, min}
use mathlib.Core.Path.{◌≡◌, sym, ap, ap₂, ◌∙◌}
use mathlib.Core.List.{◌++◌}
use native.Mathlib.Omega.{arith}
use lib.ListN.{drop, length, length-drop}
use lib.Seq.{drop-drop}
use borrow.Author.Rules.{rules}
use Rattle.std.specs.Slice.Iter.{chunks_rest}
use Rattle.std.specs.Iterator.Adapters.{enumerate_source, enumerate_count}
use Rattle.layout.proofs.Turns.{part_here, part_next, blocks_turn, blocks_end}
use Rattle.layout.proofs.writer.put_blocks.Goals as goal

pub loop-i-preserved : goal.loop-i-preserved
loop-i-preserved c =
    let l = c.loop-i.invariant in
    let step = c.in-Some.ensures.steps in
    let i = c.in-Some.i in
    let cells = c.args.cells.now in
    let next : enumerate_count c.next.new.self ≡ i + 1 = omega (arith, step.1, step.2) in
    let left : chunks_rest (enumerate_source c.loop-i.i-iterator) ≡ drop (126 * i) cells = rw (sym step.1) at l.rest in
    let rest : drop (126 * i) cells ≡ c.in-Some.part.now ++ chunks_rest (enumerate_source c.next.new.self) = sym left ∙ step.0.1.0 in
    let size : length c.in-Some.part.now ≡ min 126 (length (drop (126 * i) cells)) = step.0.1.1 ∙ ap₂ min l.size (ap length left) in
    let later : 126 * i + 126 ≡ 126 * (i + 1) = omega arith in
    let more : 126 * i < length cells = omega (arith, step.0.1.2, ap length left, length-drop (126 * i) cells) in
    rw next (record {
      size = step.0.0 ∙ l.size;
      rest = part_next 126 (drop (126 * i) cells) c.in-Some.part.now _ rest size ∙ drop-drop 126 (126 * i) cells ∙ ap (λ k. drop k cells) later;
      room = search rules;
      written = blocks_turn i cells c.loop-i.room _ _ (omega (arith, more)) (omega (arith, more, l.room)) (rw (sym step.1) at l.written) _ _
          (part_here 126 (drop (126 * i) cells) _ _ rest size) c.put_cells.ensures;
    })

pub returns : goal.returns
returns c =
    let l = c.loop-i.invariant in
    let k = enumerate_count c.loop-i.i-iterator in
    let cells = c.args.cells.now in
    let all : length cells ≤ 126 * k = omega (arith, c.in-None.ensures.steps.0.1.0, ap length l.rest, length-drop (126 * k) cells) in
    blocks_end k _ _ _ c.loop-i.room _ (omega arith) (omega (arith, l.room)) l.written
