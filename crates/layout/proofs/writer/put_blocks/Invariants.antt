-- `layout::writer::put_blocks` meets its contract: after k turns the first k blocks are written. Assumes nothing.
use Prim.Native.Nat.{◌+◌, ◌*◌, ◌-◌}
use mathlib.Core.Path.{◌≡◌}
use mathlib.Core.List.{◌++◌}
use lib.ListN.{length, take, drop}
use Rattle.std.specs.Slice.Iter.{chunks_rest, chunks_size}
use Rattle.std.specs.Iterator.Adapters.{enumerate_source, enumerate_count}
use Rattle.layout.specs.Images.{blocks_for, cell_blocks}
use Rattle.layout.proofs.writer.put_blocks.Given as goal

abbrev pub invariant-loop-i : goal.invariant-loop-i
invariant-loop-i l =
    let k = enumerate_count l.i-iterator in
    let m = blocks_for (length l.cells) in
    record {
      size : chunks_size (enumerate_source l.i-iterator) ≡ 126;
      rest : chunks_rest (enumerate_source l.i-iterator) ≡ drop (126 * k) l.cells;
      room : length l.room ≡ length l.initial.room;
      written : take (512 * k) l.room ++ cell_blocks (m - k) (k + 1) (drop (126 * k) l.cells) ≡ cell_blocks m 1 l.cells;
    }
