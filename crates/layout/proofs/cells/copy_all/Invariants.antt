-- `layout::cells::copy_all` meets its contract: after k turns the cells of k blocks are copied. Assumes nothing.
use Prim.Native.Nat.{◌*◌}
use mathlib.Core.Path.{◌≡◌}
use lib.ListN.{take, drop}
use Rattle.std.specs.Slice.Iter.{chunks_exact_rest, chunks_exact_size}
use Rattle.std.specs.Iterator.Adapters.{enumerate_source, enumerate_count}
use Rattle.lists.specs.Rows.{pad}
use Rattle.layout.specs.Images.{blocks_for, cells_in}
use Rattle.layout.proofs.cells.copy_all.Given as goal

abbrev pub invariant-loop-i : goal.invariant-loop-i
invariant-loop-i l =
    let k = enumerate_count l.i-iterator in
    record {
      size : chunks_exact_size (enumerate_source l.i-iterator) ≡ 512;
      rest : chunks_exact_rest (enumerate_source l.i-iterator) ≡ drop (512 * k) l.s;
      copied : l.row ≡ pad 504 (take (126 * k) (cells_in (blocks_for l.count) l.count l.s));
    }
