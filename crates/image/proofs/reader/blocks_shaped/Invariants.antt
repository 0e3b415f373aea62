-- `image::reader::blocks_shaped` meets its contract: what is left to test decides as the whole does. Assumes nothing.
use Prim.Native.Nat.{◌+◌, ◌*◌, ◌-◌}
use mathlib.Core.Path.{◌≡◌}
use lib.ListN.{drop}
use Rattle.std.specs.Slice.Iter.{chunks_exact_rest, chunks_exact_size}
use Rattle.std.specs.Iterator.Adapters.{enumerate_source, enumerate_count}
use Rattle.layout.specs.Images.{blocks_for}
use Rattle.layout.specs.Shapes.{blocks_shaped}
use Rattle.image.proofs.reader.blocks_shaped.Given as goal

abbrev pub invariant-loop-i : goal.invariant-loop-i
invariant-loop-i l =
    let k = enumerate_count l.i-iterator in
    record {
      size : chunks_exact_size (enumerate_source l.i-iterator) ≡ 512;
      rest : chunks_exact_rest (enumerate_source l.i-iterator) ≡ drop (512 * k) l.s;
      left : blocks_shaped (blocks_for l.count - k) (k + 1) (l.count - 126 * k) (drop (512 * k) l.s) ≡ blocks_shaped (blocks_for l.count) 1 l.count l.s;
    }
