-- `image::write_from` meets its contract: a case for each refusal, and the image put at the start of the room. Assumes nothing.
use Prim.Native.Nat.{◌+◌, ◌*◌, ◌-◌}
use mathlib.Core.Path.{◌≡◌, sym, ap, ◌∙◌}
use mathlib.Core.Bool.{true}
use mathlib.Core.List.{◌++◌}
use native.Mathlib.Omega.{arith}
use lib.ListN.{length, drop}
use lib.Seq.{length-take-le}
use Rattle.sketch.specs.Sketches.{held_of, is_sketch, cells_of}
use Rattle.sketch.proofs.Facts.{sketch_facts, count_few}
use Rattle.layout.specs.Images.{image_of}
use Rattle.layout.proofs.Limits.{writable, sketch-length}
use Rattle.image.proofs.Answers.{write_not, write_short, write_done, room_put}
use Rattle.image.proofs.write_from.Goals as goal

pub returns-then-not-good : goal.returns-then-not-good
returns-then-not-good c = write_not _ _ (sym c.good.ensures ∙ c.if-not-good.true)

pub returns-then-room-len : goal.returns-then-room-len
returns-then-room-len c =
    let k = held_of c.args.sketch in
    let is_one : is_sketch k ≡ true = sym c.good.ensures ∙ c.if-not-good.false in
    write_short k _ is_one (omega (arith, c.if-room-len.true, c.blocks_for.ensures, (sketch-length k is_one).0))

pub slice_bounds-put_image-end-2 : goal.slice_bounds-put_image-end-2
slice_bounds-put_image-end-2 c =
    let k = held_of c.args.sketch in
    let few = count_few k (sketch_facts k (sym c.good.ensures ∙ c.if-not-good.false)) in
    sym (length-take-le _ _ (omega (arith, few, c.args.sketch.places)))

pub put_image-requires : goal.put_image-requires
put_image-requires c =
    let k = held_of c.args.sketch in
    writable k (sketch_facts k (sym c.good.ensures ∙ c.if-not-good.false)) _ _ c.blocks_for.ensures c.if-room-len.false

pub returns : goal.returns
unfolding image_of cells_of
returns c =
    let k = held_of c.args.sketch in
    let is_one : is_sketch k ≡ true = sym c.good.ensures ∙ c.if-not-good.false in
    let room = c.args.room.now in
    let size = 512 * (1 + c.blocks_for.result) in
    let n : size ≡ length (image_of k) = ap (λ m. 512 * (1 + m)) c.blocks_for.ensures ∙ sym (sketch-length k is_one).0 in
    write_done k room size _ is_one n c.if-room-len.false
    (ap (λ l. l ++ drop (size - 0) room) c.put_image.ensures ∙ room_put (image_of k) room size n)
