-- `sketch::Sketch::merged` meets its contract. Assumes nothing.
use mathlib.Core.Path.{◌≡◌, refl, sym, ap, ◌∙◌}
use native.Mathlib.Omega.{arith}
use lib.ListN.{length, take}
use lib.Seq.{length-take-le}
use Rattle.lists.proofs.Stores.{stored-whole}
use Rattle.settle.specs.Settling.{KeptIn}
use Rattle.sketch.specs.Sketches.{held, kept_of}
use Rattle.sketch.proofs.Handing.{row_kept, kept-merge}
use borrow.Author.Rules.{rules}
use Rattle.sketch.proofs.Sketch.merged.Goals as goal

pub merge_to-kept-requires : goal.merge_to-kept-requires
merge_to-kept-requires c =
    let start = c in
    let k = start.args.self in
    let j = start.args.other in
    let e : length k.cells ≡ 504 = search rules in
    let f : length j.cells ≡ 504 = search rules in
    let mine : KeptIn k.settings (kept_of k) k.cells = (row_kept k e start.requires.0).held in
    let its : KeptIn k.settings (kept_of j) j.cells = rw start.requires.2 (row_kept j f start.requires.1).held in
    let kept = c in
    (rw kept.kept.ensures mine, rw kept.kept-its.ensures its, refl)

pub slice_bounds-store-end-2 : goal.slice_bounds-store-end-2
slice_bounds-store-end-2 c =
    let half : length (take 504 c.merge_to-kept.new.out) ≡ 504 =
    length-take-le 504 c.merge_to-kept.new.out (omega (arith, c.merge_to-kept.auto.out)) in
    sym half

pub store-requires : goal.store-requires
store-requires c =
    let half : length (take 504 c.merge_to-kept.new.out) ≡ 504 =
    length-take-le 504 c.merge_to-kept.new.out (omega (arith, c.merge_to-kept.auto.out)) in
    omega (arith, half)

pub returns : goal.returns
returns c =
    let half : length (take 504 c.merge_to-kept.new.out) ≡ 504 =
    length-take-le 504 c.merge_to-kept.new.out (omega (arith, c.merge_to-kept.auto.out)) in
    let merged = c in
    let kept = merged.merge_to-kept in
    let start = merged in
    let k = start.args.self in
    let e = stored-whole (omega (arith, half)) c.store.ensures in
    let heads = merged in
    let w = rw (heads.kept.ensures, heads.kept-its.ensures) at kept.ensures in
    ap (held k.settings kept.result.level kept.result.count) e
    ∙ kept-merge k start.args.other start.requires.0 start.requires.1 start.requires.2 w
