-- `sketch::Sketch::added` meets its contract. Assumes nothing.
use mathlib.Core.Path.{◌≡◌}
use lib.ListN.{length}
use Rattle.sketch.proofs.Handing.{row_kept, kept-add}
use borrow.Author.Rules.{rules}
use Rattle.sketch.proofs.Sketch.added.Goals as goal

pub add_to-kept-requires : goal.add_to-kept-requires
add_to-kept-requires c =
    let start = c in
    let k = start.args.self in
    let e : length k.cells ≡ 504 = search rules in
    (rw c.kept.ensures (row_kept k e start.requires.0), start.requires.1)

pub returns : goal.returns
returns c =
    let a = c.args in
    kept-add a.self a.lo a.hi (rw c.kept.ensures at c.add_to-kept.ensures)
