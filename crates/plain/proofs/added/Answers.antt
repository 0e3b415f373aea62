-- `plain::added` meets its contract. Assumes nothing.
use mathlib.Core.Path.{◌≡◌, refl}
use lib.ListN.{length}
use Rattle.sketch.proofs.Handing.{row_kept, kept-add}
use borrow.Author.Rules.{rules}
use Rattle.plain.proofs.added.Goals as goal

pub fill-next-requires : goal.fill-next-requires
fill-next-requires c =
    let k = c.args.sketch in
    let sized : length k.cells ≡ 504 = search rules in
    ((row_kept k sized c.requires.0).held, c.requires.1, refl)

pub returns : goal.returns
returns c = kept-add c.args.sketch c.args.lo c.args.hi c.fill-next.ensures
