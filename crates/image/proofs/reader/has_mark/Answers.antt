-- `image::reader::has_mark` meets its contract: the mark is a number. Assumes nothing.
use mathlib.Core.Path.{ap, ◌∙◌}
use native.Mathlib.Omega.{arith}
use lib.Dec.{eqb}
use Rattle.block.specs.Little.{number_of}
use Rattle.layout.specs.Images.{mark}
use Rattle.image.specs.Calls.{marked}
use Rattle.layout.proofs.Spelling.{mark-bytes}
use Rattle.image.proofs.reader.has_mark.Goals as goal

pub returns : goal.returns
unfolding marked mark number_of
returns c =
    let read = c.number_at.ensures in
    (ap (λ n. eqb n mark) read.0 ∙ mark-bytes c.args.s.now read.1 (omega (arith, c.requires)), read.1)
