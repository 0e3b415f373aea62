-- `image::reader::block_shaped` meets its contract: each test reads what the block says. Assumes nothing.
use mathlib.Core.Path.{ap, ap₂, ◌∙◌}
use mathlib.Core.Bool.{◌&&◌}
use lib.Dec.{eqb}
use Rattle.layout.specs.Shapes.{block_shaped}
use Rattle.image.proofs.reader.block_shaped.Goals as goal

pub returns : goal.returns
unfolding block_shaped
returns c =
    let a = c.args in
    ap₂ ◌&&◌ (ap (λ x. eqb x a.number) (c.from-says.ensures ∙ c.word_at.ensures.0))
    (ap₂ ◌&&◌ (ap (λ x. eqb x a.many) (c.from-holds.ensures ∙ c.word_at-2.ensures.0)) c.zeros.ensures)
