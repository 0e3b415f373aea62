-- `image::reader::well_shaped` meets its contract: a case for each test. Assumes nothing.
use mathlib.Core.Path.{◌∙◌}
use Rattle.layout.specs.Images.{fields_end, said_count}
use Rattle.image.proofs.Answers.{shape_count, shape_zeros, shape-all}
use Rattle.image.proofs.reader.well_shaped.Goals as goal

pub returns-then-s-blocks_for : goal.returns-then-s-blocks_for
unfolding said_count
returns-then-s-blocks_for c =
    shape_count c.args.s.now fields_end _ (c.from-count.ensures ∙ c.word_at.ensures.0) _ c.blocks_for.ensures c.if-s-blocks_for.true

pub returns-then-not-zeros : goal.returns-then-not-zeros
unfolding said_count
returns-then-not-zeros c =
    shape_zeros c.args.s.now fields_end _ (c.from-count.ensures ∙ c.word_at.ensures.0) _ c.blocks_for.ensures c.if-s-blocks_for.false
    _ c.zeros.ensures c.if-not-zeros.true

pub returns : goal.returns
unfolding said_count
returns c =
    shape-all c.args.s.now fields_end _ (c.from-count.ensures ∙ c.word_at.ensures.0) _ c.blocks_for.ensures c.if-s-blocks_for.false
    _ c.zeros.ensures _ c.if-not-zeros.false c.blocks_shaped.ensures
