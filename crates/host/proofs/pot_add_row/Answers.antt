-- Nothing is stored where the row is refused; where it is not, the adds may begin, and their end is what stands in the row. Assumes nothing.
use mathlib.Core.Path.{sym, ◌∙◌}
use Rattle.host.proofs.Stretching.{row-refused, row-takes, row_done}
use Rattle.host.proofs.pot_add_row.Goals as goal

pub returns-then-is_err : goal.returns-then-is_err
returns-then-is_err c =
    row-refused c.args.sketch.now c.args.row.now c.is_sketch.ensures c.settings_in.ensures _ c.row_answer-answer.ensures
    (sym c.is_err.ensures.value ∙ c.if-is_err.true) c.told-sketch c.into.ensures

pub add_each_in-requires : goal.add_each_in-requires
add_each_in-requires c =
    row-takes c.args.sketch.now c.args.row.now c.is_sketch.ensures c.settings_in.ensures _ c.row_answer-answer.ensures
    (sym c.is_err.ensures.value ∙ c.if-is_err.false)

pub returns : goal.returns
returns c =
    row_done c.args.sketch.now c.args.row.now c.is_sketch.ensures c.settings_in.ensures _ c.row_answer-answer.ensures
    (sym c.is_err.ensures.value ∙ c.if-is_err.false) _ c.add_each_in.ensures c.into-2.ensures
