-- Nothing is added where the row is refused; where it is not, the adds may begin, and what they make is handed back.
use mathlib.Core.Path.{sym, ap, ◌∙◌}
use Rattle.sketch.specs.Calls.{done_with}
use Rattle.row.proofs.Rows.{row_known, takes_all, row_done, row_refused}
use Rattle.row.proofs.add_row.Goals as goal

pub add_each-requires : goal.add_each-requires
add_each-requires c = takes_all c.args.sketch c.args.row.now c.good.ensures c.in-Ok.ensures

pub returns-in-Ok : goal.returns-in-Ok
returns-in-Ok c = row_done _ _ _ _ (sym (row_known c.args.sketch c.args.row.now c.good.ensures c.in-Ok.ensures)) (c.done.ensures ∙ ap done_with c.add_each.ensures)

pub returns-in-Err : goal.returns-in-Err
returns-in-Err c = row_refused _ _ _ _ _ (sym (row_known c.args.sketch c.args.row.now c.good.ensures c.in-Err.ensures)) c.refused.ensures
