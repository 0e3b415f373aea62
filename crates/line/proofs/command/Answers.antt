-- `line::command` meets its contract. Assumes nothing.
use mathlib.Core.Path.{◌∙◌}
use Rattle.line.proofs.Shapes.{command_row, command_none, command_empty, command_long}
use Rattle.line.proofs.command.Goals as goal

pub returns-then-line-gt-LONGEST : goal.returns-then-line-gt-LONGEST
returns-then-line-gt-LONGEST c = command_long c.args.line.now c.if-line-gt-LONGEST.true

pub returns-in_err-letter : goal.returns-in_err-letter
returns-in_err-letter c = c.from_residual.ensures ∙ command_empty c.args.line.now c.in_err-letter.ensures.cases

pub returns-in_err-read_numbers : goal.returns-in_err-read_numbers
returns-in_err-read_numbers c =
    c.from_residual-in_err-read_numbers.ensures
    ∙ command_none c.args.line.now c.in_ok-letter.ensures.cases.0 c.if-line-gt-LONGEST.false c.in_err-read_numbers.ensures

pub returns : goal.returns
returns c =
    c.shape.ensures ∙ command_row c.args.line.now c.in_ok-letter.ensures.cases.0 c.if-line-gt-LONGEST.false c.in_ok-read_numbers.ensures
