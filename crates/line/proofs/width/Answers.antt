-- `line::width` meets its contract: digits are counted from the last on. Assumes nothing.
use borrow.Author.Rules.{rules}
use native.Mathlib.Omega.{arith}
use Rattle.line.proofs.Decimals.{left_all, left_step, left_one}
use Rattle.line.proofs.width.Goals as goal

pub loop-y-init : goal.loop-y-init
loop-y-init c = left_all _ (search rules)

pub overflow_add-n : goal.overflow_add-n
overflow_add-n c = omega (arith, c.loop-y.invariant.room)

pub loop-y-preserved : goal.loop-y-preserved
loop-y-preserved c = left_step c.loop-y.invariant (omega arith)

pub returns : goal.returns
returns c = left_one c.loop-y.invariant (omega arith)
