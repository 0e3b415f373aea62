-- `floats::over` meets its contract. Assumes nothing.
use mathlib.Core.Path.{refl}
use Rattle.floats.specs.Quotients.{over}
use Rattle.floats.proofs.Quotients.{in_float_lem}
use borrow.Author.Rules.{rules}
use Rattle.floats.proofs.over.Goals as goal

pub int_to_float-result : goal.int_to_float-result
int_to_float-result c = in_float_lem _ (search rules)

pub int_to_float-result-2 : goal.int_to_float-result-2
int_to_float-result-2 c = in_float_lem _ (search rules)

pub returns : goal.returns
unfolding over
returns c = refl
