-- `host::pot_estimate` meets its contract: the estimate crosses as a double. Assumes nothing.
use mathlib.Core.Path.{ap, ◌∙◌}
use Rattle.sketch.specs.Estimates.{estimate_on}
use Rattle.host.proofs.pot_estimate.Goals as goal

pub returns : goal.returns
returns c = rw (c.estimate.ensures.answer ∙ ap estimate_on c.sketch_lent-k.ensures) at c.into.ensures
