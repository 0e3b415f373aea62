-- `rule::Settings::good` meets its contract. Assumes nothing.
use mathlib.Core.Bool.{and-true}
use Rattle.rule.specs.Rule.{is_good}
use Rattle.rule.proofs.Settings.good.Goals as goal

pub returns : goal.returns
unfolding is_good
returns c = rw and-true (cc)
