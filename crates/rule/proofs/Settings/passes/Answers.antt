-- `rule::Settings::passes` meets its contract. Assumes nothing.
use Rattle.rule.specs.Rule.{passes}
use Rattle.rule.proofs.Settings.passes.Goals as goal

pub returns : goal.returns
unfolding passes
returns c = simp (c.hash.ensures, c.region.ensures, c.from.ensures)
