-- `sketch::stands_at` meets its contract. Assumes nothing.
use mathlib.Core.Path.{sym, ◌∙◌}
use Rattle.sketch.specs.Estimates.{stands_at}
use Rattle.sketch.proofs.Worth.{stands_none}
use Rattle.sketch.proofs.stands_at.Goals as goal

pub returns-then-region-eq0 : goal.returns-then-region-eq0
returns-then-region-eq0 c =
    let a = c.args in
    stands_none a.settings a.level a.count (sym c.region-region.ensures ∙ c.if-region-eq0.true)

pub returns : goal.returns
unfolding stands_at
returns c = rw (c.from.ensures, c.region-region.ensures, c.times_p.ensures)
