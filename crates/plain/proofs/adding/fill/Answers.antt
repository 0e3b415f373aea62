-- `plain::adding::fill` meets its contract. Assumes nothing.
use mathlib.Core.Path.{◌≡◌, ap, ◌∙◌}
use mathlib.Core.Bool.{true}
use native.Mathlib.Omega.{arith}
use Rattle.lists.specs.Lists.{listed}
use Rattle.rule.specs.Cells.{◌∪◌, interval}
use Rattle.rule.specs.Samples.{fits}
use Rattle.rule.proofs.Samples.{fits-few, lowest-fits}
use Rattle.settle.specs.Settling.{kept_in}
use Rattle.settle.proofs.Settles.{zeros_sized, keeps_stored}
use Rattle.plain.proofs.adding.fill.Goals as goal
use Rattle.plain.proofs.adding.fill.Goals.{After-first_level-level}

-- the sample at the first level fits
fitting : (c : After-first_level-level) → fits c.args.settings (listed (kept_in c.args.kept c.args.cells.now) ∪ interval c.args.lo c.args.hi) c.first_level-level.result ≡ true
fitting c =
    let a = c.args in
    let kept = c.requires.0.kept in
    let X = listed (kept_in a.kept a.cells.now) ∪ interval a.lo a.hi in
    ap (fits a.settings X) c.first_level-level.ensures ∙ lowest-fits a.settings kept.good X a.kept.level kept.low

pub gather-count-requires : goal.gather-count-requires
gather-count-requires c =
    omega (arith, fits-few _ _ _ (fitting (goal.at.gather-count-requires c).After-first_level-level), c.requires.0.kept.good.capacity_high, zeros_sized _ c.requires.2)

pub returns : goal.returns
returns c = keeps_stored _ _ c.gather-count.ensures _ c.first_level-level.ensures c.requires.2
