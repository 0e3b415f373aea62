-- `sketch::Sketch::open` meets its contract. Assumes nothing.
use mathlib.Core.Path.{ap, ◌∙◌}
use Rattle.rule.specs.declared.refusals.Refusal.TheVariants.{Settings}
use Rattle.find.proofs.Checks.{denied, granted}
use Rattle.sketch.specs.Sketches.{sketch_at, opened}
use Rattle.sketch.specs.Calls.{refused_with}
use Rattle.sketch.proofs.Handing.{hands_done, hands_refused, open_good, open_bad}
use Rattle.sketch.proofs.Sketch.open.Goals as goal

pub returns-then-not-good : goal.returns-then-not-good
returns-then-not-good c =
    hands_refused _ _ _ Settings _ (open_bad _ (denied _ _ c.good.ensures c.if-not-good.true))
    (c.refused.ensures ∙ ap (refused_with Settings) c.no_sketch.ensures)

pub returns : goal.returns
unfolding opened sketch_at
returns c = hands_done _ _ _ _ (open_good _ (granted _ _ c.good.ensures c.if-not-good.false)) c.done.ensures
