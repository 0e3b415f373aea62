-- `image::reader::fault` meets its contract: the settings decide which refusal it is. Assumes nothing.
use Rattle.std.proofs.Common.{sym, ap, ◌∙◌}
use Rattle.rule.specs.Rule.{is_good}
use Rattle.rule.specs.Refusals.{Paper, refused}
use Rattle.image.proofs.Answers.{fault_image, fault_settings}
use Rattle.image.proofs.reader.fault.Goals as goal

pub returns-then-good : goal.returns-then-good
returns-then-good c = ap {B = Paper} (λ n. refused n 0) (sym (fault_image c.args.s.now (ap is_good (sym c.said_settings.ensures) ∙ sym c.good.ensures ∙ c.if-good.true)))

pub returns-else-good : goal.returns-else-good
returns-else-good c = ap {B = Paper} (λ n. refused n 0) (sym (fault_settings c.args.s.now (ap is_good (sym c.said_settings.ensures) ∙ sym c.good.ensures ∙ c.if-good.false)))
