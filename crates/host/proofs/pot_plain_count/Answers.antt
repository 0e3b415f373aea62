-- `host::pot_plain_count` meets its contract: the plain count crosses. Assumes nothing.
use mathlib.Core.Path.{ap, ◌∙◌}
use Rattle.plain.specs.Plain.{plain_count_on}
use Rattle.host.proofs.Outcomes.{told}
use Rattle.host.proofs.pot_plain_count.Goals as goal

pub returns : goal.returns
returns c =
    let a = c.args in
    told c.into.ensures (c.count.ensures ∙ ap (λ s. plain_count_on s a.level a.lo a.hi) c.settings_in.ensures)
