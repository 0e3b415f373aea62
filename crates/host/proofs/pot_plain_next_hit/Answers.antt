-- `host::pot_plain_next_hit` meets its contract: the plain hit crosses. Assumes nothing.
use mathlib.Core.Path.{ap, ◌∙◌}
use Rattle.plain.specs.Plain.{plain_next_on}
use Rattle.host.proofs.Outcomes.{told, carried}
use Rattle.host.proofs.pot_plain_next_hit.Goals as goal

pub returns : goal.returns
returns c =
    let a = c.args in
    told (carried c.from.ensures c.into.ensures) (c.next_hit.ensures ∙ ap (λ s. plain_next_on s a.level a.from) c.settings_in.ensures)
