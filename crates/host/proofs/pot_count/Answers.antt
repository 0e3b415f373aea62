-- `host::pot_count` meets its contract: the count crosses. Assumes nothing.
use mathlib.Core.Path.{ap, ◌∙◌}
use Rattle.find.specs.Finding.{count_on}
use Rattle.host.proofs.Outcomes.{told}
use Rattle.host.proofs.pot_count.Goals as goal

pub returns : goal.returns
returns c =
    let a = c.args in
    told c.into.ensures (c.count.ensures ∙ ap (λ s. count_on s a.level a.lo a.hi) c.settings_in.ensures)
