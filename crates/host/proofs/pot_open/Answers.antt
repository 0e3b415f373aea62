-- `host::pot_open` meets its contract: what opening hands back crosses. Assumes nothing.
use mathlib.Core.Path.{ap, ◌∙◌}
use Rattle.crossing.specs.Crossing.{sketch_row}
use Rattle.host.proofs.Outcomes.{given}
use Rattle.host.proofs.pot_open.Goals as goal

pub returns : goal.returns
returns c = given (c.number_of.ensures, c.put_sketch.ensures ∙ ap sketch_row c.lent.ensures) (rw c.settings_in.ensures at c.open-opened.ensures)
