-- `host::pot_walker_open` meets its contract: the walker crosses. Assumes nothing.
use Rattle.host.proofs.Outcomes.{begun}
use Rattle.host.proofs.pot_walker_open.Goals as goal

pub returns : goal.returns
returns c =
    begun c.number_of.ensures c.walker_row.ensures
    (rw c.settings_in.ensures at c.open-started.ensures)
