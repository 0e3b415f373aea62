-- `crossing::sketch_lent` meets its contract. Assumes nothing.
use Rattle.crossing.proofs.Crossings.{parts_in}
use Rattle.crossing.proofs.sketch_lent.Goals as goal

pub returns : goal.returns
returns c = parts_in c.args.row.now c.told-row c.settings_in.ensures c.kept_in-kept.ensures
