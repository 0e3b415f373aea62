-- `crossing::walker_in` meets its contract. Assumes nothing.
use Rattle.crossing.specs.Crossing.{walker_in}
use Rattle.crossing.proofs.walker_in.Goals as goal

pub returns : goal.returns
unfolding walker_in
returns c = rw c.settings_in.ensures
