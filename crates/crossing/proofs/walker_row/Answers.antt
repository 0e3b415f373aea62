-- `crossing::walker_row` meets its contract: each number is the walker's. Assumes nothing.
use mathlib.Core.Path.{refl}
use Rattle.crossing.specs.Crossing.{walker_row}
use Rattle.crossing.proofs.walker_row.Goals as goal

pub returns : goal.returns
unfolding walker_row
returns c = refl
