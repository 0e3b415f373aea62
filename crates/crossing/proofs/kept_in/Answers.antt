-- `crossing::kept_in` meets its contract. Assumes nothing.
use mathlib.Core.Path.{refl}
use Rattle.crossing.specs.Crossing.{sketch_in}
use Rattle.crossing.proofs.kept_in.Goals as goal

pub returns : goal.returns
unfolding sketch_in
returns c = refl
