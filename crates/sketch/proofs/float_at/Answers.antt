-- `sketch::float_at` meets its contract. Assumes nothing.
use Rattle.sketch.specs.Estimates.{float_at}
use Rattle.sketch.proofs.float_at.Goals as goal

pub returns : goal.returns
unfolding float_at
returns c = rw (c.over.ensures, c.from.ensures, c.region.ensures, c.times_p.ensures)
