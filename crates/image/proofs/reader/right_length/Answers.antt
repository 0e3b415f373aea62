-- `image::reader::right_length` meets its contract: the tests are those of the definition. Assumes nothing.
use mathlib.Core.Path.{refl}
use Rattle.image.specs.Calls.{right_length}
use Rattle.image.proofs.reader.right_length.Goals as goal

pub returns : goal.returns
unfolding right_length
returns c = refl
