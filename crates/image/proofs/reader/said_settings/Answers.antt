-- `image::reader::said_settings` meets its contract: five numbers read at their places. Assumes nothing.
use Rattle.layout.specs.Images.{said_settings}
use Rattle.image.proofs.reader.said_settings.Goals as goal

pub returns : goal.returns
unfolding said_settings
returns c = cc
