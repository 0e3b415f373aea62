-- The sketches of stretches 1..last, as opening and adding hand them back. Assumes nothing: these are definitions.
use Rattle.std.specs.Prelude.{ℕ}
use Rattle.rule.specs.declared.Settings.{Settings}
use Rattle.sketch.specs.declared.Sketch.{Sketch}
use Rattle.sketch.specs.Sketches.{opened, add}
use Rattle.sketch.specs.Calls.{no_sketch, handed, open_on, add_on}

-- the settings of the programs on images
abbrev pub image_settings : Settings
image_settings = record { n = 200000; p = 2000003; a = 1234567; b = 89; capacity = 504 }

-- what opening hands back with them
abbrev pub fresh : Sketch
fresh = handed (open_on image_settings) (opened image_settings) no_sketch

-- and what adding 1..last to that hands back
unfoldable pub up_to : ℕ → Sketch
up_to last = handed (add_on fresh 1 last) (add fresh 1 last) fresh
