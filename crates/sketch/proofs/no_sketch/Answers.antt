-- `sketch::no_sketch` meets its contract: the zero settings are `no_settings`'s. Assumes nothing.
use mathlib.Core.Path.{ap}
use mathlib.Core.List.{[]}
use Rattle.rule.specs.declared.Settings.{Settings}
use Rattle.sketch.specs.Sketches.{sketch_at}
use Rattle.sketch.proofs.no_sketch.Goals as goal

pub returns : goal.returns
unfolding sketch_at
returns c = ap (λ (s : Settings). sketch_at s 0 []) c.no_settings.ensures
