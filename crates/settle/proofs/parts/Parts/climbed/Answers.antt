-- `settle::parts::Parts::climbed` meets its contract. Assumes nothing.
use mathlib.Core.Path.{◌∙◌}
use native.Mathlib.Omega.{arith}
use Rattle.find.proofs.Checks.{denied, granted}
use Rattle.settle.proofs.Searches.{raise_on, raise_end, raise_top}
use Rattle.settle.proofs.parts.Parts.climbed.Goals as goal

pub returns-then-fits_at : goal.returns-then-fits_at
returns-then-fits_at c = raise_end _ c.args.self.now.around.good _ c.loop-l.invariant (granted _ _ c.fits_at.ensures c.if-fits_at.true)

pub loop-l-preserved : goal.loop-l-preserved
loop-l-preserved c = raise_on _ c.args.self.now.around.good _ c.loop-l.invariant (denied _ _ c.fits_at.ensures c.if-fits_at.false)

pub returns : goal.returns
returns c = c.top-top.ensures ∙ raise_top _ c.args.self.now.around.good _ c.loop-l.invariant (omega (arith, c.top-top.ensures))
