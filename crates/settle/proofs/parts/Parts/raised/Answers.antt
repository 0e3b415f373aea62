-- `settle::parts::Parts::raised` meets its contract. Assumes nothing.
use Prim.Native.Nat.{◌+◌, ◌-◌}
use mathlib.Core.Path.{◌≡◌, ◌∙◌}
use native.Mathlib.Omega.{arith}
use Rattle.rule.proofs.Samples.{lowest_skip}
use Rattle.find.proofs.Checks.{denied}
use Rattle.settle.proofs.Searches.{lower-start, lower_stop, lower_end}
use Rattle.settle.proofs.parts.Parts.raised.Goals as goal

pub returns-then-guess-found : goal.returns-then-guess-found
returns-then-guess-found c =
    let p = c.requires in
    let e = c.climbed-found.ensures in
    e ∙ lowest_skip _ c.args.self.now.around.good _ _ _ p.0 p.1 (omega (arith, e, c.if-guess-found.true))

pub loop-l-init : goal.loop-l-init
loop-l-init c =
    let p = c.requires in
    lower-start _ c.args.self.now.around.good _ _ _ _ p.0 p.1 c.climbed-found.ensures c.if-guess-found.false

pub returns-then-not-fits_at : goal.returns-then-not-fits_at
returns-then-not-fits_at c =
    let l = c.loop-l.l in
    let e : l - 1 + 1 ≡ l = omega arith in
    e ∙ lower_stop _ c.args.self.now.around.good _ _ c.loop-l.invariant (omega arith) (denied _ _ c.fits_at.ensures c.if-not-fits_at.true)

pub returns : goal.returns
returns c =
    let e : c.args.level ≡ c.loop-l.l = omega arith in
    e ∙ lower_end _ c.args.self.now.around.good _ _ c.loop-l.invariant (omega arith)
