-- `sketch::lent::Lent::good` meets its contract. Assumes nothing.
use mathlib.Core.Path.{sym, ap, ◌∙◌}
use native.Mathlib.Omega.{arith}
use lib.Seq.{length-take-le}
use Rattle.lists.specs.Rows.{all_zero}
use Rattle.lists.proofs.Steps.{part_rest}
use Rattle.rule.proofs.Facts.{good_facts}
use Rattle.find.proofs.Checks.{denied, granted}
use Rattle.sketch.specs.Sketches.{held_of}
use Rattle.sketch.proofs.Facts.{bad_settings_lem, too_many, all-parts}
use Rattle.sketch.proofs.lent.Lent.good.Goals as goal

pub returns-then-n-gt-PLACES : goal.returns-then-n-gt-PLACES
returns-then-n-gt-PLACES c = too_many (held_of c.args.self) c.if-n-gt-PLACES.true

pub returns-then-not-good : goal.returns-then-not-good
returns-then-not-good c = bad_settings_lem (held_of c.args.self) (denied _ _ c.good.ensures c.if-not-good.true)

pub slice_bounds-rises-end : goal.slice_bounds-rises-end
slice_bounds-rises-end c = sym (length-take-le _ _ (omega (arith, c.if-n-gt-PLACES.false, c.args.self.places)))

pub rises-rises-requires : goal.rises-rises-requires
rises-rises-requires c = good_facts _ (granted _ _ c.good.ensures c.if-not-good.false)

pub returns : goal.returns
returns c =
    let k = c.args.self in
    all-parts (held_of k) _ _ _ (granted _ _ c.good.ensures c.if-not-good.false) k.places
    c.has_level.ensures
    c.rises-rises.ensures
    (c.zeros-unused.ensures ∙ ap all_zero (part_rest k.cells.now k.count))
