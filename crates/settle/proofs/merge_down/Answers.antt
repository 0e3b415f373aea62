-- `settle::merge_down` meets its contract. Assumes nothing.
use mathlib.Core.Path.{◌≡◌, refl, ap, ◌∙◌}
use native.Mathlib.Omega.{arith}
use lib.ListN.{length}
use Rattle.lists.specs.Rows.{union}
use Rattle.lists.proofs.Stores.{stored_part, stored_front}
use Rattle.rule.specs.Rule.{passes}
use Rattle.settle.proofs.Cuts.{own-pass, kept-few}
use Rattle.settle.proofs.Unions.{both_alone, both_keeps}
use Rattle.settle.proofs.merge_down.Goals as goal

pub store_at-end-requires : goal.store_at-end-requires
store_at-end-requires c =
    (c.requires.0.good, own-pass c.requires.1, omega (arith, c.requires.3, kept-few c.requires.1 (passes c.args.settings c.args.level)))

pub unite-many-requires : goal.unite-many-requires
unite-many-requires c =
    let stored = c.store_at-end in (
      omega (arith, c.requires.0.few, c.requires.0.good.capacity_high),
      omega (arith, stored.ensures.next_place),
      omega (arith, stored.ensures.next_place, stored.auto.out, c.requires.3, kept-few c.requires.1 (passes c.args.settings c.args.level)),
    )

pub thinned-kept-requires : goal.thinned-kept-requires
thinned-kept-requires c =
    let united = (stored_front c.unite-many.ensures).0 ∙ ap (union c.args.cells.now) (stored_part c.store_at-end.ensures (omega (arith, c.requires.3))) in
    (both_alone c.requires.0 c.requires.1 united, (stored_front c.unite-many.ensures).1)

pub clear-requires : goal.clear-requires
clear-requires c =
    let sized : length c.thinned-kept.new.out ≡ 1008 =
    omega (arith, c.thinned-kept.auto.out, c.unite-many.auto.out, c.store_at-end.auto.out, c.requires.3) in
    (omega (arith, (stored_front c.thinned-kept.ensures.stored).1, sized), omega (arith, sized))

pub returns : goal.returns
returns c =
    let united = (stored_front c.unite-many.ensures).0 ∙ ap (union c.args.cells.now) (stored_part c.store_at-end.ensures (omega (arith, c.requires.3))) in
    let sized : length c.thinned-kept.new.out ≡ 1008 =
    omega (arith, c.thinned-kept.auto.out, c.unite-many.auto.out, c.store_at-end.auto.out, c.requires.3) in
    both_keeps c.requires.0 c.requires.1 united refl c.thinned-kept.ensures sized c.clear.ensures
