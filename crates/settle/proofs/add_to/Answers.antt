-- `settle::add_to` meets its contract. Assumes nothing.
use mathlib.Core.Path.{refl, sym, ◌∙◌, subst}
use native.Mathlib.Omega.{arith}
use lib.Seq.{length-take-le}
use Rattle.rows.proofs.Facts.{rising_ascends}
use Rattle.rule.specs.Cells.{Cells}
use Rattle.settle.specs.Settling.{Keeps}
use Rattle.settle.proofs.Cuts.{range_adds, range_cut, cut_few, cut_present, cut_all, row_sized, cut_keeps, none_keeps}
use Rattle.settle.proofs.Settles.{keeps_whole}
use Rattle.settle.proofs.add_to.Goals as goal

pub returns-then-hits-eq0 : goal.returns-then-hits-eq0
returns-then-hits-eq0 c =
    none_keeps c.requires.0 (range_adds c.requires.0 c.requires.1) (sym c.if-hits-eq0.true ∙ c.count_in-hits.ensures)

pub below-i-requires : goal.below-i-requires
below-i-requires c = rising_ascends _ _ _ c.requires.0.held.kept.rise

pub below-j-requires : goal.below-j-requires
below-j-requires c = rising_ascends _ _ _ c.requires.0.held.kept.rise

pub overflow_add-i : goal.overflow_add-i
overflow_add-i c =
    let w = c.requires.0.held.kept in
    omega (arith, (cut_few (range_cut c.requires.0 c.requires.1 c.below-i.ensures c.below-j.ensures c.count_in-hits.ensures)).0, w.few, w.good.capacity_high)

pub returns-then-i-hits : goal.returns-then-i-hits
returns-then-i-hits c = cut_keeps c.requires.0 (range_cut c.requires.0 c.requires.1 c.below-i.ensures c.below-j.ensures c.count_in-hits.ensures) (omega (arith, c.if-i-hits.true))

pub slice_bounds-parts-end : goal.slice_bounds-parts-end
slice_bounds-parts-end c = sym (length-take-le _ _ (cut_few (range_cut c.requires.0 c.requires.1 c.below-i.ensures c.below-j.ensures c.count_in-hits.ensures)).0)

pub offset_bounds-held-j : goal.offset_bounds-held-j
offset_bounds-held-j c =
    let w = c.requires.0.held.kept in
    omega (arith, (cut_few (range_cut c.requires.0 c.requires.1 c.below-i.ensures c.below-j.ensures c.count_in-hits.ensures)).1, w.few, w.good.capacity_high)

pub slice_bounds-parts-count : goal.slice_bounds-parts-count
slice_bounds-parts-count c = (cut_few (range_cut c.requires.0 c.requires.1 c.below-i.ensures c.below-j.ensures c.count_in-hits.ensures)).1

pub slice_bounds-parts-start : goal.slice_bounds-parts-start
slice_bounds-parts-start c = (cut_few (range_cut c.requires.0 c.requires.1 c.below-i.ensures c.below-j.ensures c.count_in-hits.ensures)).1

pub invariant_of-parts : goal.invariant_of-parts
invariant_of-parts c = record { around = (cut_present (range_cut c.requires.0 c.requires.1 c.below-i.ensures c.below-j.ensures c.count_in-hits.ensures)).around }

pub settled-next-requires : goal.settled-next-requires
settled-next-requires c = (cut_present (range_cut c.requires.0 c.requires.1 c.below-i.ensures c.below-j.ensures c.count_in-hits.ensures), c.count_in-hits.ensures, refl)

pub returns : goal.returns
returns c =
    let kept = c.settled-next in
    let keeps = subst (λ (X : Cells). Keeps c.args.settings X c.args.kept.level 504 kept.result.level kept.result.count kept.new.out) (cut_all (range_cut c.requires.0 c.requires.1 c.below-i.ensures c.below-j.ensures c.count_in-hits.ensures)) kept.ensures in
    keeps_whole keeps (omega (arith, row_sized c.requires.0, kept.auto.out)) c.store.ensures
