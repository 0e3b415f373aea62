-- `line::read_numbers` meets its contract: the numbers read so far are in the row. Assumes nothing.
use borrow.Author.Rules.{rules}
use borrow.Author.Tests.{tests}
use mathlib.Core.Path.{refl, ap, ◌∙◌}
use native.Mathlib.Omega.{arith}
use lib.ListN.{length-append}
use Rattle.std.proofs.lemmas.Iterator.Consumers.{YieldsList-turn, YieldsList-end}
use mathlib.Core.List.{[], ◌∷◌}
use Rattle.line.specs.Reading.{row_of}
use Rattle.line.proofs.Shapes.{parts_road, gathered_none, gathered_more, gathered_all, gathered_full, gathered_bad, row_words}
use Rattle.line.proofs.read_numbers.Goals as goal

pub loop-word-init : goal.loop-word-init
loop-word-init c = (gathered_none _, refl)

pub returns-then-count-eq5 : goal.returns-then-count-eq5
returns-then-count-eq5 c =
    let it = c.split-word-items.ensures in
    let whole = c.in-Some.ensures.cases.0 in
    let turn = YieldsList-turn
    (parts_road _ c.into_iter-word-iterator.ensures.into_iter_gives whole it.rest it.done it.closure (λ y b q k. search (rules, tests)))
    c.loop-word.yielded _ c.loop-word.yielded_by _ _ _ c.in-Some-word.is c.next.ensures.steps in
    gathered_full c.loop-word.invariant.0 c.loop-word.invariant.1 turn c.if-count-eq5.true ∙ ap row_of (row_words c.args.rest.now whole c.if-space-ne32.false)

pub returns-in_err-values : goal.returns-in_err-values
returns-in_err-values c =
    let it = c.split-word-items.ensures in
    let whole = c.in-Some.ensures.cases.0 in
    let turn = YieldsList-turn
    (parts_road _ c.into_iter-word-iterator.ensures.into_iter_gives whole it.rest it.done it.closure (λ y b q k. search (rules, tests)))
    c.loop-word.yielded _ c.loop-word.yielded_by _ _ _ c.in-Some-word.is c.next.ensures.steps in
    c.from_residual.ensures
    ∙ gathered_bad c.loop-word.invariant.0 c.loop-word.invariant.1 turn c.in_err-values.ensures
    ∙ ap row_of (row_words c.args.rest.now whole c.if-space-ne32.false)

pub loop-word-preserved : goal.loop-word-preserved
loop-word-preserved c =
    let it = c.split-word-items.ensures in
    let whole = c.in-Some.ensures.cases.0 in
    let turn = YieldsList-turn
    (parts_road _ c.into_iter-word-iterator.ensures.into_iter_gives whole it.rest it.done it.closure (λ y b q k. search (rules, tests)))
    c.loop-word.yielded _ c.loop-word.yielded_by _ _ _ c.in-Some-word.is c.next.ensures.steps in (
      gathered_more c.loop-word.invariant.0 c.loop-word.invariant.1 turn c.if-count-eq5.false _ c.in_ok-values.ensures,
      omega (arith, c.loop-word.invariant.1, length-append c.loop-word.yielded (c.in-Some-word.word ∷ [])),
    )

pub returns : goal.returns
returns c =
    let it = c.split-word-items.ensures in
    let whole = c.in-Some.ensures.cases.0 in
    let all = YieldsList-end
    (parts_road _ c.into_iter-word-iterator.ensures.into_iter_gives whole it.rest it.done it.closure (λ y b q k. search (rules, tests)))
    c.loop-word.yielded _ c.loop-word.yielded_by _ _ c.in-None.is c.next.ensures.steps in
    gathered_all c.loop-word.invariant.0 (c.loop-word.invariant.1 ∙ all.1) ∙ ap row_of (row_words c.args.rest.now whole c.if-space-ne32.false)
