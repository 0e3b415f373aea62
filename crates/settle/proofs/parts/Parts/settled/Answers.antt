-- `settle::parts::Parts::settled` meets its contract. Assumes nothing.
use mathlib.Core.Path.{sym}
use native.Mathlib.Omega.{arith}
use Rattle.rule.proofs.Samples.{lowest_now}
use Rattle.settle.proofs.Settles.{zeros_sized, keeps_stored, stored-few, settle_hits, settle_now, settle_not, settle_room, settle_next, settle_fits}
use Rattle.settle.proofs.parts.Parts.settled.Goals as goal

pub overflow_add-many : goal.overflow_add-many
overflow_add-many c = omega (arith, settle_hits c.requires.0 c.requires.1, c.requires.0.around.good.n_high, c.requires.0.around.few)

pub overflow_add-many-2 : goal.overflow_add-many-2
overflow_add-many-2 c = omega (arith, settle_hits c.requires.0 c.requires.1, c.requires.0.around.good.n_high, c.requires.0.around.few)

pub gathered-count-requires : goal.gathered-count-requires
gathered-count-requires c = record { present = c.requires.0; counted = c.requires.1; fit = settle_now c.requires.0 c.requires.1 c.if-many-capacity.true; room = zeros_sized _ c.requires.2 }

pub overflow_cast-count : goal.overflow_cast-count
overflow_cast-count c = omega (arith, stored-few _ _ c.gathered-count.ensures c.requires.0.around.good (settle_now c.requires.0 c.requires.1 c.if-many-capacity.true))

pub returns-then-many-capacity : goal.returns-then-many-capacity
returns-then-many-capacity c = keeps_stored _ _ c.gathered-count.ensures _ (sym (lowest_now _ _ _ (settle_now c.requires.0 c.requires.1 c.if-many-capacity.true))) c.requires.2

pub above-l-requires : goal.above-l-requires
above-l-requires c = settle_room c.requires.0 (settle_not c.requires.0 c.requires.1 c.if-many-capacity.false)

pub gathered-count-requires-2 : goal.gathered-count-requires-2
gathered-count-requires-2 c =
    record {
      present = c.requires.0;
      counted = c.count_in-left.ensures;
      fit = settle_fits c.requires.0 (settle_not c.requires.0 c.requires.1 c.if-many-capacity.false) c.above-l.ensures;
      room = zeros_sized _ c.requires.2;
    }

pub overflow_cast-count-2 : goal.overflow_cast-count-2
overflow_cast-count-2 c =
    omega (arith, stored-few _ _ c.gathered-count-2.ensures c.requires.0.around.good (settle_fits c.requires.0 (settle_not c.requires.0 c.requires.1 c.if-many-capacity.false) c.above-l.ensures))

pub returns : goal.returns
returns c = keeps_stored _ _ c.gathered-count-2.ensures _ (settle_next c.requires.0 (settle_not c.requires.0 c.requires.1 c.if-many-capacity.false) c.above-l.ensures) c.requires.2
