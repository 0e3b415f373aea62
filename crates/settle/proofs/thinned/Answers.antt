-- `settle::thinned` meets its contract. Assumes nothing.
use mathlib.Core.Path.{sym}
use native.Mathlib.Omega.{arith}
use lib.Seq.{length-take-le}
use Rattle.settle.proofs.Unions.{thins_now, thins_room, thins_few, thins_next}
use Rattle.settle.proofs.thinned.Goals as goal

pub returns-then-many-settings : goal.returns-then-many-settings
returns-then-many-settings c = thins_now c.args.many c.args.out.now c.requires.0 c.requires.1 c.if-many-settings.true

pub slice_bounds-parts-end-2 : goal.slice_bounds-parts-end-2
slice_bounds-parts-end-2 c = sym (length-take-le _ _ c.requires.1)

pub invariant_of-parts : goal.invariant_of-parts
invariant_of-parts c = record { around = c.requires.0.around }

pub above-l-requires : goal.above-l-requires
above-l-requires c = thins_room c.args.many c.args.out.now c.requires.0 c.requires.1 c.if-many-settings.false

pub overflow_cast-count : goal.overflow_cast-count
overflow_cast-count c = omega (
  arith,
  thins_few c.args.many c.args.out.now c.requires.0 c.requires.1 c.if-many-settings.false c.above-l.ensures
      (rw c.of-sieve.ensures at c.keep_passing-count.ensures),
  c.requires.0.around.good.capacity_high,
)

pub returns : goal.returns
returns c = thins_next c.args.many c.args.out.now c.requires.0 c.requires.1 c.if-many-settings.false c.above-l.ensures
    (rw c.of-sieve.ensures at c.keep_passing-count.ensures)
