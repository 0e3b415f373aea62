-- `stores::store_along` meets its contract. Assumes nothing.
use native.Mathlib.Omega.{arith}
use Rattle.rule.proofs.Facts.{small}
use Rattle.find.proofs.Counting.{hash_below}
use Rattle.stores.proofs.Hitting.{along_start, along_room, along_on, along_end}
use Rattle.stores.proofs.store_along.Goals as goal

pub overflow_sub-far : goal.overflow_sub-far
overflow_sub-far c = c.requires.1

pub of-strides-requires : goal.of-strides-requires
of-strides-requires c = (c.requires.0.good, omega (arith, c.requires.0.last))

pub overflow_cast-hit : goal.overflow_cast-hit
overflow_cast-hit c =
    let start = c in
    let good = start.requires.0.good in
    omega (arith, c.hash.ensures, hash_below start.args.settings start.args.first good, small start.args.settings good)

pub loop-hit-init : goal.loop-hit-init
loop-hit-init c = let start = c in along_start _ _ _ _ _ _ _ c.hash.ensures start.requires.2

pub offset_bounds-out-next : goal.offset_bounds-out-next
offset_bounds-out-next c =
    let loop = c in
    let start = loop in
    omega (arith, along_room _ _ _ _ _ _ loop.loop-hit.invariant (omega arith) start.requires.3)

pub bounds-out-next : goal.bounds-out-next
bounds-out-next c =
    let loop = c in
    let start = loop in
    omega (arith, along_room _ _ _ _ _ _ loop.loop-hit.invariant (omega arith) start.requires.3)

pub overflow_add-next : goal.overflow_add-next
overflow_add-next c =
    let loop = c in
    let start = loop in
    omega (arith, along_room _ _ _ _ _ _ loop.loop-hit.invariant (omega arith) start.requires.3)

pub next-hit-requires : goal.next-hit-requires
next-hit-requires c =
    let loop = c in
    let of = loop in
    let start = of in
    (start.requires.0.good, of.of-strides.ensures, loop.loop-hit.invariant.is (omega arith), omega (arith, start.requires.0.last), omega (arith, start.requires.0.last))

pub loop-hit-smaller : goal.loop-hit-smaller
loop-hit-smaller c = omega (arith, c.next-hit.ensures.further)

pub loop-hit-preserved : goal.loop-hit-preserved
loop-hit-preserved c =
    let loop = c in
    let start = loop in
    along_on _ _ _ _ _ _ loop.loop-hit.invariant (omega arith) start.requires.3 _ _ (omega (arith, loop.loop-hit.invariant.from)) c.next-hit.ensures

pub shape_of-out : goal.shape_of-out
shape_of-out c = omega (arith, c.loop-hit.invariant.same)

pub returns : goal.returns
returns c = along_end _ _ _ _ _ _ c.loop-hit.invariant (omega arith)
