-- `image::reader::blocks_shaped` meets its contract: what is left to test decides as the whole does. Assumes nothing.
use Prim.Native.Nat.{ℕ, ◌+◌, ◌*◌, ◌-◌, ◌<◌}
use mathlib.Core.Path.{◌≡◌, sym, ap, ◌∙◌}
use mathlib.Core.List.{List, ◌++◌}
use native.Mathlib.Omega.{arith}
use lib.ListN.{drop, length, length-drop}
use Rattle.std.specs.Slice.Iter.{chunks_exact_rest}
use Rattle.std.specs.Iterator.Adapters.{enumerate_source, enumerate_count}
use Rattle.layout.specs.Images.{blocks_for}
use Rattle.layout.specs.Shapes.{block_at, blocks_shaped}
use Rattle.layout.proofs.Turns.{block_here, block_next, block_within, shaped_off, shaped_on, shaped_end}
use Rattle.image.proofs.reader.blocks_shaped.Goals as goal
use Rattle.image.proofs.reader.blocks_shaped.Goals.{In-Some}

module _ (c : In-Some) where
  abbrev i : ℕ
  i = c.in-Some.i

  abbrev s : List ℕ
  s = c.args.s.now

  rest : drop (512 * i) s ≡ c.in-Some.block.now ++ chunks_exact_rest (enumerate_source c.next.new.self)
  rest = sym (rw (sym c.in-Some.ensures.steps.1) at c.loop-i.invariant.rest) ∙ c.in-Some.ensures.steps.0.1.0

  size : length c.in-Some.block.now ≡ 512
  size = c.in-Some.ensures.steps.0.1.1 ∙ c.loop-i.invariant.size

  within : i < blocks_for c.args.count
  within = omega (arith, block_within i s _ _ rest size)

  here : c.in-Some.block.now ≡ block_at i s
  here = block_here i s _ _ rest size

  left : blocks_shaped (blocks_for c.args.count - i) (i + 1) (c.args.count - 126 * i) (drop (512 * i) s) ≡ blocks_shaped (blocks_for c.args.count) 1 c.args.count s
  left = rw (sym c.in-Some.ensures.steps.1) at c.loop-i.invariant.left

pub returns-then-not-block_shaped : goal.returns-then-not-block_shaped
returns-then-not-block_shaped c =
    let t = (goal.at.returns-then-not-block_shaped c).In-Some in
    shaped_off _ (i t) c.args.count (s t) _ (within t) (left t) _ _ c.min-many.ensures _ (here t) c.block_shaped.ensures c.if-not-block_shaped.true

pub loop-i-preserved : goal.loop-i-preserved
loop-i-preserved c =
    let t = (goal.at.loop-i-preserved c).In-Some in
    let step = c.in-Some.ensures.steps in
    let next : enumerate_count c.next.new.self ≡ c.in-Some.i + 1 = omega (arith, step.1, step.2) in
    rw next (record {
      size = step.0.0 ∙ c.loop-i.invariant.size;
      rest = block_next (i t) (s t) _ _ (rest t) (size t);
      left = shaped_on _ (i t) c.args.count (s t) _ (within t) (left t) _ _ c.min-many.ensures _ (here t) c.block_shaped.ensures c.if-not-block_shaped.false;
    })

pub returns : goal.returns
returns c =
    let l = c.loop-i.invariant in
    let k = enumerate_count c.loop-i.i-iterator in
    let s = c.args.s.now in
    sym (shaped_end _ k _ _ _ (omega (arith, c.in-None.ensures.steps.0.1.0, l.size, ap length l.rest, length-drop (512 * k) s))) ∙ l.left
