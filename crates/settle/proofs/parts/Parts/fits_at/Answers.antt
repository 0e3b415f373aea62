-- `settle::parts::Parts::fits_at` meets its contract. Assumes nothing.
use Prim.Native.Nat.{◌+◌, ◌≤◌}
use native.Mathlib.Omega.{arith}
use Rattle.lists.proofs.Filters.{filter-short}
use Rattle.rows.specs.Sieves.{sifted}
use Rattle.settle.proofs.Around.{fits-over, fits_sum}
use Rattle.settle.proofs.parts.Parts.fits_at.Goals as goal
use Rattle.settle.proofs.parts.Parts.fits_at.Goals.{After-count_passing-after}

-- the three counts are small
small : (c : After-count_passing-after) → c.count_in-hits.result + c.count_passing-before.result + c.count_passing-after.result ≤ 1512
small c =
    let w = c.args.self.now in
    omega (
      arith,
      w.around.few,
      w.around.good.capacity_high,
      c.if-capacity-hits.false,
      c.count_passing-before.ensures,
      c.count_passing-after.ensures,
      filter-short (sifted c.of-sieve.result) w.front.now,
      filter-short (sifted c.of-sieve.result) w.back.now,
    )

pub returns-then-capacity-hits : goal.returns-then-capacity-hits
returns-then-capacity-hits c = fits-over c.args.self.now.around c.args.level c.count_in-hits.ensures c.if-capacity-hits.true

pub overflow_add-result : goal.overflow_add-result
overflow_add-result c = omega (arith, small c)

pub overflow_add-result-2 : goal.overflow_add-result-2
overflow_add-result-2 c = omega (arith, small c)

pub returns : goal.returns
returns c =
    fits_sum c.args.self.now.around c.args.level c.count_in-hits.ensures
    (rw c.of-sieve.ensures at c.count_passing-before.ensures) (rw c.of-sieve.ensures at c.count_passing-after.ensures)
