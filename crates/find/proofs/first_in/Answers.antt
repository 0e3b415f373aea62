-- `find::first_in` meets its contract: the first cell is that of the hashes' progression. Assumes nothing.
use mathlib.Core.Path.{sym}
use native.Mathlib.Omega.{arith}
use Rattle.rule.proofs.NextHits.{next_some}
use Rattle.find.proofs.Hits.{first_cell, next_takes, found_at, found_nothing}
use Rattle.find.proofs.first_in.Goals as goal

pub returns-then-level-lo : goal.returns-then-level-lo
returns-then-level-lo c = sym (first_cell _ _ _ _ c.requires.good c.if-level-lo.true)

pub next_hit-requires : goal.next_hit-requires
next_hit-requires c = let w = next_takes _ _ _ _ _ c.progression-h.ensures c.requires in record { progression = w.0; n_bound = w.1 }

pub returns-in_err-i : goal.returns-in_err-i
returns-in_err-i c = rw c.from_residual.ensures (sym (found_nothing _ _ _ _ _ c.progression-h.ensures _ c.next_hit.ensures c.in_err-i.was))

pub returns : goal.returns
returns c = rw c.from.ensures (sym (found_at _ _ _ _ _ c.progression-h.ensures _ _ c.next_hit.ensures c.in_ok-i.was))

pub overflow_add-result : goal.overflow_add-result
overflow_add-result c = omega (arith, next_some _ _ _ _ _ (sym (returns c)))

pub overflow_cast-result : goal.overflow_cast-result
overflow_cast-result c = omega (arith, next_some _ _ _ _ _ (sym (returns c)))
