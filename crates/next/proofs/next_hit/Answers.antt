-- `next::next_hit` meets its contract, by what `search` found. Assumes nothing.
use native.Mathlib.Omega.{arith}
use Rattle.next.proofs.Steps.{answer-found, answer-none, answer_later, answer_empty, answer-zero, answer_here}
use Rattle.next.proofs.next_hit.Goals as goal

pub returns-then-n-eq0 : goal.returns-then-n-eq0
returns-then-n-eq0 c = answer_empty _ _ _ _ _ c.if-n-eq0.true

pub returns-then-l-eq0 : goal.returns-then-l-eq0
returns-then-l-eq0 c = answer-zero _ _ _ _ _ c.if-l-eq0.true

pub returns-then-u-l : goal.returns-then-u-l
returns-then-u-l c = answer_here _ _ _ _ _ (omega arith) c.if-u-l.true (omega arith)

pub returns-then-h-eq0 : goal.returns-then-h-eq0
returns-then-h-eq0 c = answer-none _ _ _ _ _ _ _ c.search-h.ensures c.if-h-eq0.true

pub returns-then-i-n : goal.returns-then-i-n
returns-then-i-n c = answer-found _ _ _ _ _ _ _ c.search-h.ensures (omega arith) c.if-i-n.true

pub returns-else-i-n : goal.returns-else-i-n
returns-else-i-n c = answer_later _ _ _ _ _ _ _ c.search-h.ensures c.if-i-n.false
