-- The proof of the cycle of calls {search}. The measure is the modulus p: the call is on the modulus a, which is less. Assumes nothing.
use native.Mathlib.Omega.{arith}
use Rattle.next.proofs.Steps.{moving, still_answer, first-answer, past_answer, up-few, up-hit, up_none, mirrored_few, mirrored_hit, mirrored_none}
use Rattle.next.proofs.+search.Goals as goal

pub returns-then-a-eq0 : goal.returns-then-a-eq0
returns-then-a-eq0 t c = still_answer _ _ _ _ _ _ c.requires c.if-a-eq0.true

pub overflow_add-s : goal.overflow_add-s
overflow_add-s t c = omega (arith, moving _ _ _ _ _ c.requires (omega arith))

pub overflow_mul-x : goal.overflow_mul-x
overflow_mul-x t c = omega (arith, moving _ _ _ _ _ c.requires (omega arith))

pub returns-then-b-x : goal.returns-then-b-x
returns-then-b-x t c = past_answer _ _ _ _ _ c.requires (omega arith) _ c.if-b-x.true

pub overflow_mul-f : goal.overflow_mul-f
overflow_mul-f t c = omega (arith, moving _ _ _ _ _ c.requires (omega arith))

pub overflow_add-f : goal.overflow_add-f
overflow_add-f t c = omega (arith, moving _ _ _ _ _ c.requires (omega arith))

pub overflow_sub-f : goal.overflow_sub-f
overflow_sub-f t c = omega (arith, moving _ _ _ _ _ c.requires (omega arith))

pub returns-then-f-l : goal.returns-then-f-l
returns-then-f-l t c = first-answer _ _ _ _ _ c.requires (omega arith) _ c.if-f-l.true

pub overflow_sub-a : goal.overflow_sub-a
overflow_sub-a t c = omega (arith, moving _ _ _ _ _ c.requires (omega arith))

pub overflow_sub-a-then-r-a : goal.overflow_sub-a-then-r-a
overflow_sub-a-then-r-a t c = omega (arith, moving _ _ _ _ _ c.requires (omega arith))

pub overflow_add-a : goal.overflow_add-a
overflow_add-a t c = omega (arith, moving _ _ _ _ _ c.requires (omega arith))

pub overflow_sub-a-then-r-a-2 : goal.overflow_sub-a-then-r-a-2
overflow_sub-a-then-r-a-2 t c = omega (arith, moving _ _ _ _ _ c.requires (omega arith))

pub overflow_mul-w : goal.overflow_mul-w
overflow_mul-w t c = omega (arith, moving _ _ _ _ _ c.requires (omega arith))

pub search-h-requires : goal.search-h-requires
search-h-requires t c =
    let m = moving _ _ _ _ _ c.requires (omega arith) in
    (omega arith, record { small = omega arith; weight = m.inner_weight; step = omega arith; start = omega arith; some = omega arith; above = omega arith })

pub overflow_add-result : goal.overflow_add-result
overflow_add-result t c = omega (arith, moving _ _ _ _ _ c.requires (omega arith), mirrored_few _ _ _ _ _ c.requires (omega arith) (omega arith) _ _ _ c.search-h.ensures c.if-h-gt0.true)

pub overflow_add-result-then-h-gt0 : goal.overflow_add-result-then-h-gt0
overflow_add-result-then-h-gt0 t c = omega (arith, moving _ _ _ _ _ c.requires (omega arith), mirrored_few _ _ _ _ _ c.requires (omega arith) (omega arith) _ _ _ c.search-h.ensures c.if-h-gt0.true)

pub returns-then-h-gt0 : goal.returns-then-h-gt0
returns-then-h-gt0 t c = mirrored_hit _ _ _ _ _ c.requires (omega arith) (omega arith) _ _ _ c.search-h.ensures c.if-h-gt0.true

pub overflow_sub-a-else-r-a : goal.overflow_sub-a-else-r-a
overflow_sub-a-else-r-a t c = omega (arith, moving _ _ _ _ _ c.requires (omega arith))

pub overflow_mul-w-else-r-a : goal.overflow_mul-w-else-r-a
overflow_mul-w-else-r-a t c = omega (arith, moving _ _ _ _ _ c.requires (omega arith))

pub search-h-requires-else-r-a : goal.search-h-requires-else-r-a
search-h-requires-else-r-a t c =
    let m = moving _ _ _ _ _ c.requires (omega arith) in
    (omega arith, record { small = omega arith; weight = m.inner_weight; step = omega arith; start = omega arith; some = omega arith; above = omega arith })

pub overflow_mul-result-then-h-gt0-2 : goal.overflow_mul-result-then-h-gt0-2
overflow_mul-result-then-h-gt0-2 t c = omega (arith, moving _ _ _ _ _ c.requires (omega arith), up-few _ _ _ _ _ c.requires (omega arith) (omega arith) _ _ _ c.search-h-else-r-a.ensures c.if-h-gt0-2.true)

pub overflow_add-result-then-h-gt0-2-3 : goal.overflow_add-result-then-h-gt0-2-3
overflow_add-result-then-h-gt0-2-3 t c = omega (arith, moving _ _ _ _ _ c.requires (omega arith), up-few _ _ _ _ _ c.requires (omega arith) (omega arith) _ _ _ c.search-h-else-r-a.ensures c.if-h-gt0-2.true)

pub overflow_sub-result-then-h-gt0-2 : goal.overflow_sub-result-then-h-gt0-2
overflow_sub-result-then-h-gt0-2 t c = omega (arith, moving _ _ _ _ _ c.requires (omega arith), up-few _ _ _ _ _ c.requires (omega arith) (omega arith) _ _ _ c.search-h-else-r-a.ensures c.if-h-gt0-2.true)

pub returns-then-h-gt0-2 : goal.returns-then-h-gt0-2
returns-then-h-gt0-2 t c = up-hit _ _ _ _ _ c.requires (omega arith) (omega arith) _ _ _ c.search-h-else-r-a.ensures c.if-h-gt0-2.true

pub returns-else-h-gt0 : goal.returns-else-h-gt0
returns-else-h-gt0 t c = mirrored_none _ _ _ _ _ c.requires (omega arith) (omega arith) _ _ _ c.search-h.ensures (omega arith)

pub returns-else-h-gt0-2 : goal.returns-else-h-gt0-2
returns-else-h-gt0-2 t c = up_none _ _ _ _ _ c.requires (omega arith) (omega arith) _ _ _ c.search-h-else-r-a.ensures (omega arith)
