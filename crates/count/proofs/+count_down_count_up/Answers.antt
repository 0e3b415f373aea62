-- The proof of the cycle of calls {count_down, count_up}. Each one's measure is its difference d: each call is on modulus d, with a difference of at most
-- half of d.
-- Assumes nothing.
use mathlib.Core.Path.{sym, ap, subst, ◌∙◌}
use Prim.Native.Nat.{ℕ, ◌-◌, ◌/◌, ◌%◌, ◌≤◌}
use native.Mathlib.Nat.{mod-lt}
use native.Mathlib.Omega.{arith}
use Rattle.count.specs.Hits.{hits_up, hits_down}
use Rattle.count.proofs.Laws.{hits-none, hits_still, hits_still_down}
use Rattle.count.proofs.Steps.{Reached, Adds, reach_up, reach_down, passes, turned, turned_takes, smaller, low-none, low_down, low_up, counted}
use Rattle.count.proofs.+count_down_count_up.Goals as goal
use Rattle.count.proofs.+count_down_count_up.Goals.{count_down-then-k-c, count_down-else-k-c+then-c, count_down-else-k-c+else-c, count_up-then-k-c, count_up-else-k-c+then-c, count_up-else-k-c+else-c, count_down-After-cut-c, count_down-Joined-k-c, count_up-After-cut-c, count_up-Joined-k-c}

-- what `count_down` knows of the rounds, and what it adds up
count_down_reached : (t : ℕ) (c : count_down-After-cut-c t)
    → let a = c.args in let e = c.end-e.result in
    Reached a.m a.d (e % a.m) a.n a.l (a.n - 1 - e / a.m) a.u c.cut-c.result
count_down_reached t c =
    let a = c.args in
    let e = c.end-e.result in
    record {
      takes = turned_takes e c.requires;
      some = omega arith;
      moves = omega arith;
      inside = omega arith;
      ends = reach_down a.m a.d a.u a.n e (omega arith) (omega arith) c.end-e.ensures;
      rounds = c.cut-c.ensures;
    }

count_down_adds : (t : ℕ) (c : count_down-Joined-k-c t)
    → let a = c.args in
    Adds (hits_down a.m a.d a.u a.n a.l) c.cut-c.result c.if-k-c.low
count_down_adds t c =
    let r = count_down_reached t c.before.before in
    let a = c.args in
    let e = c.end-e in
    subst (λ (h : ℕ). Adds h c.cut-c.result c.if-k-c.low)
    (sym (turned a.m a.d a.u a.n a.l e.result (omega arith) (omega arith) e.ensures))
    (counted r _
    (elim c.if-k-c.branch [
      | count_down-then-k-c w ↦ low-none r _ w.if-k-c.true w.low-is
      | count_down-else-k-c+then-c w ↦ low_down r _ w.if-c.true (w.low-is ∙ w.count_down.ensures)
      | count_down-else-k-c+else-c w ↦ low_up r _ w.if-c.false (w.low-is ∙ w.count_up.ensures)
    ]))

pub count_down-overflow_sub-k-else-d-eq0 : goal.count_down-overflow_sub-k-else-d-eq0
count_down-overflow_sub-k-else-d-eq0 t c =
    let a = c.args in
    passes a.m (a.m - a.d) a.u a.n c.end-e.result (omega arith) (omega arith) c.end-e.ensures

pub count_down-count_down-requires : goal.count_down-count_down-requires
count_down-count_down-requires t c = smaller (count_down_reached t c.before.before.before) t (omega arith)

pub count_down-count_up-requires : goal.count_down-count_up-requires
count_down-count_up-requires t c = smaller (count_down_reached t c.before.before.before) t (omega arith)

pub count_down-overflow_add-result : goal.count_down-overflow_add-result
count_down-overflow_add-result t c = omega (arith, count_down_adds t c.before.before.before)

pub count_down-overflow_sub-result : goal.count_down-overflow_sub-result
count_down-overflow_sub-result t c = omega (arith, count_down_adds t c.before.before.before)

pub count_down-returns-then-n-eq0 : goal.count_down-returns-then-n-eq0
unfolding hits_down
count_down-returns-then-n-eq0 t c =
    let a = c.args in
    sym (hits-none a.m (a.m - a.d) a.u a.n a.l c.if-n-eq0.true)

pub count_down-returns-then-d-eq0 : goal.count_down-returns-then-d-eq0
count_down-returns-then-d-eq0 t c =
    let a = c.args in
    c.still.ensures ∙ sym (ap (λ (d : ℕ). hits_down a.m d a.u a.n a.l) c.if-d-eq0.true ∙ hits_still_down a.m a.u a.n a.l (omega arith))

pub count_down-returns-after-k-c : goal.count_down-returns-after-k-c
count_down-returns-after-k-c t c = omega (arith, count_down_adds t c.before.before.before)

-- what `count_up` knows of the rounds, and what it adds up
count_up_reached : (t : ℕ) (c : count_up-After-cut-c t)
    → let a = c.args in let e = c.end-e.result in
    Reached a.m a.d a.u a.n a.l (e / a.m) (e % a.m) c.cut-c.result
count_up_reached t c =
    let a = c.args in
    let e = c.end-e.result in
    record {
      takes = c.requires;
      some = omega arith;
      moves = omega arith;
      inside = mod-lt e (omega arith);
      ends = reach_up a.m a.d a.u a.n e c.end-e.ensures;
      rounds = c.cut-c.ensures;
    }

count_up_adds : (t : ℕ) (c : count_up-Joined-k-c t)
    → let a = c.args in
    Adds (hits_up a.m a.d a.u a.n a.l) c.cut-c.result c.if-k-c.low
count_up_adds t c =
    let r = count_up_reached t c.before.before in
    counted r _
    (elim c.if-k-c.branch [
      | count_up-then-k-c w ↦ low-none r _ w.if-k-c.true w.low-is
      | count_up-else-k-c+then-c w ↦ low_down r _ w.if-c.true (w.low-is ∙ w.count_down.ensures)
      | count_up-else-k-c+else-c w ↦ low_up r _ w.if-c.false (w.low-is ∙ w.count_up.ensures)
    ])

pub count_up-cut-c-requires : goal.count_up-cut-c-requires
count_up-cut-c-requires t c =
    let a = c.args in
    let r : c.end-e.result / a.m ≤ a.n - 1 = passes a.m a.d a.u a.n c.end-e.result (omega arith) (omega arith) c.end-e.ensures in
    omega (arith, mod-lt c.end-e.result {m = a.m} (omega arith))

pub count_up-count_down-requires : goal.count_up-count_down-requires
count_up-count_down-requires t c = smaller (count_up_reached t c.before.before.before) t (omega arith)

pub count_up-count_up-requires : goal.count_up-count_up-requires
count_up-count_up-requires t c = smaller (count_up_reached t c.before.before.before) t (omega arith)

pub count_up-overflow_add-result : goal.count_up-overflow_add-result
count_up-overflow_add-result t c = omega (arith, count_up_adds t c.before.before.before)

pub count_up-overflow_sub-result : goal.count_up-overflow_sub-result
count_up-overflow_sub-result t c = omega (arith, count_up_adds t c.before.before.before)

pub count_up-returns-then-n-eq0 : goal.count_up-returns-then-n-eq0
count_up-returns-then-n-eq0 t c =
    let a = c.args in
    sym (hits-none a.m a.d a.u a.n a.l c.if-n-eq0.true)

pub count_up-returns-then-d-eq0 : goal.count_up-returns-then-d-eq0
count_up-returns-then-d-eq0 t c =
    let a = c.args in
    c.still.ensures ∙ sym (ap (λ (d : ℕ). hits_up a.m d a.u a.n a.l) c.if-d-eq0.true ∙ hits_still a.m a.u a.n a.l (omega arith))

pub count_up-returns-after-k-c : goal.count_up-returns-after-k-c
count_up-returns-after-k-c t c = omega (arith, count_up_adds t c.before.before.before)
