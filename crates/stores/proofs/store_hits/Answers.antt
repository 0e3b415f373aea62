-- `stores::store_hits` meets its contract. Assumes nothing.
use mathlib.Core.Path.{sym, ◌∙◌}
use native.Mathlib.Omega.{arith}
use Rattle.rule.proofs.NextHits.{next_some}
use Rattle.find.proofs.Counting.{count_none}
use Rattle.stores.proofs.Hitting.{hits-none, hits-one, hits_from}
use Rattle.stores.proofs.store_hits.Goals as goal

pub returns-then-many-eq0 : goal.returns-then-many-eq0
returns-then-many-eq0 c = hits-none _ _ _ _ (count_none _ _ _ _ (sym c.requires.1 ∙ c.if-many-eq0.true)) _ _

pub returns-then-many-eq1 : goal.returns-then-many-eq1
returns-then-many-eq1 c =
    hits-one _ _ _ _ _ (sym c.first_in.ensures ∙ c.in-Some.is) (sym c.requires.1 ∙ c.if-many-eq1.true) _ _ (omega arith)

pub store_along-requires : goal.store_along-requires
store_along-requires c =
    let e = sym c.first_in.ensures ∙ c.in-Some.is in
    let h = next_some _ _ _ _ _ e in
    let w = c.requires.0 in (
      record { good = w.good; low = omega (arith, w.low, h.0); start = omega (arith, h.1); last = w.last },
      h.1,
      h.2,
      omega (arith, c.requires.1, c.requires.2, (hits_from _ _ _ _ _ e).1),
    )

pub returns-else-many-eq1 : goal.returns-else-many-eq1
returns-else-many-eq1 c = rw (hits_from _ _ _ _ _ (sym c.first_in.ensures ∙ c.in-Some.is)).0 at c.store_along.ensures

pub returns-in-None : goal.returns-in-None
returns-in-None c = hits-none _ _ _ _ (sym c.first_in.ensures ∙ c.in-None.is) _ _
