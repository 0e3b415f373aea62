-- `demands::engines::counts` meets its contract: the two engines' promises allow one outcome. Assumes nothing.
use Rattle.plain.proofs.Same.{count_same}
use Rattle.demands.proofs.engines.counts.Goals as goal

pub returns : goal.returns
returns c =
    let a = c.args in
    let first = c.count.ensures in
    let plain = c.count-2.ensures in
    (first, plain, λ h. count_same a.s a.level a.lo a.hi h _ _ plain first)
