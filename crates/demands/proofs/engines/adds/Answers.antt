-- `demands::engines::adds` meets its contract: the two engines' promises allow one outcome. Assumes nothing.
use Rattle.plain.proofs.Same.{add_same}
use Rattle.demands.proofs.engines.adds.Goals as goal

pub returns : goal.returns
returns c =
    let a = c.args in
    let first = c.add.ensures in
    let plain = c.add-2.ensures in
    (first, plain, λ h. add_same a.k a.lo a.hi h _ _ plain first)
