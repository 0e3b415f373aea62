-- `demands::engines::finds` meets its contract: the two engines' promises allow one outcome. Assumes nothing.
use Rattle.plain.proofs.Same.{next_same}
use Rattle.demands.proofs.engines.finds.Goals as goal

pub returns : goal.returns
returns c =
    let a = c.args in
    let first = c.next_hit.ensures in
    let plain = c.next_hit-2.ensures in
    (first, plain, λ h. next_same a.s a.level a.from h _ _ plain first)
