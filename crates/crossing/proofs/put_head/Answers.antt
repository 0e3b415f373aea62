-- `crossing::put_head` meets its contract. Assumes nothing.
use Rattle.crossing.proofs.Crossings.{head_stored}
use Rattle.crossing.proofs.put_head.Goals as goal

pub returns : goal.returns
returns c = let a = c.args in head_stored a.row.now a.s a.level a.count c.told-row
