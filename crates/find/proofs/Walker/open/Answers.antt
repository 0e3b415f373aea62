-- `find::Walker::open` meets its contract. Assumes nothing.
use Rattle.find.specs.Walking.{start_on}
use Rattle.find.proofs.Checks.{refused-so, answered-so}
use Rattle.find.proofs.Walks.{starts_refused, starts_done}
use Rattle.find.proofs.Walker.open.Goals as goal

pub returns-in-Err : goal.returns-in-Err
unfolding start_on
returns-in-Err c = starts_refused _ _ _ _ _ _ c.not_started.ensures (refused-so c.in_range.ensures c.first_refusal.ensures _ c.in-Err.is)

pub returns : goal.returns
unfolding start_on
returns c = starts_done _ _ _ _ (answered-so c.in_range.ensures c.first_refusal.ensures _ c.in_default.is)
