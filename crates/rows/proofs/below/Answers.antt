-- `rows::below` meets its contract. Assumes nothing.
use Rattle.std.proofs.Common.{rules, of_calls}
use Rattle.std.proofs.lemmas.List.Sorted.{IsNonDecreasingBy-from_default, IsPartitionedBy-ltb, IsPartitionPoint-from_clause}
use Rattle.rows.specs.Walked.{cells_below}
use Rattle.rows.proofs.Walks.{parted}
use Rattle.rows.proofs.below.Goals as goal

pub returns : goal.returns
returns c =
    let row = c.args.row.now in
    let x = c.args.x in
    parted (cells_below x) row _ c.partition_point.ensures.bound
    (IsPartitionPoint-from_clause (cells_below x) row _ c.partition_point.ensures.partitioned
    (IsPartitionedBy-ltb (λ y. y) row x (IsNonDecreasingBy-from_default (λ y. y) row 0 c.requires))
    (λ a r f k. search (rules, of_calls)))
