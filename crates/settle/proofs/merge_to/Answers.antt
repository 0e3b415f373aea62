-- `settle::merge_to` meets its contract. Assumes nothing.
use mathlib.Core.Path.{sym}
use lib.Seq.{length-take-le}
use Rattle.lists.specs.Lists.{listed}
use Rattle.settle.specs.Settling.{kept_in}
use Rattle.settle.proofs.Unions.{keeps_higher, keeps_lower}
use Rattle.settle.proofs.merge_to.Goals as goal

pub slice_bounds-merge_down-end : goal.slice_bounds-merge_down-end
slice_bounds-merge_down-end c = sym (length-take-le _ _ c.requires.1.within)

pub slice_bounds-merge_down-end-then-mine-its : goal.slice_bounds-merge_down-end-then-mine-its
slice_bounds-merge_down-end-then-mine-its c = sym (length-take-le _ _ c.requires.0.within)

pub returns-then-mine-its : goal.returns-then-mine-its
returns-then-mine-its c =
    keeps_higher (listed (kept_in c.args.mine c.args.row.now)) (listed (kept_in c.args.its c.args.other.now)) c.if-mine-its.true c.merge_down.ensures

pub slice_bounds-merge_down-end-2 : goal.slice_bounds-merge_down-end-2
slice_bounds-merge_down-end-2 c = sym (length-take-le _ _ c.requires.0.within)

pub slice_bounds-merge_down-end-3 : goal.slice_bounds-merge_down-end-3
slice_bounds-merge_down-end-3 c = sym (length-take-le _ _ c.requires.1.within)

pub returns : goal.returns
returns c =
    keeps_lower (listed (kept_in c.args.mine c.args.row.now)) (listed (kept_in c.args.its c.args.other.now)) c.if-mine-its.false c.merge_down-2.ensures
