-- `layout::cells::copy_cells` meets its contract: after j turns the first j cells are copied. Assumes nothing.
use mathlib.Core.Path.{◌≡◌, refl, sym, ap, ◌∙◌}
use native.Mathlib.Omega.{arith}
use lib.ListN.{length, drop, length-set}
use lib.Seq.{take_all}
use Rattle.layout.specs.Images.{numbers_in}
use Rattle.layout.proofs.Turns.{copy_more}
use Rattle.layout.proofs.cells.copy_cells.Goals as goal

pub loop-j-init : goal.loop-j-init
unfolding numbers_in
loop-j-init c = (refl, refl)

pub loop-j-preserved : goal.loop-j-preserved
loop-j-preserved c =
    let l = c.loop-j in
    (length-set l.row l.j c.number_at.result ∙ l.invariant.0, copy_more l.row c.args.s.now l.j _ (omega arith) c.number_at.ensures.0 l.invariant.1)

pub returns : goal.returns
returns c =
    let l = c.loop-j in
    let a = c.args in
    let e : l.j ≡ length a.row.now = omega arith in
    sym (take_all l.j l.row (omega arith)) ∙ l.invariant.1 ∙ ap (λ n. numbers_in n (drop 4 a.s.now)) e
