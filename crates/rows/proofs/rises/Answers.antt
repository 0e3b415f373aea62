-- `rows::rises` meets its contract. Assumes nothing.
use mathlib.Core.Bool.{and-true}
use Rattle.rule.proofs.Facts.{positive}
use Rattle.rows.specs.Walked.{in_order}
use Rattle.rows.proofs.Walks.{all-pass-zero}
use Rattle.rows.proofs.rises.Goals as goal

pub returns-then-level-eq0 : goal.returns-then-level-eq0
returns-then-level-eq0 c =
    let a = c.args in
    rw (
      c.if-level-eq0.true,
      all-pass-zero a.settings (positive a.settings c.requires) a.row.now,
      and-true
          (in_order a.settings.n 0 a.row.now),
    ) c.in_order-ordered.ensures
