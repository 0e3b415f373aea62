-- `line::put_kept` meets its contract: three texts, one after the other. Assumes nothing.
use mathlib.Core.Path.{ap}
use native.Mathlib.Omega.{arith}
use lib.ListN.{length}
use Rattle.lists.proofs.Stores.{stored_then}
use Rattle.line.specs.Texts.{decimal}
use Rattle.line.proofs.Decimals.{decimal_ten}
use borrow.Author.Rules.{rules}
use Rattle.line.proofs.put_kept.Goals as goal

pub put_line-requires : goal.put_line-requires
put_line-requires c = omega (arith, ap (λ x. length (decimal x)) c.from.ensures, decimal_ten c.args.level (search rules))

pub returns : goal.returns
returns c =
    rw (← c.from.ensures, ← c.from-2.ensures)
    (stored_then c.put_bytes-a.ensures _ (stored_then c.put_number-b.ensures _ c.put_line.ensures (omega arith)) (omega arith))
