-- `line::put_line` meets its contract: three texts, one after the other. Assumes nothing.
use native.Mathlib.Omega.{arith}
use Rattle.lists.proofs.Stores.{stored_then}
use Rattle.line.proofs.Decimals.{decimal-length}
use Rattle.line.proofs.put_line.Goals as goal

pub put_bytes-requires : goal.put_bytes-requires
put_bytes-requires c =
    let number = c in
    omega (arith, decimal-length number.args.v)

pub returns : goal.returns
returns c =
    let last = c in
    let number = last in
    let head = number in
    stored_then head.put_bytes-a.ensures _ (stored_then number.put_number-b.ensures _ last.put_bytes.ensures (omega arith)) (omega arith)
