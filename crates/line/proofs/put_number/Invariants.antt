-- `line::put_number` meets its contract: with the digits that are left, the whole number is stored. Assumes nothing.
use Prim.Native.Nat.{◌≤◌, ◌+◌, ◌-◌}
use mathlib.Core.Path.{◌≡◌}
use Rattle.lists.specs.Rows.{placed}
use Rattle.line.specs.Texts.{decimal}
use Rattle.line.proofs.Decimals.{last_digits}
use Rattle.line.proofs.put_number.Given as goal

abbrev pub invariant-loop-i : goal.invariant-loop-i
invariant-loop-i l =
    (l.at ≤ l.i) × (l.i ≤ l.at + 20) × (placed l.out l.at (last_digits (l.i - l.at) l.y) ≡ placed l.initial.out l.at (decimal l.x))
