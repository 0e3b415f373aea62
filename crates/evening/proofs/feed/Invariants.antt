-- `evening::feed` meets its contract: a turn is a byte of the run. Assumes nothing.
use mathlib.Core.Path.{◌≡◌}
use lib.ListN.{length}
use Rattle.evening.specs.declared.Evening.{Evening}
use Rattle.evening.proofs.Feeding.{Feeding}
use Rattle.evening.proofs.feed.Given as goal

abbrev pub invariant-loop-x : goal.invariant-loop-x
invariant-loop-x l =
    let s₀ : Evening = record { pot = l.initial.pot; length = l.initial.length; line = l.initial.line } in
    let s : Evening = record { pot = l.pot; length = l.length; line = l.line } in
    Feeding s₀ l.input l.initial.out s l.x-index l.out l.written × (l.taken ≡ l.x-index) × (length l.line ≡ 65)
