-- `find::next_hit` meets its contract. Assumes nothing.
use mathlib.Core.Path.{ap, ◌∙◌}
use Prim.Native.Nat.{ℕ}
use Rattle.std.specs.Prelude.{Option}
use Rattle.std.proofs.lemmas.Result.{err_from_is_err_and}
use Rattle.rule.specs.Refusals.{answered, hits}
use Rattle.find.specs.Finding.{next_on}
use Rattle.find.proofs.Checks.{refused-so, answered-so, all_held, within_cell}
use Rattle.find.proofs.next_hit.Goals as goal

pub returns-in_err-first_refusal : goal.returns-in_err-first_refusal
unfolding next_on
returns-in_err-first_refusal c =
    let p = err_from_is_err_and c.from_residual.result c.from_residual.ensures.1 in
    rw (p.1, p.2) (refused-so c.is_cell.ensures c.first_refusal.ensures _ c.in_err-first_refusal.was)

pub first_in-requires : goal.first_in-requires
first_in-requires c =
    let held = all_held c.is_cell.ensures c.first_refusal.ensures c.in_ok-first_refusal.was in
    within_cell _ _ held.0 held.1

pub returns : goal.returns
unfolding next_on
returns c =
    ap (λ (o : Option ℕ). answered (hits o)) c.first_in.ensures
    ∙ answered-so c.is_cell.ensures c.first_refusal.ensures _ c.in_ok-first_refusal.was
