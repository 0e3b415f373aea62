-- `find::count` meets its contract. Assumes nothing.
use mathlib.Core.Path.{ap, ◌∙◌}
use mathlib.Core.List.{[], ◌∷◌}
use Prim.Native.Nat.{ℕ}
use Rattle.std.proofs.lemmas.Result.{err_from_is_err_and}
use Rattle.rule.specs.Refusals.{answered}
use Rattle.find.specs.Finding.{count_on}
use Rattle.find.proofs.Checks.{refused-so, answered-so, all_held, within-range}
use Rattle.find.proofs.count.Goals as goal

pub returns-in_err-first_refusal : goal.returns-in_err-first_refusal
unfolding count_on
returns-in_err-first_refusal c =
    let p = err_from_is_err_and c.from_residual.result c.from_residual.ensures.1 in
    rw (p.1, p.2) (refused-so c.in_range.ensures c.first_refusal.ensures _ c.in_err-first_refusal.was)

pub count_in-requires : goal.count_in-requires
count_in-requires c =
    let held = all_held c.in_range.ensures c.first_refusal.ensures c.in_ok-first_refusal.was in
    within-range _ _ _ held.0 held.1

pub returns : goal.returns
unfolding count_on
returns c =
    ap (λ (v : ℕ). answered (v ∷ [])) c.count_in.ensures
    ∙ answered-so c.in_range.ensures c.first_refusal.ensures _ c.in_ok-first_refusal.was
