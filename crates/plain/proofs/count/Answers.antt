-- `plain::count` meets its contract. Assumes nothing.
use mathlib.Core.Path.{ap, ◌∙◌}
use mathlib.Core.List.{[], ◌∷◌}
use Prim.Native.Nat.{ℕ}
use native.Mathlib.Omega.{arith}
use Rattle.std.proofs.lemmas.Result.{err_from_is_err_and}
use Rattle.rule.specs.Refusals.{answered}
use Rattle.find.specs.Finding.{count_on}
use Rattle.find.proofs.Checks.{range_facts}
use Rattle.plain.specs.Plain.{plain_count_on}
use Rattle.plain.proofs.Calls.{plain_refused, plain_answered, plain_held}
use Rattle.plain.proofs.count.Goals as goal

pub returns-in_err-refusal : goal.returns-in_err-refusal
unfolding plain_count_on count_on
returns-in_err-refusal c =
    let p = err_from_is_err_and c.from_residual.result c.from_residual.ensures.1 in
    rw (p.1, p.2) (plain_refused c.in_range.ensures c.refusal.ensures _ c.in_err-refusal.was)

pub count_each-requires : goal.count_each-requires
count_each-requires c =
    let a = c.args in
    let held = plain_held c.in_range.ensures c.refusal.ensures c.in_ok-refusal.was in
    omega (arith, held.0, range_facts a.settings a.lo a.hi held.1)

pub returns : goal.returns
unfolding plain_count_on count_on
returns c =
    ap (λ (v : ℕ). answered (v ∷ [])) c.count_each.ensures ∙ plain_answered c.in_range.ensures c.refusal.ensures _ c.in_ok-refusal.was
