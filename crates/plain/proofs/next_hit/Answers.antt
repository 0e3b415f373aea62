-- `plain::next_hit` meets its contract. Assumes nothing.
use mathlib.Core.Path.{ap, ◌∙◌}
use Prim.Native.Nat.{ℕ}
use Rattle.std.specs.Prelude.{Option}
use Rattle.std.proofs.lemmas.Result.{err_from_is_err_and}
use Rattle.rule.specs.Refusals.{answered, hits}
use Rattle.find.specs.Finding.{next_on}
use Rattle.plain.specs.Plain.{plain_next_on}
use Rattle.plain.proofs.Calls.{plain_refused, plain_answered, cell_range}
use Rattle.plain.proofs.next_hit.Goals as goal

pub returns-in_err-refusal : goal.returns-in_err-refusal
unfolding plain_next_on next_on
returns-in_err-refusal c =
    let p = err_from_is_err_and c.from_residual.result c.from_residual.ensures.1 in
    rw (p.1, p.2) (plain_refused (c.in_range.ensures ∙ cell_range c.args.settings c.args.from) c.refusal.ensures _ c.in_err-refusal.was)

pub returns : goal.returns
unfolding plain_next_on next_on
returns c =
    ap (λ (o : Option ℕ). answered (hits o)) c.first_of.ensures ∙ plain_answered (c.in_range.ensures ∙ cell_range c.args.settings c.args.from) c.refusal.ensures _ c.in_ok-refusal.was
