-- What a call on a lent walker promises. Assumes nothing: these are definitions.
use Rattle.std.specs.Prelude.{ℕ, ◌≡◌, Option, Result}
use Rattle.rule.specs.declared.refusals.Refusal.{Refusal}
use Rattle.rule.specs.Refusals.{of_found}
use Rattle.find.specs.declared.Walker.{Walker}
use Rattle.find.specs.Walking.{step_on, after_step}

-- the answer r, told by the walker as it came, and the walker as it is left (RULES: Walker)
pub record Lends (before : Walker) (r : Result (Option ℕ) Refusal) (after : Walker) : Type 0 where
  pub answer : of_found r ≡ step_on before
  pub walker : after ≡ after_step before
