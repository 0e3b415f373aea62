-- Two outcomes that one promise allows coincide. Of adding that is `hands_tight` of sketch/proofs/Results.antt, for every paper; of a promise that
-- is an equation `equation_tight` of rule/proofs/Readings.antt.
--     plain_count_tight, plain_next_tight, plain_answer_tight    `count`, `next_hit`, `add_answer`
-- Assumes nothing.
use mathlib.Core.Path.{◌≡◌, sym, ◌∙◌}
use mathlib.Core.Bool.{Bool}
use Prim.Native.Nat.{ℕ}
use Rattle.rule.specs.declared.Settings.{Settings}
use Rattle.std.specs.Prelude.{Option, Result}
use Rattle.rule.specs.declared.refusals.Refusal.{Refusal}
use Rattle.rule.specs.Refusals.{of_answer, of_counted, of_found}
use Rattle.rule.proofs.Readings.{answer-one, counted-one, found-one}
use Rattle.plain.specs.Plain.{plain_count_on, plain_next_on, plain_add_when}

pub plain_count_tight : (s : Settings) (level lo hi : ℕ) (x y : Result ℕ Refusal) → of_counted x ≡ plain_count_on s level lo hi → of_counted y ≡ plain_count_on s level lo hi
    → x ≡ y
plain_count_tight s level lo hi x y e f = counted-one x y (e ∙ sym f)

pub plain_next_tight : (s : Settings) (level from : ℕ) (x y : Result (Option ℕ) Refusal) → of_found x ≡ plain_next_on s level from → of_found y ≡ plain_next_on s level from → x ≡ y
plain_next_tight s level from x y e f = found-one x y (e ∙ sym f)

pub plain_answer_tight : (known : Bool) (s : Settings) (lo hi : ℕ) (x y : Result (Unit {0}) Refusal) → of_answer x ≡ plain_add_when known s lo hi
    → of_answer y ≡ plain_add_when known s lo hi → x ≡ y
plain_answer_tight known s lo hi x y e f = answer-one x y (e ∙ sym f)
