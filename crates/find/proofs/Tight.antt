-- Two outcomes that one promise allows coincide. Of a promise that is an equation, as those of `in_range`, `is_cell`, `Walker::good`
-- and `count_in` are, that is `equation_tight` of rule/proofs/Readings.antt.
--     count_tight, next_tight, open_tight, step_tight, first_tight    `count`, `next_hit`, `Walker::open`, `Walker::step`, `first_in`
-- Assumes nothing.
use mathlib.Core.Path.{◌≡◌, sym, ap, ◌∙◌}
use Prim.Native.Nat.{ℕ}
use Rattle.rule.specs.declared.Settings.{Settings}
use Rattle.rule.specs.declared.refusals.Refusal.{Refusal}
use Rattle.std.specs.Prelude.{Option, Result}
use Rattle.rule.specs.Samples.{next_hit}
use Rattle.rule.specs.Refusals.{of_counted, of_found}
use Rattle.rule.proofs.Readings.{answer-one, counted-one, found-one}
use Rattle.find.specs.declared.Walker.{Walker}
use Rattle.find.specs.declared.Started.{Started}
use Rattle.find.specs.declared.Stepped.{Stepped}
use Rattle.find.specs.Finding.{count_on, next_on}
use Rattle.find.specs.Walking.{Starts, Steps}

pub count_tight : (s : Settings) (level lo hi : ℕ) (x y : Result ℕ Refusal) → of_counted x ≡ count_on s level lo hi → of_counted y ≡ count_on s level lo hi → x ≡ y
count_tight s level lo hi x y e f = counted-one x y (e ∙ sym f)

pub next_tight : (s : Settings) (level from : ℕ) (x y : Result (Option ℕ) Refusal) → of_found x ≡ next_on s level from → of_found y ≡ next_on s level from → x ≡ y
next_tight s level from x y e f = found-one x y (e ∙ sym f)

pub first_tight : (s : Settings) (level lo hi : ℕ) (x y : Option ℕ) → x ≡ next_hit s level lo hi → y ≡ next_hit s level lo hi → x ≡ y
first_tight s level lo hi x y e f = e ∙ sym f

pub open_tight : (s : Settings) (level lo hi : ℕ) (x y : Started) → Starts s level lo hi x → Starts s level lo hi y → x ≡ y
open_tight s level lo hi x y e f =
    ap (λ (a : Result (Unit {0}) Refusal). record { answer = a; walker = x.walker }) (answer-one x.answer y.answer (e.answer ∙ sym f.answer))
    ∙ ap (λ (w : Walker). record { answer = y.answer; walker = w }) (e.walker ∙ sym f.walker)

pub step_tight : (w : Walker) (x y : Stepped) → Steps w x → Steps w y → x ≡ y
step_tight w x y e f =
    ap (λ (a : Result (Option ℕ) Refusal). record { found = a; walker = x.walker }) (found-one x.found y.found (e.answer ∙ sym f.answer))
    ∙ ap (λ (v : Walker). record { found = y.found; walker = v }) (e.walker ∙ sym f.walker)
