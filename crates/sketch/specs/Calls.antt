-- What opening, adding and merging answer and hand back. Assumes nothing: these are definitions.
use Rattle.std.specs.Prelude.{ℕ, ◌≡◌, Bool, ◌&&◌, [], eqb, Ok, Err}
use Rattle.rule.specs.declared.Settings.{Settings}
use Rattle.rule.specs.declared.refusals.Refusal.{Refusal}
use Rattle.rule.specs.Rule.{is_good, no_settings}
use Rattle.rule.specs.Refusals.{Paper, answered, refused, unless, bad_settings, bad_range, not_one, unequal, of_answer}
use Rattle.find.specs.Finding.{in_range}
use Rattle.sketch.specs.declared.Sketch.{Sketch}
use Rattle.sketch.specs.declared.Changed.{Changed}
use Rattle.sketch.specs.Sketches.{sketch_at, is_sketch}

-- the sketch of all zeros
abbrev pub no_sketch : Sketch
no_sketch = sketch_at no_settings 0 []

unfoldable pub open_on : Settings → Paper
open_on s = unless (is_good s) bad_settings (answered [])

-- adding to what is known to be a sketch, or not: 4, then 2
abbrev pub add_when : Bool → Settings → ℕ → ℕ → Paper
add_when known s lo hi = unless known not_one (unless (in_range s lo hi) bad_range (answered []))

unfoldable pub add_on : Sketch → ℕ → ℕ → Paper
add_on k lo hi = add_when (is_sketch k) k.settings lo hi

-- all five settings are equal
abbrev pub same_settings : Settings → Settings → Bool
same_settings s t = eqb s.n t.n && (eqb s.p t.p && (eqb s.a t.a && (eqb s.b t.b && eqb s.capacity t.capacity)))

-- merging two that are known to be sketches, or not: 4 for either, then 5
abbrev pub merge_when : Bool → Settings → Bool → Settings → Paper
merge_when mine s its t = unless mine not_one (unless its not_one (unless (same_settings s t) unequal (answered [])))

unfoldable pub merge_on : Sketch → Sketch → Paper
merge_on j k = merge_when (is_sketch j) j.settings (is_sketch k) k.settings

-- an answer with the sketch beside it
abbrev pub done_with : {E : Type 0} → Sketch → Changed E
done_with k = record { answer = Ok record {}; sketch = k }

abbrev pub refused_with : {E : Type 0} → E → Sketch → Changed E
refused_with error k = record { answer = Err error; sketch = k }

-- the sketch handed back: the next one, or the old one with a refusal
abbrev pub handed : Paper → Sketch → Sketch → Sketch
handed (answered values) next old = next
handed (refused number place) next old = old

-- what a call that changes a sketch promises
pub record Hands (paper : Paper) (next old : Sketch) (r : Changed Refusal) : Type 0 where
  pub answer : of_answer r.answer ≡ paper
  pub sketch : r.sketch ≡ handed paper next old
