-- The laws of the call: its answers, and what is handed back.
--     row-not, row_bad, row_in, row_told      the answers
--     row_first       an accepted row is its first stretch, accepted, and then the rest, accepted
--     row_known, takes_all     the answer found is the row's, and where it is done the run of adds may begin
--     row_done, row_refused    what is handed back, by the answer
--     row_tight       two outcomes that the promise allows coincide
-- Assumes nothing.
use mathlib.Core.Path.{◌≡◌, sym, ap, ◌∙◌}
use mathlib.Core.Bool.{Bool, true, false}
use mathlib.Core.List.{List, [], ◌∷◌}
use Rattle.rule.specs.declared.Settings.{Settings}
use Rattle.std.specs.Prelude.{Result, Ok, Err}
use Rattle.rule.specs.Refusals.{Paper, answered, refused, unless_at, bad_range, not_one, of_row}
use Rattle.rule.proofs.Readings.{row_one}
use Rattle.find.proofs.Checks.{and_parts, at_told, unless-told}
use Rattle.sketch.specs.declared.Sketch.{Sketch}
use Rattle.sketch.specs.declared.Changed.{Changed}
use Rattle.sketch.specs.Sketches.{is_sketch, add}
use Rattle.sketch.specs.Calls.{add_on, done_with, refused_with}
use Rattle.sketch.proofs.Facts.{sketch_facts}
use Rattle.sketch.proofs.Handing.{add_in}
use Rattle.sketch.proofs.Results.{add_again}
use Rattle.row.specs.declared.Stretch.{Stretch}
use Rattle.rule.specs.declared.refusals.RowError.{RowError}
use Rattle.row.specs.Stretches.{within, all_in, first_bad, AddsAll, row_when, row_on, HandsRow}
use Rattle.row.proofs.Runs.{add-settings}

-- ---- the answers
module _ (k : Sketch) (ts : List Stretch) where
  pub row-not : is_sketch k ≡ false → row_on k ts ≡ refused not_one 0
  unfolding row_on
  row-not e = rw e

  pub row_bad : is_sketch k ≡ true → all_in k.settings ts ≡ false → row_on k ts ≡ refused bad_range (first_bad k.settings ts)
  unfolding row_on
  row_bad e f = rw (e, f)

  pub row_in : is_sketch k ≡ true → all_in k.settings ts ≡ true → row_on k ts ≡ answered []
  unfolding row_on
  row_in e f = rw (e, f)

  -- an answer says that the tests held
  pub row_told : row_on k ts ≡ answered [] → (is_sketch k ≡ true) × (all_in k.settings ts ≡ true)
  unfolding row_on
  row_told e =
      let fine = all_in k.settings ts in
      let place = first_bad k.settings ts in
      let one = unless-told (is_sketch k) not_one (unless_at fine bad_range place (answered [])) [] e in
      (one.0, (at_told fine bad_range place (answered []) [] one.1).0)

-- an accepted row counts as its adds: the first is accepted, and the others are an accepted row after it
pub row_first : (k : Sketch) (t : Stretch) (ts : List Stretch) → row_on k (t ∷ ts) ≡ answered []
    → (add_on k t.lo t.hi ≡ answered []) × (row_on (add k t.lo t.hi) ts ≡ answered [])
row_first k t ts e =
    let h = row_told k (t ∷ ts) e in
    let w = and_parts (within k.settings t) (all_in k.settings ts) h.1 in (
      add_in k t.lo t.hi h.0 w.0,
      row_in (add k t.lo t.hi) ts (add_again k t.lo t.hi h.0) (ap (λ (s : Settings). all_in s ts) (add-settings k t.lo t.hi) ∙ w.1),
    )

-- ---- the call
-- the answer where it is known of a sketch that it is one
pub row_known : {known : Bool} {p : Paper} (k : Sketch) (ts : List Stretch) → known ≡ is_sketch k → p ≡ row_when known k.settings ts → p ≡ row_on k ts
unfolding row_on
row_known k ts e q = q ∙ ap (λ (t : Bool). row_when t k.settings ts) e

-- where nothing refuses it, the run of adds may begin
pub takes_all : {known : Bool} (k : Sketch) (ts : List Stretch) → known ≡ is_sketch k → answered [] ≡ row_when known k.settings ts → AddsAll k ts
takes_all k ts e q =
    let h = row_told k ts (sym (row_known k ts e q)) in
    record { sound = sketch_facts k h.0; good = h.1 }

module _ (paper : Paper) (next old : Sketch) (r : Changed RowError) where
  pub row_done : paper ≡ answered [] → r ≡ done_with next → HandsRow paper next old r
  row_done e k = record { answer = cc; sketch = cc }

  pub row_refused : (error : RowError) → paper ≡ of_row (Err error) → r ≡ refused_with error old → HandsRow paper next old r
  row_refused error e k = record { answer = cc; sketch = cc }

-- two outcomes that the promise allows coincide
pub row_tight : (paper : Paper) (next old : Sketch) (x y : Changed RowError) → HandsRow paper next old x → HandsRow paper next old y → x ≡ y
row_tight paper next old x y e f =
    let beside : Result (Unit {0}) RowError → Sketch → Changed RowError = λ a k. record { answer = a; sketch = k } in
    ap (λ a. beside a x.sketch) (row_one x.answer y.answer (e.answer ∙ sym f.answer)) ∙ ap (beside y.answer) (e.sketch ∙ sym f.sketch)
