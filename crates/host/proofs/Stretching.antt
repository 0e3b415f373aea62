-- The laws of a row of stretches on the sketch lent.
--     Ran: ran_first, ran_takes, ran_on, ran_end     the run of adds on its numbers, turn by turn
--     row-takes     where the answer is done, the run of adds may begin
--     row-refused, row_done     what comes back, by the answer
-- Assumes nothing.
use Prim.Native.Nat.{ℕ, ◌+◌, ◌<◌, ◌≤◌}
use mathlib.Core.Path.{◌≡◌, refl, sym, ap, ◌∙◌}
use mathlib.Core.Bool.{Bool, true, false, false≢true}
use mathlib.Core.List.{List, []}
use lib.ListN.{length, get_or}
use Rattle.std.specs.Prelude.{Result, Ok, Err, is_err}
use Rattle.rule.specs.declared.Settings.{Settings}
use Rattle.rule.specs.declared.refusals.RowError.{RowError}
use Rattle.rule.specs.Refusals.{Paper, answered, of_row}
use Rattle.sketch.specs.declared.Sketch.{Sketch}
use Rattle.sketch.specs.Sketches.{is_sketch, add}
use Rattle.sketch.specs.Calls.{handed}
use Rattle.row.specs.declared.Stretch.{Stretch}
use Rattle.row.specs.Stretches.{add_all, AddsAll, row_when, row_on}
use Rattle.row.proofs.Places.{none}
use Rattle.row.proofs.Runs.{AddsOne, Added, takes_next, one_more, no_more_left}
use Rattle.row.proofs.Rows.{row_known, takes_all}
use Rattle.crossing.specs.Crossing.{settings_from, sketch_row, sketch_in, Crosses}
use Rattle.host.specs.Promises.{AddsRow}
use Rattle.crossing.proofs.Crossings.{sketch_again, row_again, settings-of_row}
use Rattle.host.proofs.Outcomes.{told}

-- what an answer says of a row, and what it hands back
done : (a : Result (Unit {0}) RowError) → is_err a ≡ false → of_row a ≡ answered []
done (Ok u) e = refl
done (Err x) e = absurd (false≢true (sym e))

back : (a : Result (Unit {0}) RowError) (next old : Sketch) → is_err a ≡ true → handed (of_row a) next old ≡ old
back (Ok u) next old e = absurd (false≢true e)
back (Err x) next old e = refl

-- h are the numbers as they came, and c those that the run has made before element i
module _ (h : List ℕ) (ts : List Stretch) where
  abbrev pub Ran : ℕ → List ℕ → Type 0
  Ran i c = Added (sketch_in h) ts i (sketch_in c)

  pub ran_first : AddsAll (sketch_in h) ts → Ran 0 h
  ran_first w = (w, refl)

  module _ (i : ℕ) (l : i < length ts) (c : List ℕ) (r : Ran i c) where
    pub ran_takes : AddsOne (sketch_in c) (get_or ts i none)
    ran_takes = takes_next (sketch_in h) ts i l (sketch_in c) r

    pub ran_on : (d : List ℕ) → d ≡ sketch_row (add (sketch_in c) (get_or ts i none).lo (get_or ts i none).hi) → Ran (i + 1) d
    ran_on d e = one_more (sketch_in h) ts i l (sketch_in c) r (sketch_in d) (ap sketch_in e ∙ sketch_again _)

  pub ran_end : (i : ℕ) (c : List ℕ) → Ran i c → length c ≡ 511 → length ts ≤ i → c ≡ sketch_row (add_all (sketch_in h) ts)
  ran_end i c r len l = sym (row_again c len) ∙ ap sketch_row (no_more_left (sketch_in h) ts i (sketch_in c) r l)

-- a is the answer to the numbers lent, by their settings and their test
module _ (h : List ℕ) (ts : List Stretch) {known : Bool} {s : Settings} (k : known ≡ is_sketch (sketch_in h)) (e : s ≡ settings_from h)
    (a : Result (Unit {0}) RowError) (f : of_row a ≡ row_when known s ts) where
  abbrev next : Sketch
  next = add_all (sketch_in h) ts

  abbrev old : Sketch
  old = sketch_in h

  said : of_row a ≡ row_when known (sketch_in h).settings ts
  said = f ∙ ap (λ (t : Settings). row_when known t ts) (e ∙ sym (settings-of_row h))

  is_row : of_row a ≡ row_on (sketch_in h) ts
  is_row = row_known (sketch_in h) ts k said

  pub row-takes : is_err a ≡ false → AddsAll (sketch_in h) ts
  row-takes d = takes_all (sketch_in h) ts k (sym (done a d) ∙ said)

  pub row-refused : is_err a ≡ true → length h ≡ 511 → {number place : ℕ} → Crosses (of_row a) number place → AddsRow h ts number place h
  row-refused d len c =
      record {
        told = told c is_row;
        row = sym (row_again h len) ∙ ap sketch_row (sym (back a next old d) ∙ ap (λ (p : Paper). handed p next old) is_row);
      }

  pub row_done : is_err a ≡ false → (after : List ℕ) → after ≡ sketch_row (add_all (sketch_in h) ts) → {number place : ℕ} → Crosses (of_row a) number place
      → AddsRow h ts number place after
  row_done d after q c =
      record { told = told c is_row; row = q ∙ ap sketch_row (ap (λ (p : Paper). handed p next old) (sym (done a d) ∙ is_row)) }
