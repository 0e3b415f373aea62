-- The laws of what comes back.
--     told, carried, given, begun    an inner call's promise gives the boundary's: a number with a value, with a sketch's row, with a walker's
--     gives_refused, gives_done    adding and merging, by their answer
--     adds-told, plain_adds_told, merges_told, adds-kept, merges_kept    what they answer and keep on the rows lent
--     read_told    what reading answers and leaves in the row lent
--     double_stands    the double of a sketch, at level 0 too, is the number of cells times p, divided by the region's size
--     double_worth     and lies near that
-- Assumes nothing.
use mathlib.Core.Path.{◌≡◌, sym, ap, ◌∙◌}
use mathlib.Core.Bool.{Bool, true, false}
use mathlib.Core.Logic.{⊎_elim}
use mathlib.Core.List.{List, [], ◌++◌}
use Rattle.std.specs.Prelude.{Result}
use Rattle.rule.specs.declared.refusals.ReadError.{ReadError}
use Rattle.image.specs.Calls.{Reads}
use Prim.Native.Nat.{ℕ, ◌*◌, max}
use lib.ListN.{length, take, drop}
use lib.Dec.{eqb}
use borrow.Author.Tests.{eqb-true, eqb-false}
use Rattle.lists.specs.Lists.{listed}
use Rattle.lists.proofs.Tests.{tested}
use Rattle.floats.specs.Quotients.{Near}
use Rattle.rule.specs.declared.Settings.{Settings}
use Rattle.rule.specs.Cells.{◌∪◌, interval}
use Rattle.rule.specs.declared.refusals.Refusal.{Refusal}
use Rattle.rule.specs.Refusals.{Paper, answered, refused, number_of, of_answer, of_taken}
use Rattle.find.specs.declared.Started.{Started}
use Rattle.find.specs.Walking.{Starts}
use Rattle.sketch.specs.declared.Sketch.{Sketch}
use Rattle.sketch.specs.declared.Changed.{Changed}
use Rattle.settle.specs.declared.Kept.{Kept}
use Rattle.settle.specs.Settling.{Keeps, kept_in}
use Rattle.sketch.specs.Sketches.{held, kept_of, is_sketch, add, merge}
use Rattle.sketch.specs.Calls.{Hands, handed, add_when, add_on, merge_when, merge_on}
use Rattle.sketch.specs.Estimates.{upper, lower, float_for, estimate_on}
use Rattle.sketch.proofs.Facts.{sketch_facts}
use Rattle.sketch.proofs.Handing.{add-told, merge-told, kept-add, kept-merge}
use Rattle.sketch.proofs.Worth.{float-near, float-exact, region-zero, weighs_exact, weighs_about}
use Rattle.plain.specs.Plain.{plain_add_when, plain_add_on}
use Rattle.plain.proofs.Calls.{plain_told}
use Rattle.crossing.specs.Crossing.{settings_from, sketch_row, sketch_in, walker_row, told_number, double_of, Crosses}
use Rattle.host.specs.Promises.{Gives, ReadsIn, Begins}
use Rattle.crossing.proofs.Crossings.{row_again, behind_seven, cells_lent}

pub told : {p q : Paper} {r v : ℕ} → Crosses p r v → p ≡ q → Crosses q r v
told t e = rw e at t

-- a hit that crosses as a cell, and then as a value
pub carried : {p : Paper} {r c n v : ℕ} → Crosses p r c → (n ≡ r) × (v ≡ c) → Crosses p n v
carried t e = record { number = e.0 ∙ t.number; value = e.1 ∙ t.value }

pub given : {paper : Paper} {next old : Sketch} {c : Changed Refusal} {r : ℕ} {after : List ℕ}
    → (r ≡ told_number (of_answer c.answer)) × (after ≡ sketch_row c.sketch) → Hands paper next old c → Gives paper next old r after
given h g = record { number = h.0 ∙ ap told_number g.answer; row = h.1 ∙ ap sketch_row g.sketch }

-- a refusal leaves the row lent; otherwise it is the next sketch's
pub gives_refused : {paper : Paper} {number : ℕ} (next : Sketch) (row : List ℕ) (refusal : Refusal) → length row ≡ 511
    → number ≡ number_of refusal → refused (number_of refusal) 0 ≡ paper → Gives paper next (sketch_in row) number row
gives_refused next row refusal len n e =
    record { number = n ∙ ap told_number e; row = sym (row_again row len) ∙ ap (λ (q : Paper). sketch_row (handed q next (sketch_in row))) e }

pub gives_done : {paper : Paper} {after : List ℕ} (next old : Sketch) → answered [] ≡ paper → after ≡ sketch_row next → Gives paper next old 0 after
gives_done next old e q = record { number = ap told_number e; row = q ∙ ap (λ (p : Paper). sketch_row (handed p next old)) e }

-- the settings and the test of a row, as the code makes them
module _ (row : List ℕ) {known : Bool} {s : Settings} (e : s ≡ settings_from row) (k : known ≡ is_sketch (sketch_in row)) {paper : Paper} where
  pub adds-told : (lo hi : ℕ) → paper ≡ add_when known s lo hi → paper ≡ add_on (sketch_in row) lo hi
  unfolding sketch_in
  adds-told lo hi q = add-told (sketch_in row) lo hi k (rw e at q)

  pub plain_adds_told : (lo hi : ℕ) → paper ≡ plain_add_when known s lo hi → paper ≡ plain_add_on (sketch_in row) lo hi
  unfolding sketch_in
  plain_adds_told lo hi q = plain_told (sketch_in row) lo hi k (rw e at q)

  pub merges_told : (other : List ℕ) {its : Bool} {t : Settings} → t ≡ settings_from other → its ≡ is_sketch (sketch_in other) → paper ≡ merge_when known s its t
      → paper ≡ merge_on (sketch_in row) (sketch_in other)
  unfolding sketch_in
  merges_told other f j q = merge-told (sketch_in row) (sketch_in other) k j (rw (e, f) at q)

-- what is kept of the row lent is the next sketch
module _ (row : List ℕ) (len : length row ≡ 511) {s : Settings} {kept : Kept} (e : s ≡ settings_from row) (q : kept ≡ kept_of (sketch_in row)) {level count : ℕ} {out : List ℕ} where
  pub adds-kept : (lo hi : ℕ) → Keeps s (listed (kept_in kept (take 504 (drop 7 row))) ∪ interval lo hi) kept.level 504 level count out
      → held s level count out ≡ add (sketch_in row) lo hi
  unfolding sketch_in
  adds-kept lo hi w = rw e (kept-add (sketch_in row) lo hi (rw (e, q, behind_seven row len) at w))

  pub merges_kept : (other : List ℕ) → length other ≡ 511 → {its : Kept} → its ≡ kept_of (sketch_in other) → is_sketch (sketch_in row) ≡ true → is_sketch (sketch_in other) ≡ true
      → s ≡ settings_from other
      → Keeps s (listed (kept_in kept (take 504 (drop 7 row))) ∪ listed (kept_in its (take 504 (drop 7 other))))
      (max kept.level its.level) 1008 level count out
      → held s level count (take 504 out) ≡ merge (sketch_in row) (sketch_in other)
  unfolding sketch_in
  merges_kept other size f k j t w =
      rw e
      (kept-merge (sketch_in row) (sketch_in other) (sketch_facts (sketch_in row) k) (sketch_facts (sketch_in other) j) (sym e ∙ t)
      (rw (e, q, f, behind_seven row len, behind_seven other size) at w))

pub begun : {s : Settings} {level lo hi r : ℕ} {t : Started} {after : List ℕ} → r ≡ told_number (of_answer t.answer) → after ≡ walker_row t.walker
    → Starts s level lo hi t → Begins s level lo hi r after
begun n w h = record { number = n ∙ ap told_number h.answer; row = w ∙ ap walker_row h.walker }

-- what is read into the row lent, and stored before it
pub read_told : {bytes cells after : List ℕ} (row : List ℕ) {s t : Settings} {level count r block : ℕ} {a : Result (Unit {0}) ReadError}
    → Reads bytes (record { answer = a; sketch = held s level count cells }) → Crosses (of_taken a) r block → length row ≡ 511 → t ≡ s
    → after ≡ sketch_row (held t level count (drop 7 (take 7 row ++ (cells ++ drop 504 (drop 7 row))))) → ReadsIn bytes r block after
read_told {cells = cells} row {s} {level = level} {count = count} l c len q e =
    record {
      told = told c l.answer;
      row = e ∙ ap (λ (u : Settings). sketch_row (held u level count (drop 7 (take 7 row ++ (cells ++ drop 504 (drop 7 row)))))) q
          ∙ ap (λ (xs : List ℕ). sketch_row (held s level count xs)) (cells_lent row cells len) ∙ ap sketch_row l.sketch;
    }

pub double_stands : (k : Sketch) → is_sketch k ≡ true → double_of (estimate_on k) ≡ float_for k
double_stands k e =
    ⊎_elim
    (λ (z : eqb k.level 0 ≡ true).
    let zero = eqb-true k.level 0 z in
    let all = sym (ap (λ (r : ℕ). k.count * r) (region-zero k.settings k.level zero)) in
    ap double_of (weighs_exact k e zero) ∙ sym (float-exact k (sketch_facts k e) k.count all))
    (λ (z : eqb k.level 0 ≡ false). ap double_of (weighs_about k e (eqb-false k.level 0 z)))
    (tested (eqb k.level 0))

pub double_worth : (k : Sketch) → is_sketch k ≡ true → Near (upper k) (lower k) (double_of (estimate_on k))
double_worth k e = rw (double_stands k e) (float-near k (sketch_facts k e))
