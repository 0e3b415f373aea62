-- A row of stretches: what is bad in it, the sketch after all of them, and what the call promises (RULES: Row). Assumes nothing: these are definitions.
use Rattle.std.specs.Prelude.{ℕ, suc, ◌≡◌, Bool, true, ◌&&◌, cond, List, [], ◌∷◌, Option, None, Some}
use Rattle.rule.specs.declared.Settings.{Settings}
use Rattle.rule.specs.declared.refusals.RowError.{RowError}
use Rattle.rule.specs.Cells.{Cells, no_cells, ◌∪◌, interval}
use Rattle.rule.specs.Refusals.{Paper, answered, refused, unless, unless_at, bad_range, not_one, of_row}
use Rattle.find.specs.Finding.{in_range}
use Rattle.sketch.specs.declared.Sketch.{Sketch}
use Rattle.sketch.specs.declared.Changed.{Changed}
use Rattle.sketch.specs.Sketches.{is_sketch, Sound, add}
use Rattle.sketch.specs.Calls.{handed}
use Rattle.row.specs.declared.Stretch.{Stretch}

-- the stretch is in range
abbrev pub within : Settings → Stretch → Bool
within s t = in_range s t.lo t.hi

-- each stretch of the row is
abbrev pub all_in : Settings → List Stretch → Bool
all_in s [] = true
all_in s (t ∷ ts) = within s t && all_in s ts

-- the first bad place, counted from zero; the row's length where there is none
abbrev pub first_bad : Settings → List Stretch → ℕ
first_bad s [] = 0
first_bad s (t ∷ ts) = cond (within s t) (suc (first_bad s ts)) 0

-- the same as an answer: none where each is in range
abbrev pub bad_place : Settings → List Stretch → Option ℕ
bad_place s ts = cond (all_in s ts) None (Some (first_bad s ts))

-- the sketch after all of them, one by one, in this order
abbrev pub add_all : Sketch → List Stretch → Sketch
add_all k [] = k
add_all k (t ∷ ts) = add_all (add k t.lo t.hi) ts

-- the cells of all of them
abbrev pub row_cells : List Stretch → Cells
row_cells [] = no_cells
row_cells (t ∷ ts) = interval t.lo t.hi ∪ row_cells ts

-- what the run of adds takes: a sketch, and a row with nothing bad
pub record AddsAll (k : Sketch) (ts : List Stretch) : Type 0 where
  pub sound : Sound k
  pub good : all_in k.settings ts ≡ true

-- adding a row to what is known to be a sketch, or not: 4, then 2 with the first bad place
abbrev pub row_when : Bool → Settings → List Stretch → Paper
row_when known s ts = unless known not_one (unless_at (all_in s ts) bad_range (first_bad s ts) (answered []))

unfoldable pub row_on : Sketch → List Stretch → Paper
row_on k ts = row_when (is_sketch k) k.settings ts

-- the same by the first bad place
abbrev pub judged_at : Bool → Option ℕ → Paper
judged_at known None = unless known not_one (answered [])
judged_at known (Some place) = unless known not_one (refused bad_range place)

-- what the call promises: the next sketch, or the old one with a refusal
pub record HandsRow (paper : Paper) (next old : Sketch) (r : Changed RowError) : Type 0 where
  pub answer : of_row r.answer ≡ paper
  pub sketch : r.sketch ≡ handed paper next old
