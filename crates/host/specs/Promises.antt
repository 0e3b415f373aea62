-- What each call of the boundary promises: numbers, and the final contents of the rows and bytes lent. Assumes nothing: these are definitions.
use Rattle.std.specs.Prelude.{ℕ, ◌≡◌, List, length}
use Rattle.rule.specs.declared.Settings.{Settings}
use Rattle.rule.specs.Refusals.{Paper}
use Rattle.find.specs.declared.Walker.{Walker}
use Rattle.find.specs.Walking.{walker_at, start_on, started, step_on, after_step}
use Rattle.sketch.specs.declared.Sketch.{Sketch}
use Rattle.sketch.specs.Sketches.{opened, add, merge}
use Rattle.sketch.specs.Calls.{no_sketch, handed, open_on, add_on, merge_on}
use Rattle.plain.specs.Plain.{plain_add_on}
use Rattle.row.specs.declared.Stretch.{Stretch}
use Rattle.row.specs.Stretches.{add_all, row_on}
use Rattle.layout.specs.Images.{spelled}
use Rattle.image.specs.Calls.{write_on, room_after, read_on}
use Rattle.crossing.specs.Crossing.{settings_from, sketch_row, sketch_in, walker_row, told_number, Crosses}

-- the paper's number, and the row of the sketch handed back
pub record Gives (paper : Paper) (next old : Sketch) (r : ℕ) (after : List ℕ) : Type 0 where
  pub number : r ≡ told_number paper
  pub row : after ≡ sketch_row (handed paper next old)

-- what opening promises, on a row of settings
abbrev pub Opens : List ℕ → ℕ → List ℕ → Type 0
Opens settings r after = Gives (open_on (settings_from settings)) (opened (settings_from settings)) no_sketch r after

-- what adding promises, on the row lent
abbrev pub Adds : List ℕ → ℕ → ℕ → ℕ → List ℕ → Type 0
Adds before lo hi r after = Gives (add_on (sketch_in before) lo hi) (add (sketch_in before) lo hi) (sketch_in before) r after

-- what adding by the plain engine promises, on the row lent
abbrev pub PlainAdds : List ℕ → ℕ → ℕ → ℕ → List ℕ → Type 0
PlainAdds before lo hi r after = Gives (plain_add_on (sketch_in before) lo hi) (add (sketch_in before) lo hi) (sketch_in before) r after

-- what adding a row of stretches promises, on the row lent
pub record AddsRow (before : List ℕ) (ts : List Stretch) (r place : ℕ) (after : List ℕ) : Type 0 where
  pub told : Crosses (row_on (sketch_in before) ts) r place
  pub row : after ≡ sketch_row (handed (row_on (sketch_in before) ts) (add_all (sketch_in before) ts) (sketch_in before))

-- what merging promises, on the row lent and the other
abbrev pub Merges : List ℕ → List ℕ → ℕ → List ℕ → Type 0
Merges before other r after = Gives (merge_on (sketch_in before) (sketch_in other)) (merge (sketch_in before) (sketch_in other)) (sketch_in before) r after

-- what reading promises
pub record ReadsIn (bytes : List ℕ) (r block : ℕ) (after : List ℕ) : Type 0 where
  pub told : Crosses (read_on bytes) r block
  pub row : after ≡ sketch_row (handed (read_on bytes) (spelled bytes) no_sketch)

-- what writing promises
pub record WritesOut (k : Sketch) (room : List ℕ) (r size : ℕ) (after : List ℕ) : Type 0 where
  pub told : Crosses (write_on k (length room)) r size
  pub contents : after ≡ room_after (write_on k (length room)) k room

-- what opening a walker promises
pub record Begins (s : Settings) (level lo hi r : ℕ) (after : List ℕ) : Type 0 where
  pub number : r ≡ told_number (start_on s level lo hi)
  pub row : after ≡ walker_row (started (start_on s level lo hi) (walker_at s level lo hi))

-- what a walker's step promises
pub record Moves (w : Walker) (r cell : ℕ) (after : List ℕ) : Type 0 where
  pub told : Crosses (step_on w) r cell
  pub row : after ≡ walker_row (after_step w)
