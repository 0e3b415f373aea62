-- Histories: what sketches the calls can make, and of which cells. Each case speaks of what a call promises, so it holds of
-- what the calls return. Assumes nothing: these are definitions.
use Rattle.std.specs.Prelude.{ℕ, ◌≡◌, List, [], ◌∷◌, length, take}
use Rattle.rule.specs.declared.refusals.Refusal.{Refusal}
use Rattle.rule.specs.declared.refusals.RowError.{RowError}
use Rattle.rule.specs.declared.refusals.ReadError.{ReadError}
use Rattle.std.specs.Prelude.{Result}
use Rattle.rule.specs.declared.Settings.{Settings}
use Rattle.rule.specs.Cells.{Cells, no_cells, ◌∪◌, interval}
use Rattle.rule.specs.Samples.{sample, lowest}
use Rattle.rule.specs.Refusals.{Paper, answered, refused, of_answer, of_written}
use Rattle.sketch.specs.declared.Sketch.{Sketch}
use Rattle.sketch.specs.declared.Changed.{Changed}
use Rattle.sketch.specs.Sketches.{opened, add, merge}
use Rattle.sketch.specs.Calls.{no_sketch, open_on, add_on, merge_on, Hands}
use Rattle.row.specs.declared.Stretch.{Stretch}
use Rattle.row.specs.Stretches.{row_on, add_all, row_cells, HandsRow}
use Rattle.plain.specs.Plain.{plain_add_on}
use Rattle.layout.specs.Images.{image_as, image_of}
use Rattle.image.specs.Calls.{Writes, Reads}

-- the cells that a call adds: none where it is refused
abbrev pub brings : Paper → Cells → Cells
brings (answered values) X = X
brings (refused number place) X = no_cells

-- `Made s X k`: with the settings s, the sketch k was made, and X is the set of all cells added on the way (RULES: Demands)
pub data Made (s : Settings) : Cells → Sketch → Type 0 where
  opening : (r : Changed Refusal) → Hands (open_on s) (opened s) no_sketch r → of_answer r.answer ≡ answered [] → Made s no_cells r.sketch
  -- answered or refused
  adding : {X : Cells} {k : Sketch} → Made s X k → (lo hi : ℕ) (r : Changed Refusal) → Hands (add_on k lo hi) (add k lo hi) k r
      → Made s (X ∪ brings (add_on k lo hi) (interval lo hi)) r.sketch
  -- the same by the plain engine
  plainly : {X : Cells} {k : Sketch} → Made s X k → (lo hi : ℕ) (r : Changed Refusal) → Hands (plain_add_on k lo hi) (add k lo hi) k r
      → Made s (X ∪ brings (plain_add_on k lo hi) (interval lo hi)) r.sketch
  -- a row of stretches, answered or refused
  rowing : {X : Cells} {k : Sketch} → Made s X k → (ts : List Stretch) (r : Changed RowError) → HandsRow (row_on k ts) (add_all k ts) k r
      → Made s (X ∪ brings (row_on k ts) (row_cells ts)) r.sketch
  merging : {X Y : Cells} {j k : Sketch} → Made s X j → Made s Y k → (r : Changed Refusal) → Hands (merge_on j k) (merge j k) j r
      → Made s (X ∪ brings (merge_on j k) Y) r.sketch
  -- with anything that is no sketch, or has other settings: the merge is refused
  refusing : {X : Cells} {j : Sketch} → Made s X j → (k : Sketch) (r : Changed Refusal) → Hands (merge_on j k) (merge j k) j r → (number place : ℕ)
      → of_answer r.answer ≡ refused number place → Made s X r.sketch
  -- written to a room, and read back from as many bytes as the writer says
  reading : {X : Cells} {k : Sketch} → Made s X k → (room after : List ℕ) (w : Result ℕ Refusal) → Writes k room w after → (n : ℕ)
      → of_written w ≡ answered (n ∷ []) → (r : Changed ReadError) → Reads (take n after) r → Made s X r.sketch

-- the image of a set of cells: of the lowest level at which it fits, and of its sample there
abbrev pub image_for : Settings → Cells → List ℕ
image_for s X = image_as s (lowest s X 0) (sample s X (lowest s X 0))

-- a sketch has that image, and a writer that answers leaves just its bytes
pub record HasImage (s : Settings) (X : Cells) (k : Sketch) : Type 0 where
  pub image : image_of k ≡ image_for s X
  pub written : (room after : List ℕ) (w : Result ℕ Refusal) (n : ℕ) → Writes k room w after → of_written w ≡ answered (n ∷ [])
      → (n ≡ length (image_for s X)) × (take n after ≡ image_for s X)
