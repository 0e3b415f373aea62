-- A row of stretches beside the same stretches in more calls than one, and in another order (RULES: Row). Each case speaks of what a call promises.
-- Assumes nothing: these are definitions.
use Rattle.std.specs.Prelude.{◌≡◌, List, [], ◌∷◌}
use Rattle.rule.specs.declared.refusals.Refusal.{Refusal}
use Rattle.rule.specs.declared.refusals.RowError.{RowError}
use Rattle.rule.specs.Refusals.{Paper, answered, of_answer, of_row}
use Rattle.sketch.specs.declared.Sketch.{Sketch}
use Rattle.sketch.specs.declared.Changed.{Changed}
use Rattle.sketch.specs.Sketches.{add}
use Rattle.sketch.specs.Calls.{add_on, Hands}
use Rattle.row.specs.declared.Stretch.{Stretch}
use Rattle.row.specs.Stretches.{row_on, add_all, HandsRow}

-- `OneByOne k ts papers j`: each stretch of ts is added by a call of its own, the first to k, and each other one to what the call before it
-- hands back; they answer these papers, whatever they are, and in the end there is j
pub data OneByOne : Sketch → List Stretch → List Paper → Sketch → Type 0 where
  no_stretch : {k : Sketch} → OneByOne k [] [] k
  one_stretch : {k j : Sketch} {t : Stretch} {ts : List Stretch} {papers : List Paper}
      → (r : Changed Refusal) → Hands (add_on k t.lo t.hi) (add k t.lo t.hi) k r
      → OneByOne r.sketch ts papers j → OneByOne k (t ∷ ts) (of_answer r.answer ∷ papers) j

-- `RowByRow k tss papers j`: the same of rows
pub data RowByRow : Sketch → List (List Stretch) → List Paper → Sketch → Type 0 where
  no_row : {k : Sketch} → RowByRow k [] [] k
  one_row : {k j : Sketch} {ts : List Stretch} {tss : List (List Stretch)} {papers : List Paper}
      → (r : Changed RowError) → HandsRow (row_on k ts) (add_all k ts) k r
      → RowByRow r.sketch tss papers j → RowByRow k (ts ∷ tss) (of_row r.answer ∷ papers) j

-- each call was answered
abbrev pub Answered : List Paper → Type 0
Answered [] = Unit {0}
Answered (paper ∷ papers) = (paper ≡ answered []) × Answered papers

-- `Reordered ts us`: the same stretches in another order
pub data Reordered : List Stretch → List Stretch → Type 0 where
  nothing : Reordered [] []
  first_kept : {ts us : List Stretch} (t : Stretch) → Reordered ts us → Reordered (t ∷ ts) (t ∷ us)
  two_exchanged : (t u : Stretch) (ts : List Stretch) → Reordered (t ∷ u ∷ ts) (u ∷ t ∷ ts)
  one_after_other : {ts us vs : List Stretch} → Reordered ts us → Reordered us vs → Reordered ts vs
