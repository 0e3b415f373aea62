-- The laws of rows that carry sketches and walkers.
--     settings_again, sketch_again, walker_again    each comes back from its row as it was
--     row_again, walker_row_again    and a row of 511 numbers from its sketch, a row of eight from its walker: so a refused row is unchanged
--     zero_row, zero-walker_row    the rows of all zeros
--     head_stored, cells-stored, cells_lent    a row, as the code stores it in two parts
--     settings-of_row, behind_seven, parts_in, row-kept_in    a sketch's parts, as the code lends them
-- Assumes nothing.
use mathlib.Core.Path.{◌≡◌, refl, sym, ap, ◌∙◌, subst}
use mathlib.Core.Bool.{true}
use mathlib.Core.List.{List, [], ◌∷◌, ◌++◌, append-nil}
use Prim.Native.Nat.{ℕ, ◌+◌, ◌-◌, ◌<◌}
use native.Mathlib.Omega.{arith}
use lib.Seq.{length-take-le, drop-append_seam}
use lib.ListN.{length, take, drop, set, get_or, replicate, length-drop, drop_of_length-le}
use Rattle.lists.specs.Rows.{Stored}
use Rattle.lists.proofs.Steps.{next, part_rest}
use Rattle.rule.specs.declared.Settings.{Settings}
use Rattle.find.specs.declared.Walker.{Walker}
use Rattle.find.specs.Walking.{no_walker}
use Rattle.sketch.specs.declared.Sketch.{Sketch}
use Rattle.sketch.specs.Sketches.{held, sketch_at, kept_of, is_sketch}
use Rattle.sketch.specs.Calls.{no_sketch}
use Rattle.settle.specs.declared.Kept.{Kept}
use Rattle.settle.specs.Settling.{KeptRow}
use Rattle.sketch.proofs.Facts.{sketch_facts}
use Rattle.sketch.proofs.Handing.{row_kept}
use Rattle.crossing.specs.Crossing.{settings_row, settings_from, sketch_row, sketch_in, walker_row, walker_in}

pub settings_again : (s : Settings) → settings_from (settings_row s) ≡ s
settings_again s = refl

pub sketch_again : (k : Sketch) → sketch_in (sketch_row k) ≡ k
unfolding sketch_in sketch_row
sketch_again k = refl

pub walker_again : (w : Walker) → walker_in (walker_row w) ≡ w
unfolding walker_in walker_row
walker_again w = refl

-- a row of more than seven numbers begins with them
seven : (row : List ℕ) → 7 < length row
    → get_or row 0 0 ∷ get_or row 1 0 ∷ get_or row 2 0 ∷ get_or row 3 0 ∷ get_or row 4 0 ∷ get_or row 5 0 ∷ get_or row 6 0 ∷ drop 7 row ≡ row
seven row h =
    cc (
      next row 0 (omega arith),
      next row 1 (omega arith),
      next row 2 (omega arith),
      next row 3 (omega arith),
      next row 4 (omega arith),
      next row 5 (omega arith),
      next row 6 (omega arith),
    )

pub row_again : (row : List ℕ) → length row ≡ 511 → sketch_row (sketch_in row) ≡ row
unfolding sketch_in sketch_row
row_again row e = seven row (omega arith)

pub walker_row_again : (row : List ℕ) → length row ≡ 8 → walker_row (walker_in row) ≡ row
unfolding walker_in walker_row
walker_row_again row e =
    let last : drop 7 row ≡ get_or row 7 0 ∷ [] = next row 7 (omega arith)
    ∙ ap (λ (l : List ℕ). get_or row 7 0 ∷ l) (drop_of_length-le row {i = 8} (omega arith)) in
    rw (← last) (seven row (omega arith))

-- what comes back where opening or reading is refused
pub zero_row : sketch_row no_sketch ≡ replicate 511 0
unfolding sketch_row sketch_at
zero_row = refl

pub zero-walker_row : walker_row no_walker ≡ replicate 8 0
unfolding walker_row
zero-walker_row = refl

-- the seven numbers stored one by one
pub head_stored : (row : List ℕ) (s : Settings) (level count : ℕ) → length row ≡ 511
    → set (set (set (set (set (set (set row 0 s.n) 1 s.p) 2 s.a) 3 s.b) 4 s.capacity) 5 level) 6 count ≡ sketch_row
    (held s level count (drop 7 row))
unfolding sketch_row
head_stored row s level count e =
    subst
    (λ (v : List ℕ). set (set (set (set (set (set (set v 0 s.n) 1 s.p) 2 s.a) 3 s.b) 4 s.capacity) 5 level) 6 count
    ≡ sketch_row (held s level count (drop 7 v)))
    (seven row (omega arith))
    refl

-- what stands behind the seven numbers, where nothing follows it
behind : (row cells rest : List ℕ) → length row ≡ 511 → rest ≡ [] → drop 7 (take 7 row ++ (cells ++ rest)) ≡ cells
behind row cells rest e none =
    let seam : length (take 7 row) ≡ 7 = length-take-le 7 row (omega arith) in
    ap (λ (k : ℕ). drop k (take 7 row ++ (cells ++ rest))) (sym seam) ∙ drop-append_seam (take 7 row) (cells ++ rest)
    ∙ ap (λ (l : List ℕ). cells ++ l) none ∙ append-nil cells

-- the cells stored there, and those that a call put there
pub cells-stored : {next : ℕ} {after : List ℕ} (row cells : List ℕ) → length row ≡ 511 → length cells ≡ 504 → Stored row 7 cells next after
    → drop 7 after ≡ cells
cells-stored row cells e f s =
    ap (drop 7) s.contents ∙ behind row cells (drop (7 + length cells) row) e (drop_of_length-le row {i = 7 + length cells} (omega arith))

pub cells_lent : (row cells : List ℕ) → length row ≡ 511 → drop 7 (take 7 row ++ (cells ++ drop 504 (drop 7 row))) ≡ cells
cells_lent row cells e = behind row cells (drop 504 (drop 7 row)) e (drop_of_length-le (drop 7 row) {i = 504} (omega (arith, length-drop 7 row)))

-- a row's settings are those of what stands in it
pub settings-of_row : (row : List ℕ) → (sketch_in row).settings ≡ settings_from row
unfolding sketch_in
settings-of_row row = refl

-- the whole row behind the seven numbers
pub behind_seven : (row : List ℕ) → length row ≡ 511 → take 504 (drop 7 row) ≡ drop 7 row
behind_seven row e =
    let left : 504 ≡ length row - 7 = omega arith in
    ap (λ (n : ℕ). take n (drop 7 row)) left ∙ part_rest row 7

-- a sketch's parts, as the code lends them
pub parts_in : (row : List ℕ) {s : Settings} {kept : Kept} → length row ≡ 511 → s ≡ settings_from row → kept ≡ kept_of (sketch_in row)
    → held s kept.level kept.count (take 504 (drop 7 row)) ≡ sketch_in row
unfolding sketch_in
parts_in row e q k = rw (q, k, behind_seven row e)

-- and where they are a sketch's: cells kept at its level, and zeros after them
pub row-kept_in : (row : List ℕ) (s : Settings) → length row ≡ 511 → s ≡ settings_from row → is_sketch (sketch_in row) ≡ true
    → KeptRow s (kept_of (sketch_in row)) (take 504 (drop 7 row))
unfolding sketch_in
row-kept_in row s e q k =
    let sized : length (drop 7 row) ≡ 504 = length-drop 7 row ∙ omega arith in
    rw (q, behind_seven row e) (row_kept (sketch_in row) sized (sketch_facts (sketch_in row) k))
