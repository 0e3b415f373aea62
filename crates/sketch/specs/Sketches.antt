-- What a sketch is, and the sketch of a set of cells. Assumes nothing: these are definitions.
use Rattle.std.specs.Prelude.{ℕ, ◌≤◌, max, ◌≡◌, Bool, true, List, [], ◌∷◌, leb, eqb, length, take, drop}
use Rattle.lists.specs.Lists.{listed, Rising}
use Rattle.lists.specs.Rows.{pad, all_zero}
use Rattle.rule.specs.declared.Settings.{Settings}
use Rattle.rule.specs.Cells.{Cells, ◌∪◌, interval}
use Rattle.rule.specs.Rule.{Good, is_good, passes, top, all}
use Rattle.rule.specs.Samples.{sample, lowest}
use Rattle.rows.specs.Walked.{rises_from}
use Rattle.sketch.specs.declared.Sketch.{Sketch}
use Rattle.sketch.specs.declared.lent.Lent.{Lent}
use Rattle.settle.specs.declared.Kept.{Kept}

-- a sketch from its parts, whatever they are
abbrev pub held : Settings → ℕ → ℕ → List ℕ → Sketch
held s level count cells = record { settings = s; level = level; count = count; cells = cells }

-- a sketch that is lent, read where it stands
abbrev pub held_of : Lent → Sketch
held_of k = held k.settings k.level k.count k.cells.now

-- the sketch that keeps these cells at a level, with zeros in the unused places: the one maker of sketches
unfoldable pub sketch_at : Settings → ℕ → List ℕ → Sketch
sketch_at s level xs = held s level (length xs) (pad 504 xs)

-- the kept cells
unfoldable pub cells_of : Sketch → List ℕ
cells_of k = take k.count k.cells

-- the level, and how many they are
abbrev pub kept_of : Sketch → Kept
kept_of k = record { level = k.level; count = k.count }

-- what a sketch is (RULES: Sketch)
pub record Sound (k : Sketch) : Type 0 where
  pub settings : Good k.settings
  pub level : k.level ≤ top k.settings
  pub few : length (cells_of k) ≤ k.settings.capacity
  pub rise : Rising 1 k.settings.n (cells_of k)
  pub pass : (x : ℕ) → listed (cells_of k) x ≡ true → passes k.settings k.level x ≡ true
  pub made : k ≡ sketch_at k.settings k.level (cells_of k)

-- the same as tests
abbrev pub parts : Sketch → List Bool
parts k =
    is_good k.settings ∷
    leb k.level (top k.settings) ∷
    leb k.count k.settings.capacity ∷
    rises_from k.settings k.level 0 (cells_of k) ∷
    all_zero (drop k.count k.cells) ∷
    eqb (length k.cells) 504 ∷ []

unfoldable pub is_sketch : Sketch → Bool
is_sketch k = all (parts k)

-- the sketch of a set, where no level below `here` may be used: the lowest level at which it fits, and its sample there
unfoldable pub sketch_from : Settings → Cells → ℕ → Sketch
sketch_from s X here = sketch_at s (lowest s X here) (sample s X (lowest s X here))

-- opening: level 0, no cells (RULES: Open)
unfoldable pub opened : Settings → Sketch
opened s = sketch_at s 0 []

-- adding lo..hi: the kept cells together with lo..hi, not below the present level (RULES: Add)
unfoldable pub add : Sketch → ℕ → ℕ → Sketch
add k lo hi = sketch_from k.settings (listed (cells_of k) ∪ interval lo hi) k.level

-- merging: the kept cells of both, from the higher of the two levels; they have the same settings (RULES: Merge)
unfoldable pub merge : Sketch → Sketch → Sketch
merge j k = sketch_from j.settings (listed (cells_of j) ∪ listed (cells_of k)) (max j.level k.level)
