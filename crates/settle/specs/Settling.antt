-- Cells kept at a level, and a range: what adding and merging come down to. No sketch is spoken of. Assumes nothing: these are definitions.
use Rattle.std.specs.Prelude.{ℕ, ◌+◌, ◌≤◌, ◌≡◌, true, List, [], length, take}
use Rattle.lists.specs.Lists.{listed, filter, Rising}
use Rattle.lists.specs.Rows.{pad, Stored}
use Rattle.rule.specs.declared.Settings.{Settings}
use Rattle.rule.specs.Cells.{Cells}
use Rattle.rule.specs.Rule.{Good, passes, top}
use Rattle.rows.specs.Walked.{cells_below}
use Rattle.settle.specs.Around.{all_of, Around}
use Rattle.settle.specs.declared.Kept.{Kept}
use Rattle.settle.specs.declared.parts.Parts.{Parts}
use Rattle.rule.specs.Samples.{sample, fits, lowest, range_count}

-- cells kept at a level: of the grid, rising, all passing there, and few enough
pub record KeptAt (s : Settings) (level : ℕ) (cells : List ℕ) : Type 0 where
  pub good : Good s
  pub low : level ≤ top s
  pub few : length cells ≤ s.capacity
  pub rise : Rising 1 s.n cells
  pub pass : (x : ℕ) → listed cells x ≡ true → passes s level x ≡ true

-- what adding takes: kept cells, and lo..hi in range
pub record AddsTo (s : Settings) (level : ℕ) (cells : List ℕ) (lo hi : ℕ) : Type 0 where
  pub kept : KeptAt s level cells
  pub one : 1 ≤ lo
  pub up : lo ≤ hi
  pub last : hi ≤ s.n

-- besides, where lo..hi cuts the cells: i lie before lo and j up to hi; and how many of lo..hi pass
pub record CutAt (s : Settings) (level : ℕ) (cells : List ℕ) (lo hi i j hits : ℕ) : Type 0 where
  pub adds : AddsTo s level cells lo hi
  pub before : i ≡ length (filter (cells_below lo) cells)
  pub through : j ≡ length (filter (cells_below (hi + 1)) cells)
  pub counted : hits ≡ range_count s level lo hi

-- the cells kept in a row: its first ones
abbrev pub kept_in : Kept → List ℕ → List ℕ
kept_in k row = take k.count row

-- cells kept at a level stand in a row
pub record KeptIn (s : Settings) (k : Kept) (row : List ℕ) : Type 0 where
  pub within : k.count ≤ length row
  pub kept : KeptAt s k.level (kept_in k row)

-- and nothing else does: zeros follow them, up to 504 places
pub record KeptRow (s : Settings) (k : Kept) (row : List ℕ) : Type 0 where
  pub held : KeptIn s k row
  pub padded : row ≡ pad 504 (kept_in k row)

-- what is kept of a set, where no level below `here` may be used:
-- the lowest level at which it fits, and its sample there, in a row of so many places with zeros after it
pub record Keeps (s : Settings) (X : Cells) (here places level count : ℕ) (row : List ℕ) : Type 0 where
  pub lowest_level : level ≡ lowest s X here
  pub number : count ≡ length (sample s X level)
  pub contents : row ≡ pad places (sample s X level)

-- the cells of two rows and of a range between them
abbrev pub cells_of : Parts → Cells
cells_of w = all_of w.front.now w.back.now w.lo w.hi

-- two rows around a range, all of whose cells pass at the level
pub record Present (s : Settings) (level : ℕ) (front back : List ℕ) (lo hi : ℕ) : Type 0 where
  pub around : Around s front back lo hi
  pub low : level ≤ top s
  pub front_passes : filter (passes s level) front ≡ front
  pub back_passes : filter (passes s level) back ≡ back

-- what gathering at a level takes, of rows whose cells pass at the level `own`: how many of lo..hi pass, and room for all
pub record Gathers (s : Settings) (own level : ℕ) (front back : List ℕ) (lo hi hits : ℕ) (out : List ℕ) : Type 0 where
  pub present : Present s own front back lo hi
  pub counted : hits ≡ range_count s level lo hi
  pub fit : fits s (all_of front back lo hi) level ≡ true
  pub room : length out ≡ 504

-- the two above, of rows and a range that go together
abbrev pub PresentParts : ℕ → Parts → Type 0
PresentParts level w = Present w.settings level w.front.now w.back.now w.lo w.hi

abbrev pub GathersParts : ℕ → ℕ → Parts → ℕ → List ℕ → Type 0
GathersParts own level w hits out = Gathers w.settings own level w.front.now w.back.now w.lo w.hi hits out

-- a row alone, all of whose cells pass at the level: the range lies after every cell
abbrev pub Alone : Settings → ℕ → List ℕ → Type 0
Alone s level xs = Present s level xs [] (s.n + 1) s.n

-- what is kept of the first cells of a row, in place
pub record Thins (s : Settings) (here many : ℕ) (before : List ℕ) (level count : ℕ) (after : List ℕ) : Type 0 where
  pub lowest_level : level ≡ lowest s (listed (take many before)) here
  pub stored : Stored before 0 (sample s (listed (take many before)) level) count after
