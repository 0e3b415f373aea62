-- Of a set of cells: its sample at a level, the lowest level at which it fits; of a range: how many pass, and the first. Assumes nothing: these are
-- definitions.
use Rattle.std.specs.Prelude.{ℕ, ◌-◌, Bool, ◌&&◌, List, [], ◌∷◌, leb, length, Option, None, Some}
use Rattle.lists.specs.Lists.{filter, range}
use Rattle.lists.specs.Searches.{least}
use Rattle.rule.specs.declared.Settings.{Settings}
use Rattle.rule.specs.Cells.{Cells}
use Rattle.rule.specs.Rule.{passes, top}

-- the cells of a set that pass at a level
unfoldable pub passing : Settings → Cells → ℕ → Cells
passing s X level x = X x && passes s level x

-- the same as a list, rising: of the cells 1..n
unfoldable pub sample : Settings → Cells → ℕ → List ℕ
sample s X level = filter (passing s X level) (range 1 s.n)

-- do they number at most the capacity?
unfoldable pub fits : Settings → Cells → ℕ → Bool
fits s X level = leb (length (sample s X level)) s.capacity

-- the lowest level at which they fit, of the levels from here to the top
unfoldable pub lowest : Settings → Cells → ℕ → ℕ
lowest s X here = least (fits s X) (top s - here) here

-- how many cells of lo..hi pass (RULES: Range count)
unfoldable pub range_count : Settings → ℕ → ℕ → ℕ → ℕ
range_count s level lo hi = length (filter (passes s level) (range lo hi))

abbrev pub first : List ℕ → Option ℕ
first [] = None
first (x ∷ xs) = Some x

-- the first cell of lo..hi that passes (RULES: Next hit)
unfoldable pub next_hit : Settings → ℕ → ℕ → ℕ → Option ℕ
next_hit s level lo hi = first (filter (passes s level) (range lo hi))
