-- What a walk over rows of cells finds. Assumes nothing: these are definitions.
use Rattle.std.specs.Prelude.{ℕ, ◌<◌, ◌≤◌, Bool, true, ◌&&◌, List, [], ◌∷◌, leb, ltb, length, get_or}
use Rattle.rule.specs.declared.Settings.{Settings}
use Rattle.rule.specs.Cells.{Cells}
use Rattle.rule.specs.Rule.{passes}

-- the cells below x
abbrev pub cells_below : ℕ → Cells
cells_below x y = ltb y x

-- no cell of the row is above a later one
abbrev pub Ascending : List ℕ → Type 0
Ascending row = (i j : ℕ) → i ≤ j → j < length row → get_or row i 0 ≤ get_or row j 0

-- every cell of the list is in the set
abbrev pub all_in : Cells → List ℕ → Bool
all_in X [] = true
all_in X (x ∷ xs) = X x && all_in X xs

-- the cells rise strictly from above low, and each is at most n
abbrev pub in_order : ℕ → ℕ → List ℕ → Bool
in_order n low [] = true
in_order n low (x ∷ xs) = (ltb low x && leb x n) && in_order n x xs

-- the cells rise strictly from above low, and each is at most n and passes at the level
abbrev pub rises_from : Settings → ℕ → ℕ → List ℕ → Bool
rises_from s level low xs = in_order s.n low xs && all_in (passes s level) xs
