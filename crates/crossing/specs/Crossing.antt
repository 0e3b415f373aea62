-- How settings, sketches and walkers cross the boundary as rows of numbers, and answers as numbers. Assumes nothing: these are definitions.
use Rattle.std.specs.Prelude.{ℕ, ◌≡◌, List, [], ◌∷◌, ◌++◌, drop, get_or, pos, Float}
use Rattle.std.specs.Float.{binary64}
use Rattle.std.specs.Float.Ieee.{of_int}
use Rattle.rule.specs.declared.Settings.{Settings}
use Rattle.rule.specs.Refusals.{Outcome, Paper, answered, refused}
use Rattle.find.specs.declared.Walker.{Walker}
use Rattle.find.specs.Walking.{walker_at}
use Rattle.sketch.specs.declared.Sketch.{Sketch}
use Rattle.sketch.specs.Estimates.{Weight, exactly, about}

-- settings as five numbers
abbrev pub settings_row : Settings → List ℕ
settings_row s = s.n ∷ s.p ∷ s.a ∷ s.b ∷ s.capacity ∷ []

-- the settings that a row begins with
abbrev pub settings_from : List ℕ → Settings
settings_from row = record { n = get_or row 0 0; p = get_or row 1 0; a = get_or row 2 0; b = get_or row 3 0; capacity = get_or row 4 0 }

-- a sketch as 511 numbers: the settings, the level, the number of cells, the 504 places
unfoldable pub sketch_row : Sketch → List ℕ
sketch_row k = settings_row k.settings ++ (k.level ∷ k.count ∷ k.cells)

unfoldable pub sketch_in : List ℕ → Sketch
sketch_in row = record { settings = settings_from row; level = get_or row 5 0; count = get_or row 6 0; cells = drop 7 row }

-- a walker as eight numbers: the settings, the level, the position, hi
unfoldable pub walker_row : Walker → List ℕ
walker_row w = settings_row w.settings ++ (w.level ∷ w.at ∷ w.hi ∷ [])

unfoldable pub walker_in : List ℕ → Walker
walker_in row = walker_at (settings_from row) (get_or row 5 0) (get_or row 6 0) (get_or row 7 0)

-- an outcome as numbers. First 0, or the refusal's number
abbrev pub told_number : {Told : Type 0} → Outcome Told → ℕ
told_number (answered told) = 0
told_number (refused number place) = number

-- beside it the answer's value, or the refusal's place; 0 where there is none
abbrev pub told_value : Paper → ℕ
told_value (answered []) = 0
told_value (answered (x ∷ xs)) = x
told_value (refused number place) = place

-- a call's paper crosses as these two numbers
pub record Crosses (paper : Paper) (r v : ℕ) : Type 0 where
  pub number : r ≡ told_number paper
  pub value : v ≡ told_value paper

-- an estimate as a double: a whole number of 32 bits is one, and 0 where the estimate is refused
abbrev pub double_of : Outcome Weight → Float
double_of (answered (exactly v)) = of_int binary64 (pos v)
double_of (answered (about x)) = x
double_of (refused number place) = of_int binary64 (pos 0)

-- 1 where it is exact, and otherwise 0
abbrev pub exact_of : Outcome Weight → ℕ
exact_of (answered (exactly v)) = 1
exact_of (answered (about x)) = 0
exact_of (refused number place) = 0

-- an estimate crosses as these three: the refusal's number, whether it is exact, and the double
pub record Weighs (estimate : Outcome Weight) (r t : ℕ) (x : Float) : Type 0 where
  pub number : r ≡ told_number estimate
  pub exact : t ≡ exact_of estimate
  pub value : x ≡ double_of estimate
