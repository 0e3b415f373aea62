-- Lists of numbers. A set of numbers is its test, `ℕ → Bool`. Assumes nothing: these are definitions.
use Rattle.std.specs.Prelude.{ℕ, zero, suc, ◌-◌, ◌≤◌, Bool, true, false, ◌&&◌, ◌||◌, List, [], ◌∷◌, eqb}

-- is x in the list?
abbrev pub listed : List ℕ → ℕ → Bool
listed [] x = false
listed (y ∷ ys) x = eqb x y || listed ys x

-- x in front where the test is true
abbrev pub keep : Bool → ℕ → List ℕ → List ℕ
keep true x xs = x ∷ xs
keep false x xs = xs

-- the numbers of a list that are in a set, in the list's order
abbrev pub filter : (ℕ → Bool) → List ℕ → List ℕ
filter X [] = []
filter X (x ∷ xs) = keep (X x) x (filter X xs)

-- the list of k numbers x, x + 1, ..
abbrev pub run : ℕ → ℕ → List ℕ
run x zero = []
run x (suc k) = x ∷ run (suc x) k

-- the list lo, lo + 1, .., hi
abbrev pub range : ℕ → ℕ → List ℕ
range lo hi = run lo (suc hi - lo)

-- the list rises strictly, and its numbers are in lo..hi
abbrev pub Rising : ℕ → ℕ → List ℕ → Type 0
Rising lo hi [] = Unit {0}
Rising lo hi (x ∷ xs) = (lo ≤ x) × (x ≤ hi) × Rising (suc x) hi xs

-- the same numbers in the same order
unfoldable pub same : List ℕ → List ℕ → Bool
same [] [] = true
same [] (y ∷ ys) = false
same (x ∷ xs) [] = false
same (x ∷ xs) (y ∷ ys) = eqb x y && same xs ys
