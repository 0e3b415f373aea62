-- Rows: lists stored in fixed places. Assumes nothing: these are definitions.
use Rattle.std.specs.Prelude.{ℕ, ◌+◌, ◌-◌, ◌≡◌, Bool, true, cond, ◌&&◌, List, [], ◌∷◌, ◌++◌, eqb, ltb, length, take, drop, replicate}

-- a list with zeros after it, n places in all
abbrev pub pad : ℕ → List ℕ → List ℕ
pad n xs = xs ++ replicate (n - length xs) 0

-- a row with a list stored from place k on
abbrev pub placed : List ℕ → ℕ → List ℕ → List ℕ
placed row k xs = take k row ++ (xs ++ drop (k + length xs) row)

-- a list was stored in a row from place k on; `next` is the place after it
pub record Stored (row : List ℕ) (k : ℕ) (xs : List ℕ) (next : ℕ) (after : List ℕ) : Type 0 where
  pub next_place : next ≡ k + length xs
  pub contents : after ≡ placed row k xs

-- nothing but zeros
abbrev pub all_zero : List ℕ → Bool
all_zero [] = true
all_zero (x ∷ xs) = eqb x 0 && all_zero xs

-- the numbers of two rising lists, each once, rising
unfoldable pub union : List ℕ → List ℕ → List ℕ
union [] ys = ys
union (x ∷ xs) [] = x ∷ xs
union (x ∷ xs) (y ∷ ys) = cond (ltb x y) (x ∷ union xs (y ∷ ys)) (cond (ltb y x) (y ∷ union (x ∷ xs) ys) (x ∷ union xs ys))
