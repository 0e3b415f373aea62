-- The settings, and which cells pass at a level. Assumes nothing: these are definitions.
use Rattle.std.specs.Prelude.{ℕ, ◌+◌, ◌*◌, ◌/◌, ◌%◌, ◌^◌, ◌≤◌, ◌<◌, max, ◌≡◌, Bool, true, ◌&&◌, List, [], ◌∷◌, leb, ltb, eqb}
use Rattle.std.specs.Int.{◌∣◌}
use Rattle.lists.specs.Searches.{greatest}
use Rattle.rule.specs.declared.Settings.{Settings}
use Rattle.rule.specs.declared.Hasher.{Hasher}
use Rattle.rule.specs.Cells.{Cells}

-- the settings of all zeros
abbrev pub no_settings : Settings
no_settings = record { n = 0; p = 0; a = 0; b = 0; capacity = 0 }

-- good settings: the five rules (RULES: Settings)
pub record Good (s : Settings) : Type 0 where
  pub n_low : 1 ≤ s.n
  pub n_high : s.n ≤ 200000000
  pub p_low : 10 * s.n ≤ s.p
  pub p_high : s.p ≤ 20 * s.n
  pub a_low : 1 ≤ s.a
  pub a_high : s.a < s.p
  pub no_common_divisor : (d : ℕ) → d ∣ s.a → d ∣ s.p → d ≡ 1
  pub b_high : s.b < s.p
  pub capacity_low : 1 ≤ s.capacity
  pub capacity_high : s.capacity ≤ 504

-- d divides both
unfoldable pub divides_both : ℕ → ℕ → ℕ → Bool
divides_both x y d = eqb (x % d) 0 && eqb (y % d) 0

-- the greatest number that divides both; 0 where every number does
unfoldable pub common_divisor : ℕ → ℕ → ℕ
common_divisor x y = greatest (divides_both x y) (max x y)

-- every test holds
abbrev pub all : List Bool → Bool
all [] = true
all (t ∷ ts) = t && all ts

-- the same five rules as tests
abbrev pub rules : Settings → List Bool
rules s =
    leb 1 s.n ∷
    leb s.n 200000000 ∷
    leb (10 * s.n) s.p ∷
    leb s.p (20 * s.n) ∷
    leb 1 s.a ∷
    ltb s.a s.p ∷
    eqb (common_divisor s.a s.p) 1 ∷
    ltb s.b s.p ∷
    leb 1 s.capacity ∷
    leb s.capacity 504 ∷ []

unfoldable pub is_good : Settings → Bool
is_good s = all (rules s)

-- h(x) = (a·x + b) mod p; modulo 0, which no rule allows, a number is itself (RULES: Hash)
unfoldable pub hash : Settings → ℕ → ℕ
hash s x = (s.a * x + s.b) % s.p

-- what `hasher` makes of settings: beside them a / p and b / p, in parts of 2^32, rounded down
abbrev pub hasher_of : Settings → Hasher
hasher_of s = record { settings = s; slope = s.a * 2 ^ 32 / s.p; start = s.b * 2 ^ 32 / s.p }

-- a hasher as `hasher` makes it
pub record Ready (h : Hasher) : Type 0 where
  pub good : Good h.settings
  pub made : h ≡ hasher_of h.settings

-- the size of the region of a level: p divided by 2^level, rounded down (RULES: Levels)
unfoldable pub region : Settings → ℕ → ℕ
region s level = s.p / 2 ^ level

-- the cells that pass at a level: the hash is below that size (RULES: Passing)
unfoldable pub passes : Settings → ℕ → Cells
passes s level x = ltb (hash s x) (region s level)

-- the top: the greatest T with 2^T not above p, which has 32 bits (RULES: Levels)
unfoldable pub top : Settings → ℕ
top s = greatest (λ t. leb (2 ^ t) s.p) 32
