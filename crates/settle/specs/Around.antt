-- Two rows and a range between them, and that any two proofs that a row rises are equal, which the ghost field of `Parts` needs. Assumes nothing.
use Rattle.std.specs.Prelude.{ℕ, suc, ◌+◌, ◌-◌, ◌≤◌, List, [], ◌∷◌, length}
use Rattle.std.specs.Coded.{Unit-prop, le_prop}
use Rattle.lists.specs.Lists.{listed, Rising}
use Rattle.rule.specs.declared.Settings.{Settings}
use Rattle.rule.specs.Cells.{Cells, ◌∪◌, interval}
use Rattle.rule.specs.Rule.{Good}

-- the cells of a row before lo and of one after hi, with those of lo..hi
abbrev pub all_of : List ℕ → List ℕ → ℕ → ℕ → Cells
all_of front back lo hi = (listed front ∪ listed back) ∪ interval lo hi

-- the two rows rise, and stand before lo and after hi; lo..hi may be empty
pub record Around (s : Settings) (front back : List ℕ) (lo hi : ℕ) : Type 0 where
  pub good : Good s
  pub one : 1 ≤ lo
  pub start : lo ≤ suc hi
  pub last : hi ≤ s.n
  pub before : Rising 1 (lo - 1) front
  pub after : Rising (suc hi) s.n back
  pub few : length front + length back ≤ 1008

-- any two proofs that a list rises are equal
pub Rising-prop : (lo hi : ℕ) (xs : List ℕ) → IsProp (Rising lo hi xs)
Rising-prop lo hi [] = Unit-prop
Rising-prop lo hi (x ∷ xs) = λ a b i. (le_prop a.0 b.0 i, le_prop a.1 b.1 i, Rising-prop (suc x) hi xs a.2 b.2 i)
