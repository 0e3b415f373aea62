-- The rounds of an arithmetic progression: element i is in round k where k * p ≤ u + i * a < (k + 1) * p: definitions. Assumes nothing.
use Rattle.std.specs.Prelude.{ℕ, ◌+◌, ◌*◌, ◌<◌, ◌≤◌}

-- element i lies in round k, and is a hit there
pub record HitIn (p a u l k i : ℕ) : Type 0 where
  pub low : k * p ≤ u + i * a
  pub high : u + i * a < k * p + l

-- the search's answer: the index and the round of a hit, or round 0. A hit that is asked for, at an i with i * w < b, does not come before it
pub record Least (p a u l w b index round : ℕ) : Type 0 where
  pub hit : 0 < round → HitIn p a u l round index
  pub near : 0 < round → index < p
  pub least : (i k : ℕ) → i * w < b → HitIn p a u l k i → (0 < round) × (index ≤ i)

-- what the search takes: the first element is no hit, and the modulus stays small with the weight w
pub record Searched (p a u l w : ℕ) : Type 0 where
  pub small : w * p ≤ 4000000000
  pub weight : 0 < w
  pub step : a < p
  pub start : u < p
  pub some : 0 < l
  pub above : l ≤ u
