-- The count of the elements of an arithmetic progression, taken modulo m, that lie below l. Assumes nothing: these are definitions.
use Rattle.std.specs.Prelude.{ℕ, zero, suc, ◌+◌, ◌-◌, ◌*◌, ◌%◌, ◌<◌, ◌≤◌, true, false, ltb}

-- 1 where a < l, and 0 where not
unfoldable pub hit : ℕ → ℕ → ℕ
hit a l = elim (ltb a l) [ true ↦ 1 | false ↦ 0 ]

-- the number of i < n with (u + i * d) mod m < l
unfoldable pub hits_up : ℕ → ℕ → ℕ → ℕ → ℕ → ℕ
hits_up m d u zero l = 0
hits_up m d u (suc n) l = hits_up m d u n l + hit ((u + n * d) % m) l

-- the number of i < n with (u - i * d) mod m < l, for d ≤ m: a step down by d is a step up by m - d
unfoldable pub hits_down : ℕ → ℕ → ℕ → ℕ → ℕ → ℕ
hits_down m d u n l = hits_up m (m - d) u n l

-- a progression and a bound that the counts take. The difference is at most half of the modulus, and a call's modulus is the caller's difference: so the
-- difference at least halves at each call
pub record Takes (m d u n l : ℕ) : Type 0 where
  pub small : m ≤ 4000000000
  pub half : 2 * d ≤ m
  pub start : u < m
  pub bound : l ≤ m
  pub few : n ≤ 200000000
