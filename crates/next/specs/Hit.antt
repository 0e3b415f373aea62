-- The first element of an arithmetic progression, taken modulo p, that lies below l: definitions. Assumes nothing.
use Rattle.std.specs.Prelude.{ℕ, ◌+◌, ◌*◌, ◌%◌, ◌<◌, ◌≤◌, Option, Some, None}

-- element i of u, u + a, u + 2a, .. modulo p lies below l
abbrev pub IsBelow : ℕ → ℕ → ℕ → ℕ → ℕ → Type 0
IsBelow p a u l i = (u + i * a) % p < l

-- i is the least such
pub record First (p a u l i : ℕ) : Type 0 where
  pub hit : IsBelow p a u l i
  pub least : (j : ℕ) → j < i → ¬ IsBelow p a u l j

-- the least such among the first n elements, or that there is none
unfoldable pub Finds : ℕ → ℕ → ℕ → ℕ → ℕ → Option ℕ → Type 0
Finds p a u l n (Some i) = (i < n) × First p a u l i
Finds p a u l n None = (i : ℕ) → i < n → ¬ IsBelow p a u l i

-- a modulus, a difference and a first element that the functions take: a product of two of them fits 64 bits
pub record Progression (p a u : ℕ) : Type 0 where
  pub small : p ≤ 4000000000
  pub step : a < p
  pub start : u < p
