-- The first and the last number with a property. Assumes nothing: these are definitions.
use Rattle.std.specs.Prelude.{ℕ, zero, suc, Bool, cond}

-- the first of m, m + 1, .., m + k with q; m + k where none of those before it has q
abbrev pub least : (ℕ → Bool) → ℕ → ℕ → ℕ
least q zero m = m
least q (suc k) m = cond (q m) m (least q k (suc m))

-- the last of 1, .., k with q; 0 where none has
abbrev pub greatest : (ℕ → Bool) → ℕ → ℕ
greatest q zero = zero
greatest q (suc k) = cond (q (suc k)) (suc k) (greatest q k)
