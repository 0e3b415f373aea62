-- A quotient of two whole numbers as a 64-bit float: which float it is, and how near it lies. `HasValue x false a c`, of the toolchain's
-- own account of floats, says that x is a / c. Assumes nothing: these are definitions.
use Rattle.std.specs.Prelude.{ℕ, ◌+◌, ◌-◌, ◌*◌, ◌^◌, ◌≤◌, false, pos, Float}
use Rattle.std.specs.Float.{binary64}
use Rattle.std.specs.Float.Ieee.{of_int, div}
use Rattle.std.specs.Float.Ieee.Exact.{HasValue}

-- a whole number as a float, which holds it with nothing lost up to 2^53
abbrev pub float : ℕ → Float
float n = of_int binary64 (pos n)

-- a / b by one rounded division: the float of a, divided by the float of b
unfoldable pub over : ℕ → ℕ → Float
over a b = div binary64 (float a) (float b)

-- how far two whole numbers lie apart
abbrev pub distance : ℕ → ℕ → ℕ
distance x y = (x - y) + (y - x)

-- x lies near a / b: x times 2^52 is a whole number w, and the distance of w·b from a·2^52, times 2^53, is at most a·2^52
pub record Near (a b : ℕ) (x : Float) : Type 0 where
  pub w : ℕ
  pub value : HasValue x false w (2 ^ 52)
  pub near : distance (w * b) (a * 2 ^ 52) * 2 ^ 53 ≤ a * 2 ^ 52
