-- Reducing modulo 65535 without a division. Assumes nothing.
use Rattle.std.specs.Prelude.{ℕ, ◌+◌, ◌/◌, ◌%◌}

-- one fold: what stands above the low 16 bits, added to them
unfoldable pub folded : ℕ → ℕ
folded x = x / 65536 + x % 65536
