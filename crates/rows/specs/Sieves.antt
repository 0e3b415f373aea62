-- The cells that a sieve lets through. Assumes nothing: these are definitions.
use Rattle.std.specs.Prelude.{ℕ, ◌≡◌, ltb}
use Rattle.rule.specs.declared.Settings.{Settings}
use Rattle.rule.specs.Cells.{Cells}
use Rattle.rule.specs.Rule.{hash, passes}
use Rattle.rows.specs.declared.sieve.Sieve.{Sieve}

-- those whose hash is below its size
unfoldable pub sifted : Sieve → Cells
sifted v x = ltb (hash v.hasher.settings x) v.size

-- they are those that pass at a level: the two sets are one
abbrev pub Sifts : Settings → ℕ → Sieve → Type 0
Sifts s level v = sifted v ≡ passes s level
