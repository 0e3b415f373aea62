-- The distances from a hit to the next. Assumes nothing: these are definitions.
use Rattle.std.specs.Prelude.{ℕ, suc, ◌+◌, ◌-◌, ◌*◌, ◌%◌, ◌≤◌, ◌<◌, ◌≡◌, false}
use Rattle.rule.specs.declared.Settings.{Settings}
use Rattle.rule.specs.Rule.{hash, region, passes}
use Rattle.strides.specs.declared.Stride.{Stride}
use Rattle.strides.specs.declared.Hit.{Hit}
use Rattle.strides.specs.declared.Strides.{Strides}

-- The least distance, of 1, 2, .., far, after which a hash that grows by a with each cell, modulo p, has grown by less than size, and by how much.
-- Where there is none, the distance is past far, and the change is size, for which no region of that size has room.
pub record Shortest (p a size far : ℕ) (r : Stride) : Type 0 where
  pub some : 1 ≤ r.distance
  pub last : r.distance ≤ suc far
  pub least : (d : ℕ) → 1 ≤ d → d < r.distance → size ≤ d * a % p
  pub found : r.distance ≤ far → (r.change ≡ r.distance * a % p) × (r.change < size)
  pub none : far < r.distance → r.change ≡ size

-- Of the distances up to far, the least that raises the hash of a hit by less than the region's size, and the least that lowers it so:
-- a hash that grows by a with each cell falls by p - a, modulo p.
pub record Striding (s : Settings) (level far : ℕ) (t : Strides) : Type 0 where
  pub size : t.size ≡ region s level
  pub raises : Shortest s.p s.a (region s level) far t.up
  pub lowers : Shortest s.p (s.p - s.a) (region s level) far t.down

-- a cell's hash, which is in the level's region
pub record IsHit (s : Settings) (level : ℕ) (h : Hit) : Type 0 where
  pub own : h.hash ≡ hash s h.cell
  pub inside : h.hash < region s level

-- r is the next hit after h up to the distance far, or lies past that where there is none
pub record Next (s : Settings) (level far : ℕ) (h r : Hit) : Type 0 where
  pub further : h.cell < r.cell
  pub skipped : (x : ℕ) → h.cell < x → x < r.cell → x ≤ h.cell + far → passes s level x ≡ false
  pub hit : r.cell ≤ h.cell + far → IsHit s level r
