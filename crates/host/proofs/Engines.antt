-- The two engines at the boundary: up to the plain one's limit their calls tell the same numbers, and leave the same row.
--     plain_counts, plain_hits, plain_adds    `pot_plain_count`, `pot_plain_next_hit`, `pot_plain_add`, beside those without `plain`
-- Assumes nothing.
use mathlib.Core.Path.{◌≡◌}
use mathlib.Core.List.{List}
use Prim.Native.Nat.{ℕ, ◌≤◌}
use Rattle.rule.specs.declared.Settings.{Settings}
use Rattle.find.specs.Finding.{count_on, next_on}
use Rattle.sketch.specs.Sketches.{add}
use Rattle.sketch.specs.Calls.{add_on}
use Rattle.plain.specs.Plain.{limit, plain_count_on, plain_next_on}
use Rattle.plain.proofs.Same.{count_small, next_small, add_small}
use Rattle.crossing.specs.Crossing.{sketch_in, Crosses}
use Rattle.host.specs.Promises.{Adds, PlainAdds}
use Rattle.host.proofs.Tight.{crosses_tight, gives_tight}

module _ {r v q w : ℕ} (s : Settings) (h : s.n ≤ limit) (level : ℕ) where
  pub plain_counts : (lo hi : ℕ) → Crosses (plain_count_on s level lo hi) r v → Crosses (count_on s level lo hi) q w → (r ≡ q) × (v ≡ w)
  plain_counts lo hi c d = crosses_tight (count_on s level lo hi) (rw (count_small s level lo hi h) at c) d

  pub plain_hits : (from : ℕ) → Crosses (plain_next_on s level from) r v → Crosses (next_on s level from) q w → (r ≡ q) × (v ≡ w)
  plain_hits from c d = crosses_tight (next_on s level from) (rw (next_small s level from h) at c) d

pub plain_adds : {r q : ℕ} {after other : List ℕ} (before : List ℕ) → (sketch_in before).settings.n ≤ limit → (lo hi : ℕ)
    → PlainAdds before lo hi r after → Adds before lo hi q other → (r ≡ q) × (after ≡ other)
plain_adds before h lo hi c d =
    let k = sketch_in before in
    gives_tight (add_on k lo hi) (add k lo hi) k (rw (add_small k lo hi h) at c) d
