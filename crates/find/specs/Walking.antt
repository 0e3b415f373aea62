-- What a walker is and what its step does. Assumes nothing: these are definitions.
use Rattle.std.specs.Prelude.{ℕ, zero, suc, ◌+◌, Bool, ◌&&◌, ◌≡◌, List, [], ◌∷◌, ◌++◌, leb}
use Rattle.rule.specs.declared.Settings.{Settings}
use Rattle.rule.specs.Rule.{is_good, top, no_settings}
use Rattle.rule.specs.Samples.{next_hit}
use Rattle.rule.specs.Refusals.{Paper, answered, refused, unless, not_one, of_answer, of_found, hits}
use Rattle.find.specs.declared.Walker.{Walker}
use Rattle.find.specs.declared.Started.{Started}
use Rattle.find.specs.declared.Stepped.{Stepped}
use Rattle.find.specs.Finding.{is_cell, in_range, on_settings}

-- the walker at a position
abbrev pub walker_at : Settings → ℕ → ℕ → ℕ → Walker
walker_at s level at hi = record { settings = s; level = level; at = at; hi = hi }

-- the walker of all zeros
abbrev pub no_walker : Walker
no_walker = walker_at no_settings 0 0 0

-- opening over lo..hi at a level
unfoldable pub start_on : Settings → ℕ → ℕ → ℕ → Paper
start_on s level lo hi = on_settings s level (in_range s lo hi) (answered [])

-- the walker handed back: it stands at lo, and is all zeros where the opening is refused
abbrev pub started : Paper → Walker → Walker
started (answered values) w = w
started (refused number place) w = no_walker

-- what opening promises
pub record Starts (s : Settings) (level lo hi : ℕ) (r : Started) : Type 0 where
  pub answer : of_answer r.answer ≡ start_on s level lo hi
  pub walker : r.walker ≡ started (start_on s level lo hi) (walker_at s level lo hi)

-- a walker: good settings, a good level, hi in 1..n and a position from 1 to hi + 1 (RULES: Walker)
unfoldable pub is_walker : Walker → Bool
is_walker w = is_good w.settings && (leb w.level (top w.settings) && (is_cell w.settings w.hi && (leb 1 w.at && leb w.at (w.hi + 1))))

-- the next passing cell
unfoldable pub step_on : Walker → Paper
step_on w = unless (is_walker w) not_one (answered (hits (next_hit w.settings w.level w.at w.hi)))

-- the walker after it: past the hit, and otherwise as it was
abbrev pub moved : Paper → Walker → Walker
moved (answered []) w = w
moved (answered (x ∷ xs)) w = walker_at w.settings w.level (x + 1) w.hi
moved (refused number place) w = w

unfoldable pub after_step : Walker → Walker
after_step w = moved (step_on w) w

-- what a step promises (RULES: Walker)
pub record Steps (w : Walker) (r : Stepped) : Type 0 where
  pub answer : of_found r.found ≡ step_on w
  pub walker : r.walker ≡ after_step w

-- the cells that k steps yield
abbrev pub yielded : Paper → List ℕ
yielded (answered values) = values
yielded (refused number place) = []

unfoldable pub walk : ℕ → Walker → List ℕ
walk zero w = []
walk (suc k) w = yielded (step_on w) ++ walk k (after_step w)
