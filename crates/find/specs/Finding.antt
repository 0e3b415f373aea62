-- What the range count and the next hit answer. Assumes nothing: these are definitions.
use Rattle.std.specs.Prelude.{ℕ, suc, ◌-◌, ◌≤◌, ◌≡◌, Bool, ◌&&◌, [], ◌∷◌, leb, Result, Ok, Err}
use Rattle.rule.specs.declared.Settings.{Settings}
use Rattle.rule.specs.Rule.{Good, is_good, hash, region, top}
use Rattle.rule.specs.Samples.{range_count, next_hit}
use Rattle.rule.specs.declared.refusals.Refusal.{Refusal}
use Rattle.rule.specs.Refusals.{Paper, answered, refused, number_of, unless, bad_settings, bad_range, bad_level, hits}
use Rattle.find.specs.declared.Hashes.{Hashes}

-- x is a cell: one of 1..n
abbrev pub is_cell : Settings → ℕ → Bool
is_cell s x = leb 1 x && leb x s.n

-- lo..hi are cells, and lo is not above hi (RULES: Refusals)
abbrev pub in_range : Settings → ℕ → ℕ → Bool
in_range s lo hi = leb 1 lo && (leb lo hi && leb hi s.n)

-- the answer of a call on settings, where nothing refuses it: the settings are good, then the level, then the range
abbrev pub on_settings : Settings → ℕ → Bool → Paper → Paper
on_settings s level inside answer = unless (is_good s) bad_settings (unless (leb level (top s)) bad_level (unless inside bad_range answer))

-- an answer where nothing refuses, and otherwise the refusal
abbrev pub behind : Result (Unit {0}) Refusal → Paper → Paper
behind (Ok done) answer = answer
behind (Err refusal) answer = refused (number_of refusal) 0

-- r is the refusal, where one of the tests refuses
pub record Refuses (s : Settings) (level : ℕ) (inside : Bool) (r : Result (Unit {0}) Refusal) : Type 0 where
  pub so : (answer : Paper) → on_settings s level inside answer ≡ behind r answer

-- the range count at a level over lo..hi (RULES: Range count)
unfoldable pub count_on : Settings → ℕ → ℕ → ℕ → Paper
count_on s level lo hi = on_settings s level (in_range s lo hi) (answered (range_count s level lo hi ∷ []))

-- the next hit at a level from a cell up to n (RULES: Next hit)
unfoldable pub next_on : Settings → ℕ → ℕ → Paper
next_on s level from = on_settings s level (is_cell s from) (answered (hits (next_hit s level from s.n)))

-- what the inner calls take: lo..hi, which may be empty, of cells from 1 up to n at most
pub record Within (s : Settings) (lo hi : ℕ) : Type 0 where
  pub good : Good s
  pub low : 1 ≤ lo
  pub start : lo ≤ suc hi
  pub last : hi ≤ s.n

-- what they hand to the counts and the search: the progression of the hashes of lo..hi, and the size of the region
pub record Handed (s : Settings) (level lo hi : ℕ) (h : Hashes) : Type 0 where
  pub modulus : h.p ≡ s.p
  pub step : h.a ≡ s.a
  pub start : h.start ≡ hash s lo
  pub cells : h.cells ≡ suc hi - lo
  pub size : h.size ≡ region s level
