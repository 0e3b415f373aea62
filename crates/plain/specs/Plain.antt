-- What the plain engine answers: up to a limit of n what the first one does. Assumes nothing: these are definitions.
use Rattle.std.specs.Prelude.{ℕ, ◌≡◌, Bool, [], leb, Result}
use Rattle.rule.specs.declared.Settings.{Settings}
use Rattle.rule.specs.declared.refusals.Refusal.{Refusal}
use Rattle.rule.specs.Refusals.{Paper, answered, unless, bad_settings, bad_range, not_one}
use Rattle.find.specs.Finding.{in_range, on_settings, behind, count_on, next_on}
use Rattle.lists.specs.Lists.{listed}
use Rattle.rule.specs.Cells.{Cells, ◌∪◌, interval}
use Rattle.plain.specs.declared.adding.Adding.{Adding}
use Rattle.sketch.specs.declared.Sketch.{Sketch}
use Rattle.sketch.specs.Sketches.{is_sketch}

-- the greatest n of the plain engine (RULES: Plain engine)
abbrev pub limit : ℕ
limit = 4096

-- n isn't above it
abbrev pub is_small : Settings → Bool
is_small s = leb s.n limit

-- an answer on settings: above the limit it is 1, as for any setting outside its rule
abbrev pub on_small : Settings → Paper → Paper
on_small s answer = unless (is_small s) bad_settings answer

-- the range count (RULES: Range count): 1, then 3 and 2 as for every count
unfoldable pub plain_count_on : Settings → ℕ → ℕ → ℕ → Paper
plain_count_on s level lo hi = on_small s (count_on s level lo hi)

-- the next hit (RULES: Next hit), in the same order
unfoldable pub plain_next_on : Settings → ℕ → ℕ → Paper
plain_next_on s level from = on_small s (next_on s level from)

-- r is the refusal of either, where one of the tests refuses
pub record PlainRefuses (s : Settings) (level : ℕ) (inside : Bool) (r : Result (Unit {0}) Refusal) : Type 0 where
  pub so : (answer : Paper) → on_small s (on_settings s level inside answer) ≡ behind r answer

-- adding to what is known to be a sketch, or not (RULES: Plain engine): 4, then 1, then 2
abbrev pub plain_add_when : Bool → Settings → ℕ → ℕ → Paper
plain_add_when known s lo hi = unless known not_one (on_small s (unless (in_range s lo hi) bad_range (answered [])))

unfoldable pub plain_add_on : Sketch → ℕ → ℕ → Paper
plain_add_on k lo hi = plain_add_when (is_sketch k) k.settings lo hi

-- the cells that a sample is taken of
abbrev pub cells_of : Adding → Cells
cells_of a = listed a.kept.now ∪ interval a.lo a.hi
