-- No cell is 0, so a 0 that crosses for a cell says that there is none.
--     none_found    `pot_next_hit` with number 0 and cell 0
--     none_left     `pot_walker_next` with number 0 and cell 0
--     walker_stays  a step with cell 0, refused or not, leaves the walker
-- Assumes nothing.
use mathlib.Core.Path.{◌≡◌, refl, sym, ap, ◌∙◌}
use mathlib.Core.Bool.{Bool, true, false}
use mathlib.Core.Logic.{⊎_elim}
use mathlib.Core.List.{List, []}
use Rattle.std.specs.Prelude.{Option, Some, None}
use Prim.Native.Nat.{ℕ, ◌<◌, ◌≤◌}
use native.Mathlib.Omega.{arith}
use lib.Dec.{leb}
use lib.ListN.{length}
use Rattle.lists.proofs.Tests.{tested}
use Rattle.rule.specs.declared.Settings.{Settings}
use Rattle.rule.specs.Rule.{is_good, top}
use Rattle.rule.specs.Samples.{next_hit}
use Rattle.rule.specs.Refusals.{Paper, answered, unless, bad_settings, bad_range, bad_level, not_one, hits}
use Rattle.find.specs.declared.Walker.{Walker}
use Rattle.find.specs.Finding.{is_cell, next_on}
use Rattle.find.specs.Walking.{is_walker, step_on, moved, after_step}
use Rattle.find.proofs.Checks.{within_cell}
use Rattle.find.proofs.Hits.{hit-within}
use Rattle.find.proofs.Walks.{walker-within}
use Rattle.crossing.specs.Crossing.{walker_row, walker_in, told_number, told_value, Crosses}
use Rattle.host.specs.Promises.{Moves}
use Rattle.crossing.proofs.Crossings.{walker_row_again}

-- a search for a hit, as a call answers it
abbrev answer : Option ℕ → Paper
answer o = answered (hits o)

no_zero : (s : Settings) (level lo hi : ℕ) → 1 ≤ lo → (o : Option ℕ) → next_hit s level lo hi ≡ o → 0 ≡ told_value (answer o) → answer o ≡ answered []
no_zero s level lo hi one None e z = refl
no_zero s level lo hi one (Some x) e z = absurd (omega (arith, one, z, (hit-within s level lo hi x (ap answer (sym e))).0))

-- a call whose number is 0 has passed its test
passed : (holds : Bool) (number : ℕ) (paper : Paper) → 0 < number → 0 ≡ told_number (unless holds number paper)
    → (holds ≡ true) × (unless holds number paper ≡ paper)
passed true number paper h e = (refl, refl)
passed false number paper h e = absurd (omega (arith, h, e))

pub none_found : (s : Settings) (level from : ℕ) → Crosses (next_on s level from) 0 0 → next_on s level from ≡ answered []
unfolding next_on
none_found s level from c =
    let found = answer (next_hit s level from s.n) in
    let ranged = unless (is_cell s from) bad_range found in
    let a = passed (is_good s) bad_settings (unless (leb level (top s)) bad_level ranged) (omega arith) c.number in
    let b = passed (leb level (top s)) bad_level ranged (omega arith) (c.number ∙ ap told_number a.1) in
    let d = passed (is_cell s from) bad_range found (omega arith) (c.number ∙ ap told_number (a.1 ∙ b.1)) in
    let whole = a.1 ∙ b.1 ∙ d.1 in
    whole ∙ no_zero s level from s.n (within_cell s from a.0 d.0).low (next_hit s level from s.n) refl (c.value ∙ ap told_value whole)

module _ (w : Walker) where
  abbrev stepped : Paper
  stepped = answer (next_hit w.settings w.level w.at w.hi)

  -- where it is a walker, the step answers the hit, and 0 says that there is none
  none_here : is_walker w ≡ true → 0 ≡ told_value (step_on w) → step_on w ≡ answered []
  unfolding step_on
  none_here t z =
      let whole : step_on w ≡ stepped = ap (λ (holds : Bool). unless holds not_one stepped) t in
      let one : 1 ≤ w.at = (walker-within w t).low in
      whole ∙ no_zero w.settings w.level w.at w.hi one (next_hit w.settings w.level w.at w.hi) refl (z ∙ ap told_value whole)

  pub none_left : {after : List ℕ} → Moves w 0 0 after → step_on w ≡ answered []
  unfolding step_on
  none_left m = none_here (passed (is_walker w) not_one stepped (omega arith) m.told.number).0 m.told.value

pub walker_stays : {r : ℕ} {after : List ℕ} (before : List ℕ) → length before ≡ 8 → Moves (walker_in before) r 0 after → after ≡ before
unfolding after_step step_on
walker_stays before e m =
    let w = walker_in before in
    let given : Paper → List ℕ = λ (p : Paper). walker_row (moved p w) in
    ⊎_elim
    (λ (t : is_walker w ≡ true). m.row ∙ ap given (none_here w t m.told.value) ∙ walker_row_again before e)
    (λ (t : is_walker w ≡ false). m.row ∙ ap given (ap (λ (holds : Bool). unless holds not_one (stepped w)) t) ∙ walker_row_again before e)
    (tested (is_walker w))
