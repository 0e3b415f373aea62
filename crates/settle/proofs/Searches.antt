-- The search for the lowest level at which a set fits, as the code goes.
--     Raising, raise_start, raise_room, raise_on, raise_end, raise_top    upwards, in `climbed`
--     Lowering, lower-start, lower_on, lower_stop, lower_end    downwards from a guess, in `raised`
-- Assumes nothing.
use mathlib.Core.Path.{◌≡◌, refl, sym, ap, ◌∙◌}
use mathlib.Core.Bool.{true, false}
use Prim.Native.Nat.{ℕ, suc, ◌+◌, ◌-◌, ◌≤◌, ◌<◌}
use native.Mathlib.Omega.{arith}
use Rattle.rule.specs.declared.Settings.{Settings}
use Rattle.rule.specs.Cells.{Cells}
use Rattle.rule.specs.Rule.{Good, top}
use Rattle.rule.specs.Samples.{fits, lowest}
use Rattle.rule.proofs.Samples.{lowest_from, lowest-top, lowest-least, lowest_now, lowest-fits, lowest_step, lowest_past, below_top}

-- a level within the top, from which the lowest is the same
pub record Raising (s : Settings) (X : Cells) (level l : ℕ) : Type 0 where
  pub within : l ≤ top s
  pub same : lowest s X l ≡ lowest s X level

pub raise_start : (s : Settings) (X : Cells) (level : ℕ) → level ≤ top s → Raising s X level level
raise_start s X level h = record { within = h; same = refl }

module _ (s : Settings) (good : Good s) (X : Cells) {level l : ℕ} (g : Raising s X level l) where
  pub raise_room : fits s X l ≡ false → l < top s
  raise_room e = below_top s good X l g.within e

  pub raise_on : fits s X l ≡ false → Raising s X level (l + 1)
  raise_on e =
      let h : l < top s = raise_room e in
      let one : suc l ≡ l + 1 = omega arith in
      record { within = omega arith; same = ap (lowest s X) (sym one) ∙ sym (lowest_step s good X l h e) ∙ g.same }

  pub raise_end : fits s X l ≡ true → l ≡ lowest s X level
  raise_end e = sym (lowest_now s X l e) ∙ g.same

  pub raise_top : top s ≤ l → top s ≡ lowest s X level
  raise_top h = omega (arith, g.within, g.same, lowest_from s X l, lowest-top s X l g.within)

-- at this level it fits, and no level below the first is asked for
pub record Lowering (s : Settings) (X : Cells) (level l : ℕ) : Type 0 where
  pub from : level ≤ l
  pub within : l ≤ top s
  pub fit : fits s X l ≡ true

module _ (s : Settings) (good : Good s) (X : Cells) (level : ℕ) where
  pub lower-start : (guess found : ℕ) → level ≤ guess → guess ≤ top s → found ≡ lowest s X guess → found ≤ guess → Lowering s X level guess
  lower-start guess found h t e w =
      let same : lowest s X guess ≡ guess = omega (arith, lowest_from s X guess) in
      record { from = h; within = t; fit = ap (fits s X) (sym same) ∙ lowest-fits s good X guess t }

  module _ {l : ℕ} (g : Lowering s X level l) where
    pub lower_on : level < l → fits s X (l - 1) ≡ true → Lowering s X level (l - 1)
    lower_on h e = record { from = omega arith; within = omega (arith, g.within); fit = e }

    pub lower_stop : level < l → fits s X (l - 1) ≡ false → l ≡ lowest s X level
    lower_stop h e = omega (arith, lowest_past s good X level (l - 1) (omega (arith, g.within)) e, lowest-least s X level l g.from g.fit)

    pub lower_end : l ≤ level → l ≡ lowest s X level
    lower_end h = let e : l ≡ level = omega (arith, g.from) in sym (ap (lowest s X) (sym e) ∙ lowest_now s X l g.fit)
