-- What demand 1 asks of a call: an answer for every input, a refusal for its cause alone, and for the first cause that holds.
-- Assumes nothing: these are definitions.
use Rattle.std.specs.Prelude.{ℕ, Bool, true, false, not, ◌≡◌, ◌⊎◌, List, [], ◌∷◌, leb, ltb, length}
use Rattle.rule.specs.declared.Settings.{Settings}
use Rattle.rule.specs.Rule.{is_good, top}
use Rattle.rule.specs.Refusals.{Outcome, answered, refused, bad_settings, bad_range, bad_level, not_one, unequal, no_room, bad_check, bad_image}
use Rattle.find.specs.declared.Walker.{Walker}
use Rattle.find.specs.Finding.{is_cell, in_range}
use Rattle.find.specs.Walking.{is_walker}
use Rattle.sketch.specs.declared.Sketch.{Sketch}
use Rattle.sketch.specs.Sketches.{is_sketch}
use Rattle.sketch.specs.Calls.{same_settings}
use Rattle.row.specs.declared.Stretch.{Stretch}
use Rattle.row.specs.Stretches.{all_in, first_bad}
use Rattle.plain.specs.Plain.{is_small}
use Rattle.layout.specs.Images.{image_of, said_settings}
use Rattle.layout.specs.Shapes.{blocks_in, first_wrong}
use Rattle.image.specs.Calls.{right_length, marked, is_image}

-- what must hold, and the refusal where it doesn't: its number and its place: the block for 7, the first bad stretch for a row's 2, zero elsewhere
pub record Rule : Type 0 where
  pub holds : Bool
  pub number : ℕ
  pub place : ℕ

abbrev pub rule_at : Bool → ℕ → ℕ → Rule
rule_at holds number place = record { holds = holds; number = number; place = place }

abbrev pub rule : Bool → ℕ → Rule
rule holds number = rule_at holds number 0

-- the first of the rules that is broken has this number and place
abbrev pub Cause : List Rule → ℕ → ℕ → Type 0
Cause [] number place = ⊥
Cause (r ∷ rs) number place = ((r.holds ≡ false) × (number ≡ r.number) × (place ≡ r.place)) ⊎ ((r.holds ≡ true) × Cause rs number place)

-- all rules are kept
abbrev pub Obeyed : List Rule → Type 0
Obeyed [] = Unit {0}
Obeyed (r ∷ rs) = (r.holds ≡ true) × Obeyed rs

-- a refusal for a cause
pub record Refusal {Told : Type 0} (outcome : Outcome Told) (rules : List Rule) : Type 0 where
  pub number : ℕ
  pub place : ℕ
  pub cause : Cause rules number place
  pub given : outcome ≡ refused number place

-- an outcome that is lawful under the rules (RULES: Demands)
pub record Lawful {Told : Type 0} (outcome : Outcome Told) (rules : List Rule) (told : Told) : Type 0 where
  -- every input has an answer: it tells this where all rules are kept, and otherwise it is a refusal for a cause
  pub always : (Obeyed rules × (outcome ≡ answered told)) ⊎ Refusal outcome rules
  -- a refusal's number implies its cause
  pub only : (number place : ℕ) → outcome ≡ refused number place → Cause rules number place
  -- a cause, with no earlier one, implies the refusal
  pub first : (number place : ℕ) → Cause rules number place → outcome ≡ refused number place

-- the rules of each call, in their order (RULES: Refusals)

abbrev pub count_rules : Settings → ℕ → ℕ → ℕ → List Rule
count_rules s level lo hi = rule (is_good s) bad_settings ∷ rule (leb level (top s)) bad_level ∷ rule (in_range s lo hi) bad_range ∷ []

abbrev pub next_rules : Settings → ℕ → ℕ → List Rule
next_rules s level from = rule (is_good s) bad_settings ∷ rule (leb level (top s)) bad_level ∷ rule (is_cell s from) bad_range ∷ []

abbrev pub step_rules : Walker → List Rule
step_rules w = rule (is_walker w) not_one ∷ []

abbrev pub open_rules : Settings → List Rule
open_rules s = rule (is_good s) bad_settings ∷ []

abbrev pub add_rules : Sketch → ℕ → ℕ → List Rule
add_rules k lo hi = rule (is_sketch k) not_one ∷ rule (in_range k.settings lo hi) bad_range ∷ []

abbrev pub row_rules : Sketch → List Stretch → List Rule
row_rules k ts = rule (is_sketch k) not_one ∷ rule_at (all_in k.settings ts) bad_range (first_bad k.settings ts) ∷ []

-- of the plain engine: 1 also where n is above its limit; on a sketch 4 comes before that

abbrev pub plain_count_rules : Settings → ℕ → ℕ → ℕ → List Rule
plain_count_rules s level lo hi = rule (is_small s) bad_settings ∷ count_rules s level lo hi

abbrev pub plain_next_rules : Settings → ℕ → ℕ → List Rule
plain_next_rules s level from = rule (is_small s) bad_settings ∷ next_rules s level from

abbrev pub plain_add_rules : Sketch → ℕ → ℕ → List Rule
plain_add_rules k lo hi = rule (is_sketch k) not_one ∷ rule (is_small k.settings) bad_settings ∷ rule (in_range k.settings lo hi) bad_range ∷ []

abbrev pub merge_rules : Sketch → Sketch → List Rule
merge_rules j k = rule (is_sketch j) not_one ∷ rule (is_sketch k) not_one ∷ rule (same_settings j.settings k.settings) unequal ∷ []

abbrev pub estimate_rules : Sketch → List Rule
estimate_rules k = rule (is_sketch k) not_one ∷ []

abbrev pub write_rules : Sketch → ℕ → List Rule
write_rules k room = rule (is_sketch k) not_one ∷ rule (leb (length (image_of k)) room) no_room ∷ []

abbrev pub read_rules : List ℕ → List Rule
read_rules s =
    rule (right_length (length s)) bad_image ∷
    rule_at (not (ltb (first_wrong s) (blocks_in s))) bad_check (first_wrong s) ∷
    rule (marked s) bad_image ∷
    rule (is_good (said_settings s)) bad_settings ∷
    rule (is_image s) bad_image ∷ []
