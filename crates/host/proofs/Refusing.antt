-- What a refusal leaves. Where a call's number isn't 0, its values are 0, and no lent memory has changed,
-- but for the row that opening and reading hand back as zeros.
--     count_zero, hit-zero, cell_zero, length-zero, estimate_zero    the values of `pot_count`, `pot_next_hit`, `pot_walker_next`, `pot_write`, `pot_estimate`
--     plain_count_zero, plain_hit_zero    those of `pot_plain_count`, `pot_plain_next_hit`
--     block_seven, place_two    `pot_read` names a block with 7 alone, and `pot_add_row` a place with 2 alone
--     sketch_left, row_left, walker_left, room_left    what adding and merging, adding a row, a walker's step and writing were lent
--     sketch_zeroed, read_zeroed, walker_zeroed    what opening, reading and opening a walker hand back
-- Assumes nothing.
use mathlib.Core.Path.{◌≡◌, refl, ◌∙◌, subst}
use mathlib.Core.Bool.{Bool, true, false, cond}
use mathlib.Core.List.{List, [], ◌∷◌}
use Prim.Native.Nat.{ℕ, ◌<◌}
use native.Mathlib.Omega.{arith}
use lib.Dec.{leb, ltb}
use lib.IntN.{pos}
use lib.Ieee.{Float, binary64, of_int}
use lib.ListN.{length, replicate}
use Rattle.rule.specs.declared.Settings.{Settings}
use Rattle.rule.specs.Rule.{is_good, top}
use Rattle.rule.specs.Samples.{range_count, next_hit}
use Rattle.rule.specs.Refusals.{Outcome, Paper, answered, refused, unless, unless_at, bad_settings, bad_range, bad_level, not_one, no_room, bad_check, bad_image, hits}
use Rattle.find.specs.declared.Walker.{Walker}
use Rattle.find.specs.Finding.{is_cell, in_range, on_settings, count_on, next_on}
use Rattle.find.specs.Walking.{start_on, is_walker, step_on, walker_at, started, moved, after_step}
use Rattle.sketch.specs.declared.Sketch.{Sketch}
use Rattle.sketch.specs.Estimates.{Weight, exactly, about}
use Rattle.sketch.specs.Sketches.{is_sketch}
use Rattle.sketch.specs.Calls.{no_sketch, handed}
use Rattle.row.specs.declared.Stretch.{Stretch}
use Rattle.row.specs.Stretches.{all_in, first_bad, add_all, row_on}
use Rattle.plain.specs.Plain.{is_small, plain_count_on, plain_next_on}
use Rattle.layout.specs.Images.{image_of, said_settings, spelled}
use Rattle.layout.specs.Shapes.{blocks_in, first_wrong}
use Rattle.image.specs.Calls.{write_on, room_after, right_length, marked, is_image, read_marked, read_on}
use Rattle.crossing.specs.Crossing.{sketch_row, sketch_in, walker_row, walker_in, told_number, told_value, Crosses, Weighs}
use Rattle.host.specs.Promises.{Gives, AddsRow, ReadsIn, WritesOut, Begins, Moves}
use Rattle.crossing.proofs.Crossings.{row_again, walker_row_again, zero_row, zero-walker_row}

-- a paper that has no value with a refusal
Bare : Paper → Type 0
Bare paper = 0 < told_number paper → told_value paper ≡ 0

bare_answer : (values : List ℕ) → Bare (answered values)
unfolding Bare
bare_answer values h = absurd (omega arith)

bare_unless : (holds : Bool) (number : ℕ) (paper : Paper) → Bare paper → Bare (unless holds number paper)
unfolding Bare
bare_unless true number paper b = b
bare_unless false number paper b = λ h. refl

bare_settings : (s : Settings) (level : ℕ) (inside : Bool) (values : List ℕ) → Bare (on_settings s level inside (answered values))
bare_settings s level inside values =
    bare_unless (is_good s) bad_settings _ (bare_unless (leb level (top s)) bad_level _ (bare_unless inside bad_range _ (bare_answer values)))

bare_count : (s : Settings) (level lo hi : ℕ) → Bare (count_on s level lo hi)
unfolding count_on
bare_count s level lo hi = bare_settings s level (in_range s lo hi) (range_count s level lo hi ∷ [])

bare_hit : (s : Settings) (level from : ℕ) → Bare (next_on s level from)
unfolding next_on
bare_hit s level from = bare_settings s level (is_cell s from) (hits (next_hit s level from s.n))

module _ {r v : ℕ} (refusal : 0 < r) where
  bare_zero : {paper : Paper} → Bare paper → Crosses paper r v → v ≡ 0
  unfolding Bare
  bare_zero b c = c.value ∙ b (subst (λ (m : ℕ). 0 < m) c.number refusal)

  pub count_zero : (s : Settings) (level lo hi : ℕ) → Crosses (count_on s level lo hi) r v → v ≡ 0
  count_zero s level lo hi = bare_zero (bare_count s level lo hi)

  pub hit-zero : (s : Settings) (level from : ℕ) → Crosses (next_on s level from) r v → v ≡ 0
  hit-zero s level from = bare_zero (bare_hit s level from)

  pub plain_count_zero : (s : Settings) (level lo hi : ℕ) → Crosses (plain_count_on s level lo hi) r v → v ≡ 0
  unfolding plain_count_on
  plain_count_zero s level lo hi = bare_zero (bare_unless (is_small s) bad_settings (count_on s level lo hi) (bare_count s level lo hi))

  pub plain_hit_zero : (s : Settings) (level from : ℕ) → Crosses (plain_next_on s level from) r v → v ≡ 0
  unfolding plain_next_on
  plain_hit_zero s level from = bare_zero (bare_unless (is_small s) bad_settings (next_on s level from) (bare_hit s level from))

  pub cell_zero : {after : List ℕ} (w : Walker) → Moves w r v after → v ≡ 0
  unfolding step_on
  cell_zero w m = bare_zero (bare_unless (is_walker w) not_one _ (bare_answer (hits (next_hit w.settings w.level w.at w.hi)))) m.told

  pub length-zero : {after : List ℕ} (k : Sketch) (room : List ℕ) → WritesOut k room r v after → v ≡ 0
  unfolding write_on
  length-zero k room w =
      let bare = bare_unless (leb (length (image_of k)) (length room)) no_room _ (bare_answer (length (image_of k) ∷ [])) in
      bare_zero (bare_unless (is_sketch k) not_one _ bare) w.told

  pub estimate_zero : {x : Float} (estimate : Outcome Weight) → Weighs estimate r v x → (v ≡ 0) × (x ≡ of_int binary64 (pos 0))
  estimate_zero (answered (exactly n)) w = absurd (omega (arith, refusal, w.number))
  estimate_zero (answered (about y)) w = absurd (omega (arith, refusal, w.number))
  estimate_zero (refused number place) w = (w.exact, w.value)

-- a paper that names a place with this number alone
module _ (number : ℕ) where
  Alone : Paper → Type 0
  Alone paper = 0 < told_value paper → told_number paper ≡ number

  alone_done : Alone (answered [])
  unfolding Alone
  alone_done h = absurd (omega (arith, h))

  alone_unless : (holds : Bool) (other : ℕ) (paper : Paper) → Alone paper → Alone (unless holds other paper)
  unfolding Alone
  alone_unless true other paper s = s
  alone_unless false other paper s = λ h. absurd (omega (arith, h))

  alone_at : (holds : Bool) (place : ℕ) (paper : Paper) → Alone paper → Alone (unless_at holds number place paper)
  unfolding Alone
  alone_at true place paper s = s
  alone_at false place paper s = λ h. refl

  alone_check : (wrong : Bool) (place : ℕ) (paper : Paper) → Alone paper → Alone (cond wrong (refused number place) paper)
  unfolding Alone
  alone_check true place paper s = λ h. refl
  alone_check false place paper s = s

  alone_told : {r place : ℕ} (paper : Paper) → Alone paper → 0 < place → Crosses paper r place → r ≡ number
  unfolding Alone
  alone_told paper s h c = c.number ∙ s (subst (λ (m : ℕ). 0 < m) c.value h)

seven_read : (bytes : List ℕ) → Alone bad_check (read_on bytes)
unfolding read_on read_marked
seven_read bytes =
    let all = alone_unless bad_check (is_image bytes) bad_image (answered []) (alone_done bad_check) in
    let marks = alone_unless bad_check (marked bytes) bad_image _ (alone_unless bad_check (is_good (said_settings bytes)) bad_settings _ all) in
    let checks = alone_check bad_check (ltb (first_wrong bytes) (blocks_in bytes)) (first_wrong bytes) _ marks in
    alone_unless bad_check (right_length (length bytes)) bad_image _ checks

two_row : (k : Sketch) (ts : List Stretch) → Alone bad_range (row_on k ts)
unfolding row_on
two_row k ts =
    let all = alone_at bad_range (all_in k.settings ts) (first_bad k.settings ts) (answered []) (alone_done bad_range) in
    alone_unless bad_range (is_sketch k) not_one _ all

module _ {r place : ℕ} {after : List ℕ} where
  pub block_seven : (bytes : List ℕ) → 0 < place → ReadsIn bytes r place after → r ≡ bad_check
  block_seven bytes h d = alone_told bad_check (read_on bytes) (seven_read bytes) h d.told

  pub place_two : (before : List ℕ) (ts : List Stretch) → 0 < place → AddsRow before ts r place after → r ≡ bad_range
  place_two before ts h d = alone_told bad_range (row_on (sketch_in before) ts) (two_row (sketch_in before) ts) h d.told

-- the paper of a call whose number isn't 0 is a refusal, so what it gives is what refusals give
module _ {r : ℕ} (refusal : 0 < r) {A : Type 0} (same : A) (given : Paper → A) where
  refused_alone : (paper : Paper) → r ≡ told_number paper → ((number place : ℕ) → given (refused number place) ≡ same) → given paper ≡ same
  refused_alone (answered values) e l = absurd (omega (arith, refusal, e))
  refused_alone (refused number place) e l = l number place

module _ {r : ℕ} {after : List ℕ} (refusal : 0 < r) where
  pub sketch_left : (paper : Paper) (next : Sketch) (before : List ℕ) → length before ≡ 511
      → Gives paper next (sketch_in before) r after → after ≡ before
  sketch_left paper next before e g =
      g.row
      ∙ refused_alone refusal before (λ (p : Paper). sketch_row (handed p next (sketch_in before))) paper g.number (λ number place. row_again before e)

  pub row_left : {place : ℕ} (before : List ℕ) (ts : List Stretch) → length before ≡ 511 → AddsRow before ts r place after → after ≡ before
  row_left before ts e d =
      sketch_left (row_on (sketch_in before) ts) (add_all (sketch_in before) ts) before e (record { number = d.told.number; row = d.row })

  pub sketch_zeroed : (paper : Paper) (next : Sketch) → Gives paper next no_sketch r after → after ≡ replicate 511 0
  sketch_zeroed paper next g =
      g.row
      ∙ refused_alone refusal (replicate 511 0) (λ (p : Paper). sketch_row (handed p next no_sketch)) paper g.number (λ number place. zero_row)

  pub read_zeroed : {block : ℕ} (bytes : List ℕ) → ReadsIn bytes r block after → after ≡ replicate 511 0
  read_zeroed bytes d = sketch_zeroed (read_on bytes) (spelled bytes) (record { number = d.told.number; row = d.row })

  pub room_left : {size : ℕ} (k : Sketch) (room : List ℕ) → WritesOut k room r size after → after ≡ room
  room_left k room w =
      w.contents
      ∙ refused_alone refusal room (λ (p : Paper). room_after p k room) (write_on k (length room)) w.told.number (λ number place. refl)

  pub walker_zeroed : (s : Settings) (level lo hi : ℕ) → Begins s level lo hi r after → after ≡ replicate 8 0
  walker_zeroed s level lo hi b =
      let given : Paper → List ℕ = λ (p : Paper). walker_row (started p (walker_at s level lo hi)) in
      b.row ∙ refused_alone refusal (replicate 8 0) given (start_on s level lo hi) b.number (λ number place. zero-walker_row)

  pub walker_left : {cell : ℕ} (before : List ℕ) → length before ≡ 8 → Moves (walker_in before) r cell after → after ≡ before
  unfolding after_step
  walker_left before e m =
      let given : Paper → List ℕ = λ (p : Paper). walker_row (moved p (walker_in before)) in
      m.row ∙ refused_alone refusal before given (step_on (walker_in before)) m.told.number (λ number place. walker_row_again before e)
