-- Demand 1: every call answers every input; a refusal's number implies its cause, and a cause with no earlier one implies the refusal;
-- what was given comes back unchanged, opening and reading hand back all zeros, lent memory stays as it was.
--     count_lawful, next_lawful, start_lawful, step_lawful, open_lawful, add_lawful, row_lawful, merge_lawful, estimate_lawful,
--     write_lawful, read_lawful
--     plain_count_lawful, plain_next_lawful, plain_add_lawful     the plain engine
--     numbers, limit_is     the numbers of the refusals, and the plain engine's limit
--     before-first, first_is_wrong    7 names the first block whose check is wrong
--     row_before, row_is_bad    a row's 2 names the first stretch that isn't in range
--     sketch_zeros, walker_zeros      the value of all zeros
--     hands_back, hands_row_back, start_back, step_back, read_zeros, room_back    what comes back with a refusal
-- Assumes nothing.
use Prim.Native.Nat.{ℕ, ◌<◌}
use mathlib.Core.Path.{◌≡◌, refl, sym, ap, ◌∙◌}
use mathlib.Core.Bool.{Bool, true, false, not, cond}
use mathlib.Core.Logic.{inl, inr, ⊎_elim}
use mathlib.Core.List.{List, [], ◌∷◌}
use native.Mathlib.Omega.{arith}
use lib.Dec.{ltb}
use lib.ListN.{length, get_or, replicate}
use borrow.Author.Tests.{leb-false, not-false, not-true}
use Rattle.lists.proofs.Tests.{tested}
use Rattle.lists.proofs.Searches.{least-least, least-found}
use Rattle.rule.specs.declared.refusals.Refusal.{Refusal as Reason}
use Rattle.rule.specs.declared.refusals.RowError.{RowError}
use Rattle.rule.specs.declared.refusals.ReadError.{ReadError}
use Rattle.std.specs.Prelude.{Result}
use Rattle.rule.specs.declared.Settings.{Settings}
use Rattle.rule.specs.Refusals.{Outcome, Paper, answered, refused, unless_at, bad_settings, bad_range, bad_level, not_one, unequal, no_room, bad_check, bad_image, hits}
use Rattle.rule.specs.Refusals.{bad_line, of_row}
use Rattle.rule.specs.Rule.{no_settings}
use Rattle.rule.specs.Samples.{range_count, next_hit}
use Rattle.block.specs.Sums.{block_good}
use Rattle.find.specs.declared.Walker.{Walker}
use Rattle.find.specs.declared.Started.{Started}
use Rattle.find.specs.declared.Stepped.{Stepped}
use Rattle.find.specs.Finding.{count_on, next_on}
use Rattle.find.specs.Walking.{start_on, step_on, after_step, moved, no_walker, Starts, Steps}
use Rattle.sketch.specs.declared.Sketch.{Sketch}
use Rattle.sketch.specs.declared.Changed.{Changed}
use Rattle.sketch.specs.Sketches.{sketch_at}
use Rattle.sketch.specs.Calls.{open_on, add_on, merge_on, no_sketch, Hands}
use Rattle.sketch.specs.Estimates.{weight_of, estimate_on}
use Rattle.row.specs.declared.Stretch.{Stretch}
use Rattle.row.specs.Stretches.{within, first_bad, add_all, row_on, HandsRow}
use Rattle.row.proofs.Places.{none, all_by_place, bad_there, good-before}
use Rattle.plain.specs.Plain.{limit, plain_count_on, plain_next_on, plain_add_on}
use Rattle.layout.specs.Images.{image_of}
use Rattle.layout.specs.Shapes.{block_at, blocks_in, first_wrong}
use Rattle.image.specs.Calls.{write_on, read_on, read_marked, Writes, Reads}
use Rattle.demands.specs.Causes.{Rule, Lawful, count_rules, next_rules, step_rules, open_rules, add_rules, row_rules, merge_rules, estimate_rules, write_rules}
use Rattle.demands.specs.Causes.{read_rules, plain_count_rules, plain_next_rules, plain_add_rules}

-- the first broken rule refuses
judged : {Told : Type 0} → List Rule → Told → Outcome Told
judged [] told = answered told
judged (r ∷ rs) told = cond r.holds (judged rs told) (refused r.number r.place)

unless_cond : {Told : Type 0} (t : Bool) (number place : ℕ) (x : Outcome Told) → unless_at t number place x ≡ cond t x (refused number place)
unless_cond true number place x = refl
unless_cond false number place x = refl

module _ {Told : Type 0} where
  same_outcome : (x y : Outcome Told) (rules : List Rule) (told : Told) → x ≡ y → Lawful y rules told → Lawful x rules told
  same_outcome x y rules told e w =
      record {
        always =
            ⊎_elim
            (λ h. inl (h.0, e ∙ h.1))
            (λ h. inr (record { number = h.number; place = h.place; cause = h.cause; given = e ∙ h.given }))
            w.always;
        only = λ number place h. w.only number place (sym e ∙ h);
        first = λ number place h. e ∙ w.first number place h;
      }

  lawful : (rules : List Rule) (told : Told) → Lawful (judged rules told) rules told
  unfolding judged
  lawful [] told =
      record {
        always = inl (tt, refl);
        only = λ number place h. (let z : ◌≡◌ {A = ℕ} 0 1 = cc in omega arith);
        first = λ number place h. absurd h;
      }
  lawful (r ∷ rs) told =
      let w = lawful rs told in
      ⊎_elim
      (λ (e : r.holds ≡ true).
      let p : judged (r ∷ rs) told ≡ judged rs told = cc in
      record {
        always =
            ⊎_elim
            (λ h. inl ((e, h.0), p ∙ h.1))
            (λ h. inr (record { number = h.number; place = h.place; cause = inr (e, h.cause); given = p ∙ h.given }))
            w.always;
        only = λ number place h. inr (e, w.only number place (sym p ∙ h));
        first =
            λ number place h.
            ⊎_elim
            (λ q. (let z : ◌≡◌ {A = Bool} true false = sym e ∙ q.0 in let o : ◌≡◌ {A = ℕ} 0 1 = cc in absurd (omega arith)))
            (λ q. p ∙ w.first number place q.1)
            h;
      })
      (λ (e : r.holds ≡ false).
      let p : judged (r ∷ rs) told ≡ refused r.number r.place = cc in
      record {
        always = inr (record { number = r.number; place = r.place; cause = inl (e, refl, refl); given = p });
        only = λ number place h. (let a : number ≡ r.number = cc in let b : place ≡ r.place = cc in inl (e, a, b));
        first =
            λ number place h.
            ⊎_elim
            (λ q. p ∙ (let a : number ≡ r.number = q.1 in let b : place ≡ r.place = q.2 in cc))
            (λ q. (let o : ◌≡◌ {A = ℕ} 0 1 = cc in absurd (omega arith)))
            h;
      })
      (tested r.holds)

  -- a call whose answer is those rules in order
  by_rules : (outcome : Outcome Told) (rules : List Rule) (told : Told) → outcome ≡ judged rules told → Lawful outcome rules told
  by_rules outcome rules told e = same_outcome outcome (judged rules told) rules told e (lawful rules told)

pub count_lawful : (s : Settings) (level lo hi : ℕ) → Lawful (count_on s level lo hi) (count_rules s level lo hi) (range_count s level lo hi ∷ [])
unfolding count_on judged
count_lawful s level lo hi = by_rules (count_on s level lo hi) (count_rules s level lo hi) (range_count s level lo hi ∷ []) (simp unless_cond)

pub next_lawful : (s : Settings) (level from : ℕ) → Lawful (next_on s level from) (next_rules s level from) (hits (next_hit s level from s.n))
unfolding next_on judged
next_lawful s level from = by_rules (next_on s level from) (next_rules s level from) (hits (next_hit s level from s.n)) (simp unless_cond)

pub start_lawful : (s : Settings) (level lo hi : ℕ) → Lawful (start_on s level lo hi) (count_rules s level lo hi) ([])
unfolding start_on judged
start_lawful s level lo hi = by_rules (start_on s level lo hi) (count_rules s level lo hi) ([]) (simp unless_cond)

pub step_lawful : (w : Walker) → Lawful (step_on w) (step_rules w) (hits (next_hit w.settings w.level w.at w.hi))
unfolding step_on judged
step_lawful w = by_rules (step_on w) (step_rules w) (hits (next_hit w.settings w.level w.at w.hi)) (simp unless_cond)

pub open_lawful : (s : Settings) → Lawful (open_on s) (open_rules s) ([])
unfolding open_on judged
open_lawful s = by_rules (open_on s) (open_rules s) ([]) (simp unless_cond)

pub add_lawful : (k : Sketch) (lo hi : ℕ) → Lawful (add_on k lo hi) (add_rules k lo hi) ([])
unfolding add_on judged
add_lawful k lo hi = by_rules (add_on k lo hi) (add_rules k lo hi) ([]) (simp unless_cond)

-- a row: 2 names its place
pub row_lawful : (k : Sketch) (ts : List Stretch) → Lawful (row_on k ts) (row_rules k ts) ([])
unfolding row_on judged
row_lawful k ts = by_rules (row_on k ts) (row_rules k ts) ([]) (simp unless_cond)

-- the plain engine: 1 above its limit
pub plain_count_lawful : (s : Settings) (level lo hi : ℕ)
    → Lawful (plain_count_on s level lo hi) (plain_count_rules s level lo hi) (range_count s level lo hi ∷ [])
unfolding plain_count_on count_on judged
plain_count_lawful s level lo hi =
    by_rules (plain_count_on s level lo hi) (plain_count_rules s level lo hi) (range_count s level lo hi ∷ []) (simp unless_cond)

pub plain_next_lawful : (s : Settings) (level from : ℕ)
    → Lawful (plain_next_on s level from) (plain_next_rules s level from) (hits (next_hit s level from s.n))
unfolding plain_next_on next_on judged
plain_next_lawful s level from =
    by_rules (plain_next_on s level from) (plain_next_rules s level from) (hits (next_hit s level from s.n)) (simp unless_cond)

pub plain_add_lawful : (k : Sketch) (lo hi : ℕ) → Lawful (plain_add_on k lo hi) (plain_add_rules k lo hi) ([])
unfolding plain_add_on judged
plain_add_lawful k lo hi = by_rules (plain_add_on k lo hi) (plain_add_rules k lo hi) ([]) (simp unless_cond)

pub merge_lawful : (j k : Sketch) → Lawful (merge_on j k) (merge_rules j k) ([])
unfolding merge_on judged
merge_lawful j k = by_rules (merge_on j k) (merge_rules j k) ([]) (simp unless_cond)

pub estimate_lawful : (k : Sketch) → Lawful (estimate_on k) (estimate_rules k) (weight_of k)
unfolding estimate_on judged
estimate_lawful k = by_rules (estimate_on k) (estimate_rules k) (weight_of k) (simp unless_cond)

pub write_lawful : (k : Sketch) (room : ℕ) → Lawful (write_on k room) (write_rules k room) (length (image_of k) ∷ [])
unfolding write_on judged
write_lawful k room = by_rules (write_on k room) (write_rules k room) (length (image_of k) ∷ []) (simp unless_cond)

-- reading: 7 names its block
not_cond : (t : Bool) (x y : Paper) → cond t x y ≡ cond (not t) y x
not_cond true x y = refl
not_cond false x y = refl

pub read_lawful : (s : List ℕ) → Lawful (read_on s) (read_rules s) []
unfolding read_on read_marked judged
read_lawful s = by_rules (read_on s) (read_rules s) [] (simp (unless_cond, not_cond (ltb (first_wrong s) (blocks_in s))))

-- what comes back with a refusal
pub hands_back : (paper : Paper) (next old : Sketch) (r : Changed Reason) (number place : ℕ) → Hands paper next old r → paper ≡ refused number place → r.sketch ≡ old
hands_back paper next old r number place h e = let p = h.sketch in cc

pub hands_row_back : (paper : Paper) (next old : Sketch) (r : Changed RowError) (number place : ℕ) → HandsRow paper next old r → paper ≡ refused number place
    → r.sketch ≡ old
hands_row_back paper next old r number place h e = let p = h.sketch in cc

pub start_back : (s : Settings) (level lo hi : ℕ) (r : Started) (number place : ℕ) → Starts s level lo hi r → start_on s level lo hi ≡ refused number place
    → r.walker ≡ no_walker
start_back s level lo hi r number place h e = let p = h.walker in cc

pub step_back : (w : Walker) (r : Stepped) (number place : ℕ) → Steps w r → step_on w ≡ refused number place → r.walker ≡ w
unfolding after_step
step_back w r number place h e = h.walker ∙ ap (λ (q : Paper). moved q w) e

pub read_zeros : (s : List ℕ) (r : Changed ReadError) (number place : ℕ) → Reads s r → read_on s ≡ refused number place → r.sketch ≡ no_sketch
read_zeros s r number place h e = let p = h.sketch in cc

pub room_back : (k : Sketch) (room after : List ℕ) (r : Result ℕ Reason) (number place : ℕ) → Writes k room r after → write_on k (length room) ≡ refused number place
    → after ≡ room
room_back k room after r number place h e = let p = h.contents in cc

-- the numbers, as they are told to those outside
pub numbers : (bad_settings ∷ bad_range ∷ bad_level ∷ not_one ∷ unequal ∷ no_room ∷ bad_check ∷ bad_image ∷ bad_line ∷ []) ≡ (1 ∷ 2 ∷ 3 ∷ 4 ∷ 5 ∷ 6 ∷ 7 ∷ 8 ∷ 9 ∷ [])
numbers = refl

pub limit_is : limit ≡ 4096
limit_is = refl

-- 7 names the first wrong block: every block before it is right
pub before-first : (s : List ℕ) (j : ℕ) → j < first_wrong s → block_good (block_at j s) ≡ true
unfolding first_wrong
before-first s j h =
    let q : ℕ → Bool = λ i. not (block_good (block_at i s)) in
    ⊎_elim
    (λ (t : q j ≡ true). absurd (omega (arith, least-least q (blocks_in s) 0 j (omega arith) t)))
    (λ (t : q j ≡ false). not-false (block_good (block_at j s)) t)
    (tested (q j))

-- and it is wrong itself
pub first_is_wrong : (s : List ℕ) → first_wrong s < blocks_in s → block_good (block_at (first_wrong s) s) ≡ false
unfolding first_wrong
first_is_wrong s h =
    let q : ℕ → Bool = λ i. not (block_good (block_at i s)) in
    not-true (block_good (block_at (first_wrong s) s)) (least-found q (blocks_in s) 0 (omega arith))

-- a row's 2 names the first bad stretch
module _ (k : Sketch) (ts : List Stretch) (r : Changed RowError) (place : ℕ) (h : HandsRow (row_on k ts) (add_all k ts) k r)
    (e : of_row r.answer ≡ refused bad_range place) where
  named : (place ≡ first_bad k.settings ts) × (first_bad k.settings ts < length ts)
  named =
      ⊎_elim
      (λ c. absurd (omega (arith, c.1)))
      (λ c. ⊎_elim (λ f. (f.2, leb-false (length ts) (first_bad k.settings ts) (all_by_place k.settings ts ∙ f.0))) (λ f. absurd f.1) c.1)
      ((row_lawful k ts).only bad_range place (sym h.answer ∙ e))

  -- it is a place of the row, and its stretch isn't in range
  pub row_is_bad : (place < length ts) × (within k.settings (get_or ts place none) ≡ false)
  row_is_bad = rw named.0 (named.1, bad_there k.settings ts named.1)

  -- every stretch before it is
  pub row_before : (i : ℕ) → i < place → within k.settings (get_or ts i none) ≡ true
  row_before i l = good-before k.settings ts i (omega (arith, named.0, l))

-- what a refused opening or reading hands back is zero everywhere
pub sketch_zeros : no_sketch ≡ record { settings = no_settings; level = 0; count = 0; cells = replicate 504 0 }
unfolding sketch_at
sketch_zeros = refl

pub walker_zeros : no_walker ≡ record { settings = no_settings; level = 0; at = 0; hi = 0 }
walker_zeros = refl
