-- What is kept of a set, as the code comes to it.
--     zeros_sized      the row to fill
--     keeps_stored, stored-few    the sample stored at the lowest level
--     keeps_whole      a row with all of another's places stored in it keeps the same
--     keeps_agree      two sets that agree on what passes keep the same
--     settle_hits      how many of the range pass is a small number
--     settle_now, settle_not    whether all fits at this level, by how many there are
--     settle_room, settle_next, settle_fits    and otherwise there is a level above it, from which the search goes on
-- Assumes nothing.
use mathlib.Core.Path.{◌≡◌, sym, ap, ◌∙◌}
use mathlib.Core.Bool.{true, false}
use mathlib.Core.List.{List}
use Prim.Native.Nat.{ℕ, suc, ◌+◌, ◌≤◌, ◌<◌}
use native.Mathlib.Omega.{arith}
use lib.ListN.{length, replicate, length-replicate}
use borrow.Author.Tests.{le-leb, lt-leb}
use Rattle.lists.specs.Rows.{placed, Stored}
use Rattle.lists.proofs.Places.{placed-pad}
use Rattle.lists.proofs.Stores.{stored-whole}
use Rattle.rule.specs.declared.Settings.{Settings}
use Rattle.rule.specs.Cells.{Cells}
use Rattle.rule.specs.Rule.{Good, top}
use Rattle.rule.specs.Samples.{sample, fits, lowest, range_count}
use Rattle.rule.proofs.Samples.{Agree, sample-same, fits-few, lowest_from, lowest-fits, lowest_step, lowest-same, below_top}
use Rattle.find.proofs.Counting.{count_few}
use Rattle.settle.specs.Around.{all_of}
use Rattle.settle.specs.Settling.{Present, Keeps}
use Rattle.settle.proofs.Around.{fits-present}

pub zeros_sized : (out : List ℕ) → out ≡ replicate 504 0 → length out ≡ 504
zeros_sized out e = let z : length (replicate {A = ℕ} 504 0) ≡ 504 = length-replicate {A = ℕ} 504 0 in ap length e ∙ z

module _ {s : Settings} (X : Cells) (level : ℕ) {count : ℕ} {out row : List ℕ} (g : Stored out 0 (sample s X level) count row) where
  pub keeps_stored : (here : ℕ) → level ≡ lowest s X here → out ≡ replicate 504 0 → Keeps s X here 504 level count row
  keeps_stored here e z =
      record {
        lowest_level = e;
        number = omega (arith, g.next_place);
        contents = g.contents ∙ ap (λ (l : List ℕ). placed l 0 (sample s X level)) z ∙ placed-pad 504 (sample s X level);
      }

  pub stored-few : Good s → fits s X level ≡ true → count ≤ 504
  stored-few w e = omega (arith, g.next_place, fits-few s X level e, w.capacity_high)

pub keeps_whole : {s : Settings} {X : Cells} {here places level count next : ℕ} {row out after : List ℕ} → Keeps s X here places level count out
    → length row ≤ length out → Stored row 0 out next after
    → Keeps s X here places level count after
keeps_whole k h g = record { lowest_level = k.lowest_level; number = k.number; contents = stored-whole h g ∙ k.contents }

pub keeps_agree : {s : Settings} {here places level count : ℕ} {row : List ℕ} (X Y : Cells) → Agree s here X Y → Keeps s X here places level count row
    → Keeps s Y here places level count row
keeps_agree {s} {here} {places} {level} X Y a k =
    let same : sample s X level ≡ sample s Y level = sample-same s here level X Y (omega (arith, k.lowest_level, lowest_from s X here)) a in
    record {
      lowest_level = k.lowest_level ∙ lowest-same s here X Y a;
      number = k.number ∙ ap length same;
      contents = rw (← same) k.contents;
    }

module _ {s : Settings} {level : ℕ} {front back : List ℕ} {lo hi : ℕ} (w : Present s level front back lo hi) where
  module _ {hits : ℕ} (e : hits ≡ range_count s level lo hi) where
    pub settle_hits : hits ≤ s.n
    settle_hits = omega (arith, count_few s level lo hi, w.around.one, w.around.last)

    pub settle_now : hits + length front + length back ≤ s.capacity → fits s (all_of front back lo hi) level ≡ true
    settle_now h = fits-present w ∙ le-leb (range_count s level lo hi + length front + length back) s.capacity (omega arith)

    pub settle_not : s.capacity < hits + length front + length back → fits s (all_of front back lo hi) level ≡ false
    settle_not h = fits-present w ∙ lt-leb (range_count s level lo hi + length front + length back) s.capacity (omega arith)

  module _ (e : fits s (all_of front back lo hi) level ≡ false) where
    pub settle_room : level + 1 ≤ top s
    settle_room = omega (arith, below_top s w.around.good (all_of front back lo hi) level w.low e)

    module _ {l : ℕ} (q : l ≡ lowest s (all_of front back lo hi) (level + 1)) where
      pub settle_next : l ≡ lowest s (all_of front back lo hi) level
      settle_next =
          let one : level + 1 ≡ suc level = omega arith in
          q ∙ ap (lowest s (all_of front back lo hi)) one ∙ sym (lowest_step s w.around.good (all_of front back lo hi) level (omega (arith, settle_room)) e)

      pub settle_fits : fits s (all_of front back lo hi) l ≡ true
      settle_fits = ap (fits s (all_of front back lo hi)) q ∙ lowest-fits s w.around.good (all_of front back lo hi) (level + 1) settle_room
