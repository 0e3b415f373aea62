-- The laws of the calls that change a sketch.
--     hands_done, hands_refused    what is handed back, by the answer
--     open_good, open_bad    the answer to opening
--     add_unknown, add_outside, add_done    the answers to adding, in their order
--     merge_unknown, merge_other, merge-unequal, merge_done    the answers to merging, in their order
--     add_granted, merge_granted    where nothing refuses the call, all its tests held
--     add_bad, add_in, merge-both, add-told, merge-told    the same of sketches
--     row_kept     what a sketch gives the work on its cells
--     keeps_sketch, keeps_cut, kept-add, kept-merge    what that keeps is the next sketch
-- Assumes nothing.
use mathlib.Core.Path.{◌≡◌, sym, ap, ◌∙◌}
use mathlib.Core.Bool.{Bool, true, false}
use mathlib.Core.List.{List, []}
use Prim.Native.Nat.{ℕ, ◌≤◌, max}
use native.Mathlib.Omega.{arith}
use lib.ListN.{length, take}
use Rattle.lists.specs.Lists.{listed}
use Rattle.lists.specs.Rows.{pad}
use Rattle.lists.proofs.Places.{pad_cut}
use Rattle.rule.specs.declared.Settings.{Settings}
use Rattle.rule.specs.Cells.{Cells, ◌∪◌, interval}
use Rattle.rule.specs.Rule.{Good, is_good, top}
use Rattle.rule.specs.Samples.{sample, fits}
use Rattle.rule.specs.declared.refusals.Refusal.{Refusal}
use Rattle.rule.specs.Refusals.{Paper, answered, refused, unless, number_of, bad_settings, bad_range, not_one, unequal}
use Rattle.rule.proofs.Samples.{fits-few, lowest-fits}
use Rattle.find.specs.Finding.{in_range}
use Rattle.find.proofs.Checks.{unless-told}
use Rattle.sketch.specs.declared.Sketch.{Sketch}
use Rattle.sketch.specs.declared.Changed.{Changed}
use Rattle.settle.specs.Settling.{Keeps, kept_in, KeptRow}
use Rattle.sketch.specs.Sketches.{held, sketch_at, cells_of, kept_of, is_sketch, Sound, sketch_from, add, merge}
use Rattle.sketch.specs.Calls.{open_on, add_when, add_on, merge_when, merge_on, same_settings, done_with, refused_with, Hands}
use Rattle.sketch.proofs.Facts.{same_facts, count_few}

pub hands_done : (paper : Paper) (next old : Sketch) (r : Changed Refusal) → paper ≡ answered [] → r ≡ done_with next → Hands paper next old r
hands_done paper next old r e q = record { answer = cc; sketch = cc }

pub hands_refused : (paper : Paper) (next old : Sketch) (refusal : Refusal) (r : Changed Refusal) → paper ≡ refused (number_of refusal) 0 → r ≡ refused_with refusal old
    → Hands paper next old r
hands_refused paper next old refusal r e q = record { answer = cc; sketch = cc }

pub open_good : (s : Settings) → is_good s ≡ true → open_on s ≡ answered []
unfolding open_on
open_good s e = rw e

pub open_bad : (s : Settings) → is_good s ≡ false → open_on s ≡ refused bad_settings 0
unfolding open_on
open_bad s e = rw e

-- the answers to adding, and what an answer says
module _ (known : Bool) (s : Settings) (lo hi : ℕ) where
  pub add_unknown : known ≡ false → refused not_one 0 ≡ add_when known s lo hi
  add_unknown e = rw e

  pub add_outside : known ≡ true → in_range s lo hi ≡ false → refused bad_range 0 ≡ add_when known s lo hi
  add_outside e f = rw (e, f)

  pub add_done : known ≡ true → in_range s lo hi ≡ true → answered [] ≡ add_when known s lo hi
  add_done e f = rw (e, f)

  pub add_granted : answered [] ≡ add_when known s lo hi → (known ≡ true) × (in_range s lo hi ≡ true)
  add_granted e =
      let one = unless-told known not_one (unless (in_range s lo hi) bad_range (answered [])) [] (sym e) in
      (one.0, (unless-told (in_range s lo hi) bad_range (answered []) [] one.1).0)

-- and to merging
module _ (mine its : Bool) (s t : Settings) where
  pub merge_unknown : mine ≡ false → refused not_one 0 ≡ merge_when mine s its t
  merge_unknown e = rw e

  pub merge_other : mine ≡ true → its ≡ false → refused not_one 0 ≡ merge_when mine s its t
  merge_other e f = rw (e, f)

  pub merge-unequal : mine ≡ true → its ≡ true → same_settings s t ≡ false → refused unequal 0 ≡ merge_when mine s its t
  merge-unequal e f q = rw (e, f, q)

  pub merge_done : mine ≡ true → its ≡ true → same_settings s t ≡ true → answered [] ≡ merge_when mine s its t
  merge_done e f q = rw (e, f, q)

  pub merge_granted : answered [] ≡ merge_when mine s its t → (mine ≡ true) × (its ≡ true) × (s ≡ t)
  merge_granted e =
      let last = unless (same_settings s t) unequal (answered []) in
      let one = unless-told mine not_one (unless its not_one last) [] (sym e) in
      let two = unless-told its not_one last [] one.1 in
      (one.0, two.0, same_facts s t (unless-told (same_settings s t) unequal (answered []) [] two.1).0)

module _ (k : Sketch) (lo hi : ℕ) where
  pub add_bad : is_sketch k ≡ true → in_range k.settings lo hi ≡ false → add_on k lo hi ≡ refused bad_range 0
  unfolding add_on
  add_bad e f = sym (add_outside (is_sketch k) k.settings lo hi e f)

  pub add_in : is_sketch k ≡ true → in_range k.settings lo hi ≡ true → add_on k lo hi ≡ answered []
  unfolding add_on
  add_in e f = sym (add_done (is_sketch k) k.settings lo hi e f)

pub merge-both : (j k : Sketch) → is_sketch j ≡ true → is_sketch k ≡ true → same_settings j.settings k.settings ≡ true → merge_on j k ≡ answered []
unfolding merge_on
merge-both j k e f g = sym (merge_done (is_sketch j) (is_sketch k) j.settings k.settings e f g)

-- the answer where it is known of a sketch that it is one
pub add-told : {known : Bool} {p : Paper} (k : Sketch) (lo hi : ℕ) → known ≡ is_sketch k → p ≡ add_when known k.settings lo hi → p ≡ add_on k lo hi
unfolding add_on
add-told k lo hi e q = q ∙ ap (λ (t : Bool). add_when t k.settings lo hi) e

pub merge-told : {mine its : Bool} {p : Paper} (j k : Sketch) → mine ≡ is_sketch j → its ≡ is_sketch k → p ≡ merge_when mine j.settings its k.settings
    → p ≡ merge_on j k
unfolding merge_on
merge-told {mine} {its} j k e f q =
    q ∙ ap (λ (t : Bool). merge_when t j.settings its k.settings) e ∙ ap (λ (t : Bool). merge_when (is_sketch j) j.settings t k.settings) f

-- a sketch's row holds cells kept at its level, and zeros after them
pub row_kept : (k : Sketch) → length k.cells ≡ 504 → Sound k → KeptRow k.settings (kept_of k) k.cells
unfolding cells_of sketch_at
row_kept k e w =
    record {
      held =
          record {
            within = omega (arith, count_few k w);
            kept = record { good = w.settings; low = w.level; few = w.few; rise = w.rise; pass = w.pass };
          };
      padded = ap (λ (v : Sketch). v.cells) w.made;
    }

pub keeps_sketch : {s : Settings} {X : Cells} {here level count : ℕ} {row : List ℕ} → Keeps s X here 504 level count row
    → held s level count row ≡ sketch_from s X here
unfolding sketch_from sketch_at
keeps_sketch {s} {X} {here} {level} {count} {row} k =
    ap (λ (n : ℕ). held s level n row) k.number
    ∙ ap (held s level (length (sample s X level))) k.contents
    ∙ ap (λ (l : ℕ). held s l (length (sample s X l)) (pad 504 (sample s X l))) k.lowest_level

-- what is kept of a set fits into 504 places, so a longer row may be cut there
pub keeps_cut : {s : Settings} {X : Cells} {here level count : ℕ} {row : List ℕ} → Good s → here ≤ top s → Keeps s X here 1008 level count row
    → Keeps s X here 504 level count (take 504 row)
keeps_cut {s} {X} {here} {level} g low k =
    let few : length (sample s X level) ≤ 504 = omega (
      arith,
      g.capacity_high,
      fits-few s X level (ap (fits s X) k.lowest_level ∙ lowest-fits s g X here low),
    ) in
    record {
      lowest_level = k.lowest_level;
      number = k.number;
      contents = ap (take 504) k.contents ∙ pad_cut 504 1008 (sample s X level) few (omega arith);
    }

-- what adding and merging on the cells lent keep is the next sketch
module _ (k : Sketch) {level count : ℕ} {row : List ℕ} where
  pub kept-add : (lo hi : ℕ) → Keeps k.settings (listed (kept_in (kept_of k) k.cells) ∪ interval lo hi) k.level 504 level count row
      → held k.settings level count row ≡ add k lo hi
  unfolding add cells_of
  kept-add lo hi w = keeps_sketch w

  pub kept-merge : (j : Sketch) → Sound k → Sound j → k.settings ≡ j.settings
      → Keeps k.settings (listed (kept_in (kept_of k) k.cells) ∪ listed (kept_in (kept_of j) j.cells)) (max k.level j.level) 1008 level count row
      → held k.settings level count (take 504 row) ≡ merge k j
  unfolding merge cells_of
  kept-merge j w v e g = keeps_sketch (keeps_cut w.settings (omega (arith, w.level, top-same)) g)
    where
      top-same : j.level ≤ top k.settings
      top-same = rw e v.level
