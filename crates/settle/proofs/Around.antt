-- Two rows around a range: what passes of their cells at a level, and whether it fits.
--     between          the row before, what passes of the range, the row after
--     sample-around    the sample of all their cells, part by part
--     fits-around      so whether it fits is a sum of three counts
--     fits-over, fits_sum    the sum, as `fits_at` makes it
--     fits-present     where all the rows' cells pass, none need be tested
-- Assumes nothing.
use mathlib.Core.Path.{◌≡◌, refl, sym, ap, ◌∙◌, subst}
use mathlib.Core.Bool.{Bool, true, false, ◌&&◌, ◌||◌}
use mathlib.Core.List.{List, ◌++◌}
use Prim.Native.Nat.{ℕ, suc, ◌+◌, ◌-◌, ◌≤◌, ◌<◌}
use native.Mathlib.Omega.{arith}
use lib.Dec.{leb}
use lib.ListN.{length, length-append}
use borrow.Author.Tests.{leb-true, lt-leb}
use Rattle.lists.specs.Lists.{listed, filter, range, Rising}
use Rattle.lists.proofs.Filters.{listed-filter, listed-append}
use Rattle.lists.proofs.Runs.{rising_listed, rising_same, rising_join, rising_filter, filter-rises, listed-range}
use Rattle.rule.specs.declared.Settings.{Settings}
use Rattle.rule.specs.Cells.{interval}
use Rattle.rule.specs.Rule.{passes}
use Rattle.rule.specs.Samples.{sample, fits, range_count}
use Rattle.rule.proofs.Samples.{in_grid, listed-sample, sample-rises}
use Rattle.find.proofs.Checks.{and_parts}
use Rattle.settle.specs.Around.{all_of, Around}
use Rattle.settle.specs.Settling.{Present}

-- the row before lo, the cells of lo..hi that pass at the level, the row after hi
unfoldable pub between : Settings → ℕ → List ℕ → List ℕ → ℕ → ℕ → List ℕ
between s level front back lo hi = front ++ (filter (passes s level) (range lo hi) ++ back)

-- f: before; b: after; i: between; p: passes; g: in 1..n
places : (f b i p g : Bool) → (f ≡ true → g ≡ true) → (b ≡ true → g ≡ true) → (i ≡ true → g ≡ true)
    → ((((f || b) || i) && p) && g) ≡ ((p && f) || ((p && i) || (p && b)))
places true b i true g hf hb hi = hf refl
places true b i false g hf hb hi = refl
places false true true true g hf hb hi = hb refl
places false true true false g hf hb hi = refl
places false true false true g hf hb hi = hb refl
places false true false false g hf hb hi = refl
places false false true true g hf hb hi = hi refl
places false false true false g hf hb hi = refl
places false false false true g hf hb hi = refl
places false false false false g hf hb hi = refl

module _ {s : Settings} {front back : List ℕ} {lo hi : ℕ} (w : Around s front back lo hi) (level : ℕ) where
  thin : List ℕ → List ℕ
  thin xs = filter (passes s level) xs

  mid : List ℕ
  mid = filter (passes s level) (range lo hi)

  around-rises : Rising 1 s.n (between s level (thin front) (thin back) lo hi)
  unfolding between thin mid
  around-rises =
      let hits : Rising lo hi mid = filter-rises (passes s level) (suc hi - lo) lo hi (omega (arith, w.start)) in
      let rest : Rising lo s.n (mid ++ thin back) =
      rising_join mid (thin back) lo hi s.n w.last w.start hits (rising_filter (passes s level) back (suc hi) s.n w.after) in
      let e : lo ≡ suc (lo - 1) = omega (arith, w.one) in
      rising_join (thin front) (mid ++ thin back) 1 (lo - 1) s.n (omega (arith, w.one, w.start, w.last)) (omega (arith, w.one))
      (rising_filter (passes s level) front 1 (lo - 1) w.before)
      (subst (λ (m : ℕ). Rising m s.n (mid ++ thin back)) e rest)

  around-listed : (x : ℕ) → listed (sample s (all_of front back lo hi) level) x ≡ listed (between s level (thin front) (thin back) lo hi) x
  unfolding between thin mid
  around-listed x =
      let p = passes s level x in
      listed-sample s (all_of front back lo hi) level x
      ∙ places (listed front x) (listed back x) (interval lo hi x) p (listed (range 1 s.n) x)
      (λ e.
      let r : (1 ≤ x) × (x ≤ lo - 1) = rising_listed front 1 (lo - 1) x w.before e in
      in_grid s x r.0 (omega (arith, w.start, w.last)))
      (λ e. let r : (suc hi ≤ x) × (x ≤ s.n) = rising_listed back (suc hi) s.n x w.after e in in_grid s x (omega arith) r.1)
      (λ e.
      let r = and_parts (leb lo x) (leb x hi) e in
      in_grid s x (omega (arith, w.one, leb-true lo x r.0)) (omega (arith, w.last, leb-true x hi r.1)))
      ∙ ap (λ (t : Bool). t || ((p && interval lo hi x) || (p && listed back x))) (sym (listed-filter (passes s level) front x))
      ∙ ap (λ (t : Bool). listed (thin front) x || ((p && t) || (p && listed back x))) (sym (listed-range lo hi x))
      ∙ ap (λ (t : Bool). listed (thin front) x || (t || (p && listed back x))) (sym (listed-filter (passes s level) (range lo hi) x))
      ∙ ap (λ (t : Bool). listed (thin front) x || (listed mid x || t)) (sym (listed-filter (passes s level) back x))
      ∙ ap (λ (t : Bool). listed (thin front) x || t) (sym (listed-append mid (thin back) x))
      ∙ sym (listed-append (thin front) (mid ++ thin back) x)

  pub sample-around : sample s (all_of front back lo hi) level ≡ between s level (filter (passes s level) front) (filter (passes s level) back) lo hi
  unfolding thin
  sample-around =
      rising_same 1 s.n (sample s (all_of front back lo hi) level) (between s level (thin front) (thin back) lo hi)
      (sample-rises s (all_of front back lo hi) level) around-rises around-listed

  pub fits-around : fits s (all_of front back lo hi) level
      ≡ leb (range_count s level lo hi + length (filter (passes s level) front) + length (filter (passes s level) back)) s.capacity
  unfolding fits range_count between thin mid
  fits-around =
      ap (λ (l : List ℕ). leb (length l) s.capacity) sample-around
      ∙ ap (λ (k : ℕ). leb k s.capacity) (omega (arith, length-append (thin front) (mid ++ thin back), length-append mid (thin back)))

  -- the sum as `fits_at` makes it: the range alone may be too much
  module _ {hits : ℕ} (e : hits ≡ range_count s level lo hi) where
    pub fits-over : s.capacity < hits → false ≡ fits s (all_of front back lo hi) level
    fits-over h =
        let f = filter (passes s level) front in
        let b = filter (passes s level) back in
        sym (fits-around ∙ lt-leb (range_count s level lo hi + length f + length b) s.capacity (omega arith))

    pub fits_sum : {before after : ℕ} → before ≡ length (filter (passes s level) front) → after ≡ length (filter (passes s level) back)
        → leb (hits + before + after) s.capacity ≡ fits s (all_of front back lo hi) level
    fits_sum b a = rw (e, b, a) (sym fits-around)

pub fits-present : {s : Settings} {level : ℕ} {front back : List ℕ} {lo hi : ℕ} → Present s level front back lo hi
    → fits s (all_of front back lo hi) level ≡ leb (range_count s level lo hi + length front + length back) s.capacity
fits-present {s} {level} {front} {back} {lo} {hi} w =
    fits-around w.around level
    ∙ ap (λ (l : List ℕ). leb (range_count s level lo hi + length l + length (filter (passes s level) back)) s.capacity) w.front_passes
    ∙ ap (λ (l : List ℕ). leb (range_count s level lo hi + length front + length l) s.capacity) w.back_passes
