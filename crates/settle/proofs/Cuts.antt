-- Kept cells around a range: what adding hands on.
--     own-pass, kept-few    all kept cells pass at their own level, and at every level few do
--     cut_few          the places to cut at lie within the row
--     cut_present      the two parts stand around the range, and all their cells pass
--     cut_all          with the range they are all the cells
--     cut_same         where no more of the range pass than are kept there, nothing is added
--     range_adds, range_cut     a range that was tested, and where it cuts
--     row_sized, cut_keeps, none_keeps     so the row is what is kept, as it stands
-- Assumes nothing.
use mathlib.Core.Path.{◌≡◌, refl, sym, ap, ◌∙◌, fun_ext}
use mathlib.Core.Bool.{Bool, true, false, not, ◌&&◌, ◌||◌}
use mathlib.Core.List.{List, ◌++◌}
use Prim.Native.Nat.{ℕ, suc, ◌+◌, ◌-◌, ◌≤◌}
use native.Mathlib.Omega.{arith}
use lib.Dec.{leb}
use lib.ListN.{length, take, drop, length-append, length-drop}
use lib.Seq.{length-take-le}
use borrow.Author.Tests.{leb-true, ltb-true, lt-ltb}
use Rattle.lists.specs.Lists.{listed, filter, range, Rising}
use Rattle.lists.specs.Rows.{pad}
use Rattle.lists.proofs.Tests.{ltb_not}
use Rattle.lists.proofs.Filters.{listed-filter, filter-all, filter-short, filter_fewer}
use Rattle.lists.proofs.Runs.{rising_listed, rising_filter, rising_within, rising_whole}
use Rattle.lists.proofs.Places.{pad-length}
use Rattle.lists.proofs.Steps.{part_rest}
use Rattle.rule.specs.declared.Settings.{Settings}
use Rattle.rule.specs.Cells.{Cells, ◌∪◌, interval}
use Rattle.rule.specs.Rule.{passes}
use Rattle.rule.specs.Samples.{sample, range_count}
use Rattle.rule.proofs.Samples.{in_grid, listed-sample, sample-rises, few-fits, lowest_now}
use Rattle.find.proofs.Checks.{and_parts, range_facts}
use Rattle.rows.specs.Walked.{cells_below}
use Rattle.rows.proofs.Facts.{below_splits}
use Rattle.settle.specs.declared.Kept.{Kept}
use Rattle.find.specs.Finding.{in_range}
use Rattle.settle.specs.Around.{all_of}
use Rattle.settle.specs.Settling.{KeptAt, AddsTo, CutAt, kept_in, KeptRow, Keeps, Present}
use Rattle.settle.proofs.Around.{between, sample-around}

module _ {s : Settings} {level : ℕ} {cells : List ℕ} (w : KeptAt s level cells) where
  pub own-pass : filter (passes s level) cells ≡ cells
  own-pass = filter-all (passes s level) cells w.pass

  pub kept-few : (X : Cells) → length (filter X cells) ≤ 504
  kept-few X = omega (arith, filter-short X cells, w.few, w.good.capacity_high)

  -- a part of them: it rises, and all its cells pass
  part_rises : (X : Cells) (lo hi : ℕ) → ((x : ℕ) → 1 ≤ x → x ≤ s.n → X x ≡ true → (lo ≤ x) × (x ≤ hi)) → Rising lo hi (filter X cells)
  part_rises X lo hi h =
      let r : Rising 1 s.n (filter X cells) = rising_filter X cells 1 s.n w.rise in
      rising_within (filter X cells) 1 s.n lo hi r (λ x m.
      let i = rising_listed (filter X cells) 1 s.n x r m in
      h x i.0 i.1 (and_parts (X x) (listed cells x) (sym (listed-filter X cells x) ∙ m)).0)

  part_passes : (X : Cells) → filter (passes s level) (filter X cells) ≡ filter X cells
  part_passes X = filter-all (passes s level) (filter X cells) (λ x m. w.pass x (and_parts (X x) (listed cells x) (sym (listed-filter X cells x) ∙ m)).1)

module _ {s : Settings} {level : ℕ} {cells : List ℕ} {lo hi : ℕ} (a : AddsTo s level cells lo hi) where
  around-add : Present s level (filter (cells_below lo) cells) (filter (leb (suc hi)) cells) lo hi
  around-add =
      let w = a.kept in
      record {
        around =
            record {
              good = w.good;
              one = a.one;
              start = omega (arith, a.up);
              last = a.last;
              before = part_rises w (cells_below lo) 1 (lo - 1) (λ x l h e. (l, omega (arith, ltb-true x lo e)));
              after = part_rises w (leb (suc hi)) (suc hi) s.n (λ x l h e. (leb-true (suc hi) x e, h));
              few = omega (arith, kept-few w (cells_below lo), kept-few w (leb (suc hi)));
            };
        low = w.low;
        front_passes = part_passes w (cells_below lo);
        back_passes = part_passes w (leb (suc hi));
      }

  all-add : all_of (filter (cells_below lo) cells) (filter (leb (suc hi)) cells) lo hi ≡ listed cells ∪ interval lo hi
  all-add = fun_ext (λ x.
      ap (λ (t : Bool). (t || listed (filter (leb (suc hi)) cells) x) || interval lo hi x)
      (listed-filter (cells_below lo) cells x ∙ ap (λ (t : Bool). t && listed cells x) (ltb_not x lo))
      ∙ ap (λ (t : Bool). ((not (leb lo x) && listed cells x) || t) || interval lo hi x)
      (listed-filter (leb (suc hi)) cells x ∙ ap (λ (t : Bool). t && listed cells x) (ltb_not hi x))
      ∙ inside_out (leb lo x) (leb x hi) (listed cells x))
    where
      -- a: lo ≤ x; b: x ≤ hi; c: kept
      inside_out : (a b c : Bool) → (((not a && c) || (not b && c)) || (a && b)) ≡ (c || (a && b))
      inside_out true true true = refl
      inside_out true true false = refl
      inside_out true false true = refl
      inside_out true false false = refl
      inside_out false true true = refl
      inside_out false true false = refl
      inside_out false false true = refl
      inside_out false false false = refl

-- the same, where the row is cut
module _ {s : Settings} {level : ℕ} {cells : List ℕ} {lo hi i j hits : ℕ} (c : CutAt s level cells lo hi i j hits) where
  cut_front : take i cells ≡ filter (cells_below lo) cells
  cut_front = ap (λ (n : ℕ). take n cells) c.before ∙ (below_splits cells 1 s.n lo c.adds.kept.rise).0

  cut_back : take (length cells - j) (drop j cells) ≡ filter (leb (suc hi)) cells
  cut_back =
      let one : hi + 1 ≡ suc hi = omega arith in
      part_rest cells j
      ∙ ap (λ (n : ℕ). drop n cells) c.through
      ∙ (below_splits cells 1 s.n (hi + 1) c.adds.kept.rise).1
      ∙ ap (λ (n : ℕ). filter (leb n) cells) one

  pub cut_few : (i ≤ length cells) × (j ≤ length cells)
  cut_few = (omega (arith, c.before, filter-short (cells_below lo) cells), omega (arith, c.through, filter-short (cells_below (hi + 1)) cells))

  pub cut_present : Present s level (take i cells) (take (length cells - j) (drop j cells)) lo hi
  cut_present = rw (cut_front, cut_back) (around-add c.adds)

  pub cut_all : all_of (take i cells) (take (length cells - j) (drop j cells)) lo hi ≡ listed cells ∪ interval lo hi
  cut_all = rw (cut_front, cut_back) (all-add c.adds)

  -- every kept cell is in the sample of all
  in_sample_lem : (x : ℕ) → listed cells x ≡ true → listed (sample s (listed cells ∪ interval lo hi) level) x ≡ true
  in_sample_lem x m =
      let r = rising_listed cells 1 s.n x c.adds.kept.rise m in
      let p : passes s level x ≡ true = c.adds.kept.pass x m in
      let g : listed (range 1 s.n) x ≡ true = in_grid s x r.0 r.1 in
      listed-sample s (listed cells ∪ interval lo hi) level x ∙ cc

  -- where no more of lo..hi pass than are kept there
  module _ (none : i + hits ≤ j) where
    -- that sample has no more cells than are kept
    sample-short : length (sample s (listed cells ∪ interval lo hi) level) ≤ length cells
    unfolding range_count between
    sample-short =
        let w = cut_present in
        let front = take i cells in
        let back = take (length cells - j) (drop j cells) in
        let mid = filter (passes s level) (range lo hi) in
        let parts : sample s (listed cells ∪ interval lo hi) level ≡ front ++ (mid ++ back) =
        ap (λ (X : Cells). sample s X level) (sym cut_all)
        ∙ sample-around w.around level
        ∙ ap (λ (l : List ℕ). l ++ (mid ++ filter (passes s level) back)) w.front_passes
        ∙ ap (λ (l : List ℕ). front ++ (mid ++ l)) w.back_passes in
        omega (
          arith,
          ap length parts,
          length-append front (mid ++ back),
          length-append mid back,
          length-take-le i cells cut_few.0,
          ap length (part_rest cells j),
          length-drop j cells,
          cut_few.1,
          c.counted,
        )

    -- nothing is added
    pub cut_same : sample s (listed cells ∪ interval lo hi) level ≡ cells
    cut_same =
        sym
        (rising_whole 1 s.n cells (sample s (listed cells ∪ interval lo hi) level) c.adds.kept.rise
        (sample-rises s (listed cells ∪ interval lo hi) level) in_sample_lem sample-short)

-- the row that the kept cells stand in
module _ {s : Settings} {k : Kept} {row : List ℕ} (w : KeptRow s k row) where
  pub range_adds : {lo hi : ℕ} → in_range s lo hi ≡ true → AddsTo s k.level (kept_in k row) lo hi
  range_adds {lo} {hi} e = let r = range_facts s lo hi e in record { kept = w.held.kept; one = r.0; up = r.1; last = r.2 }

  pub range_cut : {lo hi i j hits : ℕ} → in_range s lo hi ≡ true → i ≡ length (filter (cells_below lo) (kept_in k row))
      → j ≡ length (filter (cells_below (hi + 1)) (kept_in k row)) → hits ≡ range_count s k.level lo hi → CutAt s k.level (kept_in k row) lo hi i j hits
  range_cut e b t h = record { adds = range_adds e; before = b; through = t; counted = h }

  pub row_sized : length row ≡ 504
  row_sized =
      ap length w.padded
      ∙ pad-length 504 (kept_in k row) (omega (arith, w.held.kept.few, w.held.kept.good.capacity_high))

  pub cut_keeps : {lo hi i j hits : ℕ} → CutAt s k.level (kept_in k row) lo hi i j hits → i + hits ≤ j
      → Keeps s (listed (kept_in k row) ∪ interval lo hi) k.level 504 k.level k.count row
  cut_keeps {lo} {hi} c none =
      let X : Cells = listed (kept_in k row) ∪ interval lo hi in
      let same : sample s X k.level ≡ kept_in k row = cut_same c none in
      record {
        lowest_level = sym (lowest_now s X k.level (few-fits s X k.level (omega (arith, ap length same, w.held.kept.few))));
        number = sym (ap length same ∙ length-take-le k.count row w.held.within);
        contents = w.padded ∙ ap (pad 504) (sym same);
      }

  -- above all where none of lo..hi passes
  pub none_keeps : {lo hi : ℕ} → AddsTo s k.level (kept_in k row) lo hi → 0 ≡ range_count s k.level lo hi
      → Keeps s (listed (kept_in k row) ∪ interval lo hi) k.level 504 k.level k.count row
  none_keeps {lo} {hi} a e =
      let cells = kept_in k row in
      let fewer = filter_fewer (cells_below lo) (cells_below (hi + 1)) cells (λ x m b. lt-ltb x (hi + 1) (omega (arith, ltb-true x lo b, a.up))) in
      cut_keeps (record { adds = a; before = refl; through = refl; counted = e }) (omega (arith, fewer))
