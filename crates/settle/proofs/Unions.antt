-- A row alone, thinned in place; and the union of two rows of kept cells in it: what merging makes of them.
--     alone_all, alone_none    no range lies beside it
--     alone_sample     its sample at a level is what passes of it
--     alone_now, alone_over    whether all of it fits, by how many there are
--     alone_room, alone_next, alone_fits    and otherwise there is a level above, from which the search goes on
--     thins_now, thins_room, thins_next, thins_few    what is kept of it, in place
--     both_alone, both_keeps    of the union of two rows of kept cells
--     keeps_higher, keeps_lower    from the higher of two levels
-- Assumes nothing.
use mathlib.Core.Path.{◌≡◌, refl, sym, ap, ◌∙◌, subst, fun_ext}
use mathlib.Core.Bool.{Bool, true, false, ◌&&◌, ◌||◌, or-false, or_comm, and-false}
use mathlib.Core.Logic.{⊎_elim}
use mathlib.Core.List.{List, [], append-nil}
use Prim.Native.Nat.{ℕ, suc, ◌+◌, ◌-◌, ◌≤◌, ◌<◌, max}
use native.Mathlib.Omega.{arith}
use lib.Dec.{leb}
use lib.ListN.{length, take, replicate}
use lib.Seq.{length-take-le}
use borrow.Author.Tests.{leb-true, lt-leb}
use Rattle.lists.specs.Lists.{listed, filter, Rising}
use Rattle.lists.specs.Rows.{union, Stored}
use Rattle.lists.proofs.Tests.{tested}
use Rattle.lists.proofs.Filters.{listed-filter, filter-all}
use Rattle.lists.proofs.Runs.{rising_filter}
use Rattle.lists.proofs.Stores.{stored_as, stored-own, stored_front, stored_cleared}
use Rattle.lists.proofs.Unions.{listed-union, rising_union, union-short}
use Rattle.rule.specs.declared.Settings.{Settings}
use Rattle.rule.specs.Cells.{Cells, ◌∪◌, interval}
use Rattle.rule.specs.Rule.{passes, top}
use Rattle.rule.specs.Samples.{sample, fits, lowest, range_count}
use Rattle.rule.proofs.Samples.{fits-few, lowest_now}
use Rattle.settle.specs.Around.{all_of}
use Rattle.settle.specs.Settling.{KeptAt, Alone, Thins, Keeps}
use Rattle.settle.proofs.Around.{between, sample-around}
use Rattle.settle.proofs.Settles.{keeps_agree, settle_now, settle_not, settle_room, settle_next, settle_fits}
use Rattle.settle.proofs.Cuts.{kept-few}

-- no cell lies after n and up to n
none_after : (n x : ℕ) → interval (n + 1) n x ≡ false
none_after n x =
    ⊎_elim
    (λ (h : leb (n + 1) x ≡ true). ap (λ (t : Bool). leb (n + 1) x && t) (lt-leb x n (omega (arith, leb-true (n + 1) x h))) ∙ and-false (leb (n + 1) x))
    (λ (h : leb (n + 1) x ≡ false). ap (λ (t : Bool). t && leb x n) h)
    (tested (leb (n + 1) x))

alone_all : (s : Settings) (xs : List ℕ) → all_of xs [] (s.n + 1) s.n ≡ listed xs
alone_all s xs = fun_ext (λ x.
    ap (λ (t : Bool). (listed xs x || false) || t) (none_after s.n x)
    ∙ or-false (listed xs x || false)
    ∙ or-false (listed xs x))

alone_none : (s : Settings) (level : ℕ) → 0 ≡ range_count s level (s.n + 1) s.n
unfolding range_count
alone_none s level = let e : suc s.n - (s.n + 1) ≡ 0 = omega arith in rw e

module _ {s : Settings} {level : ℕ} {xs : List ℕ} (w : Alone s level xs) where
  pub alone_sample : (l : ℕ) → sample s (listed xs) l ≡ filter (passes s l) xs
  unfolding between
  alone_sample l =
      let e : suc s.n - (s.n + 1) ≡ 0 = omega arith in
      ap (λ (X : Cells). sample s X l) (sym (alone_all s xs)) ∙ sample-around w.around l ∙ (rw e (append-nil (filter (passes s l) xs)))

  pub alone_now : length xs ≤ s.capacity → fits s (listed xs) level ≡ true
  alone_now h = ap (λ (X : Cells). fits s X level) (sym (alone_all s xs)) ∙ settle_now w (alone_none s level) (omega arith)

  pub alone_over : s.capacity < length xs → fits s (all_of xs [] (s.n + 1) s.n) level ≡ false
  alone_over h = settle_not w (alone_none s level) (omega arith)

  pub alone_room : s.capacity < length xs → level + 1 ≤ top s
  alone_room h = settle_room w (alone_over h)

  module _ (h : s.capacity < length xs) {l : ℕ} (q : l ≡ lowest s (all_of xs [] (s.n + 1) s.n) (level + 1)) where
    pub alone_next : l ≡ lowest s (listed xs) level
    alone_next = settle_next w (alone_over h) q ∙ ap (λ (X : Cells). lowest s X level) (alone_all s xs)

    pub alone_fits : fits s (listed xs) l ≡ true
    alone_fits = ap (λ (X : Cells). fits s X l) (sym (alone_all s xs)) ∙ settle_fits w (alone_over h) q

module _ {s : Settings} {level : ℕ} (many : ℕ) (before : List ℕ) (w : Alone s level (take many before)) (few : many ≤ length before) where
  long : length (take many before) ≡ many
  long = length-take-le many before few

  pub thins_now : many ≤ s.capacity → Thins s level many before level many before
  thins_now h =
      record {
        lowest_level = sym (lowest_now s (listed (take many before)) level (alone_now w (omega (arith, long))));
        stored = stored_as (stored-own before many few) (sym (alone_sample w level ∙ w.front_passes));
      }

  pub thins_room : s.capacity < many → level + 1 ≤ top s
  thins_room h = alone_room w (omega (arith, long))

  module _ (h : s.capacity < many) {l : ℕ} (q : l ≡ lowest s (all_of (take many before) [] (s.n + 1) s.n) (level + 1)) where
    pub thins_next : {count : ℕ} {after : List ℕ} → Stored before 0 (filter (passes s l) (take many before)) count after
        → Thins s level many before l count after
    thins_next g = record { lowest_level = alone_next w (omega (arith, long)) q; stored = stored_as g (sym (alone_sample w l)) }

    pub thins_few : {count : ℕ} {after : List ℕ} → Stored before 0 (filter (passes s l) (take many before)) count after → count ≤ s.capacity
    thins_few g = omega (arith, g.next_place, ap length (alone_sample w l), fits-few s (listed (take many before)) l (alone_fits w (omega (arith, long)) q))

-- the cells kept at a level, and of others what passes there: the row of both
module _ {s : Settings} {level own : ℕ} {xs ys : List ℕ} (wx : KeptAt s level xs) (wy : KeptAt s own ys) {row : List ℕ}
    (er : row ≡ union xs (filter (passes s level) ys)) where
  row_listed : (x : ℕ) → listed row x ≡ (listed xs x || (passes s level x && listed ys x))
  row_listed x =
      ap (λ (c : List ℕ). listed c x) er
      ∙ listed-union xs (filter (passes s level) ys) x
      ∙ ap (λ (t : Bool). listed xs x || t) (listed-filter (passes s level) ys x)

  row-passes : (x : ℕ) → listed row x ≡ true → passes s level x ≡ true
  row-passes x i = one (listed xs x) (passes s level x) (listed ys x) (wx.pass x) (sym (row_listed x) ∙ i)
    where
      one : (a p b : Bool) → (a ≡ true → p ≡ true) → (a || (p && b)) ≡ true → p ≡ true
      one true p b h e = h refl
      one false true b h e = refl
      one false false b h e = e

  pub both_alone : Alone s level row
  both_alone =
      let n = s.n in
      let e : n ≡ n + 1 - 1 = omega arith in
      let b = filter (passes s level) ys in
      let rise : Rising 1 n (union xs b) = rising_union xs b 1 n wx.rise (rising_filter (passes s level) ys 1 n wy.rise) in
      record {
        around =
            record {
              good = wx.good;
              one = omega arith;
              start = omega arith;
              last = omega arith;
              before = subst (λ (h : ℕ). Rising 1 h row) e (rw er rise);
              after = tt;
              few = omega (arith, ap length er, union-short xs b, wx.few, wx.good.capacity_high, kept-few wy (passes s level));
            };
        low = wx.low;
        front_passes = filter-all (passes s level) row row-passes;
        back_passes = refl;
      }

  pub both_keeps : {many l count : ℕ} {mid after last : List ℕ} → take many mid ≡ row → Thins s level many mid l count after → length after ≡ 1008
      → Stored after count (replicate (1008 - count) 0) 1008 last
      → Keeps s (listed xs ∪ listed ys) level 1008 l count last
  both_keeps {many} {l} {count} {mid} {after} {last} e t sized cleared =
      let f = stored_front t.stored in
      keeps_agree (listed (take many mid)) (listed xs ∪ listed ys)
      (λ x i p. ap (λ (c : List ℕ). listed c x) e ∙ row_listed x ∙ ap (λ (q : Bool). listed xs x || (q && listed ys x)) p)
      (record {
        lowest_level = t.lowest_level;
        number = f.2;
        contents = stored_cleared (sample s (listed (take many mid)) l) sized f.2 f.0 cleared;
      })

module _ {s : Settings} {l m places level count : ℕ} {row : List ℕ} (X Y : Cells) where
  pub keeps_higher : l < m → Keeps s (Y ∪ X) m places level count row → Keeps s (X ∪ Y) (max l m) places level count row
  keeps_higher h k =
      let e : m ≡ max l m = omega arith in
      subst (λ (here : ℕ). Keeps s (X ∪ Y) here places level count row) e
      (keeps_agree (Y ∪ X) (X ∪ Y) (λ x i p. or_comm (Y x) (X x)) k)

  pub keeps_lower : m ≤ l → Keeps s (X ∪ Y) l places level count row → Keeps s (X ∪ Y) (max l m) places level count row
  keeps_lower h k = let e : l ≡ max l m = omega arith in subst (λ (here : ℕ). Keeps s (X ∪ Y) here places level count row) e k
