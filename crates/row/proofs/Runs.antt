-- The laws of a run of adds.
--     add-settings, add-sound, adds_one, adds_more      one add of it
--     Added: takes_next, one_more, no_more_left      the run, turn by turn
--     add_all-append           a row after a row: the fold over both is the fold after the fold
--     add_all-settings, add_all_again      the result is a sketch, with the same settings
--     add_all_law              the sketch of a set becomes the sketch of the set with the row's cells
--     row_cells_in             the cells of a row in range are of 1..n
-- Assumes nothing.
use Prim.Native.Nat.{ℕ, suc, ◌+◌, ◌<◌, ◌≤◌}
use mathlib.Core.Path.{◌≡◌, refl, sym, ap, ◌∙◌, subst, fun_ext}
use mathlib.Core.Bool.{Bool, true, false, ◌||◌, or_assoc, or-false, false≢true}
use mathlib.Core.List.{List, [], ◌∷◌, ◌++◌}
use mathlib.Core.Logic.{⊎_elim}
use native.Mathlib.Omega.{arith}
use lib.Dec.{leb}
use lib.ListN.{length, get_or, drop, drop_of_length-le}
use lib.Seq.{drop-cons}
use borrow.Author.Tests.{leb-true}
use Rattle.rule.specs.declared.Settings.{Settings}
use Rattle.lists.specs.Lists.{listed}
use Rattle.lists.proofs.Tests.{tested}
use Rattle.rule.specs.Cells.{Cells, ◌∪◌, interval}
use Rattle.rule.specs.Rule.{Good, top}
use Rattle.find.proofs.Checks.{and_parts, range_facts}
use Rattle.sketch.specs.declared.Sketch.{Sketch}
use Rattle.sketch.specs.Sketches.{is_sketch, Sound, cells_of, sketch_at, sketch_from, add}
use Rattle.sketch.proofs.Making.{sound, add_law}
use Rattle.sketch.proofs.Results.{add_again}
use Rattle.row.specs.declared.Stretch.{Stretch}
use Rattle.row.specs.Stretches.{within, all_in, add_all, row_cells, AddsAll}
use Rattle.row.proofs.Places.{none}

pub add-settings : (k : Sketch) (lo hi : ℕ) → (add k lo hi).settings ≡ k.settings
unfolding add sketch_from sketch_at
add-settings k lo hi = refl

pub add-sound : (k : Sketch) (lo hi : ℕ) → Sound k → Sound (add k lo hi)
unfolding add
add-sound k lo hi w = sound k.settings w.settings (listed (cells_of k) ∪ interval lo hi) k.level w.level

-- what adding one takes
abbrev pub AddsOne : Sketch → Stretch → Type 0
AddsOne k t = Sound k × (within k.settings t ≡ true)

pub adds_one : (k : Sketch) (t : Stretch) (ts : List Stretch) → AddsAll k (t ∷ ts) → AddsOne k t
adds_one k t ts w = (w.sound, (and_parts (within k.settings t) (all_in k.settings ts) w.good).0)

pub adds_more : (k : Sketch) (t : Stretch) (ts : List Stretch) → AddsAll k (t ∷ ts) → AddsAll (add k t.lo t.hi) ts
adds_more k t ts w = record {
  sound = add-sound k t.lo t.hi w.sound;
  good = ap (λ (s : Settings). all_in s ts) (add-settings k t.lo t.hi) ∙ (and_parts (within k.settings t) (all_in k.settings ts) w.good).1;
}

-- k is what the run has made before element i
module _ (start : Sketch) (ts : List Stretch) where
  abbrev pub Added : ℕ → Sketch → Type 0
  Added i k = AddsAll k (drop i ts) × (add_all k (drop i ts) ≡ add_all start ts)

  module _ (i : ℕ) (l : i < length ts) (k : Sketch) (h : Added i k) where
    pub takes_next : AddsOne k (get_or ts i none)
    takes_next = adds_one k (get_or ts i none) (drop (suc i) ts) (subst (AddsAll k) (drop-cons ts i none l) h.0)

    pub one_more : (r : Sketch) → r ≡ add k (get_or ts i none).lo (get_or ts i none).hi → Added (i + 1) r
    one_more r e =
        let j : suc i ≡ i + 1 = omega arith in
        let a : AddsAll (add k (get_or ts i none).lo (get_or ts i none).hi) (drop (suc i) ts) = adds_more k (get_or ts i none) (drop (suc i) ts)
        (subst (AddsAll k) (drop-cons ts i none l) h.0) in
        let b : add_all (add k (get_or ts i none).lo (get_or ts i none).hi) (drop (suc i) ts) ≡ add_all start ts = sym (ap (add_all k)
        (drop-cons ts i none l)) ∙ h.1 in
        subst (λ (m : ℕ). Added m r) j (subst (Added (suc i)) (sym e) (a, b))

  pub no_more_left : (i : ℕ) (k : Sketch) → Added i k → length ts ≤ i → k ≡ add_all start ts
  no_more_left i k h l = sym (ap (add_all k) (drop_of_length-le ts {i = i} l)) ∙ h.1

pub add_all-append : (k : Sketch) (ts us : List Stretch) → add_all k (ts ++ us) ≡ add_all (add_all k ts) us
add_all-append k [] us = refl
add_all-append k (t ∷ ts) us = add_all-append (add k t.lo t.hi) ts us

pub add_all-settings : (k : Sketch) (ts : List Stretch) → (add_all k ts).settings ≡ k.settings
add_all-settings k [] = refl
add_all-settings k (t ∷ ts) = add_all-settings (add k t.lo t.hi) ts ∙ add-settings k t.lo t.hi

pub add_all_again : (k : Sketch) (ts : List Stretch) → is_sketch k ≡ true → is_sketch (add_all k ts) ≡ true
add_all_again k [] e = e
add_all_again k (t ∷ ts) e = add_all_again (add k t.lo t.hi) ts (add_again k t.lo t.hi e)

-- on the sketch of a set, a row makes the sketch of the set together with the row's cells
pub add_all_law : (s : Settings) → Good s → (X : Cells) (i : ℕ) → i ≤ top s → (ts : List Stretch)
    → add_all (sketch_from s X i) ts ≡ sketch_from s (X ∪ row_cells ts) i
add_all_law s g X i h [] = ap (λ (Y : Cells). sketch_from s Y i) (sym (fun_ext (λ x. or-false (X x))))
add_all_law s g X i h (t ∷ ts) =
    ap (λ (k : Sketch). add_all k ts) (add_law s g X i t.lo t.hi h) ∙
    add_all_law s g (X ∪ interval t.lo t.hi) i h ts ∙
    ap (λ (Y : Cells). sketch_from s Y i) (fun_ext (λ x. or_assoc (X x) (interval t.lo t.hi x) (row_cells ts x)))

-- the cells of a row in range are cells of the grid
pub row_cells_in : (s : Settings) (ts : List Stretch) (x : ℕ) → all_in s ts ≡ true → row_cells ts x ≡ true → (1 ≤ x) × (x ≤ s.n)
row_cells_in s [] x e m = absurd (false≢true m)
row_cells_in s (t ∷ ts) x e m =
    let w = and_parts (within s t) (all_in s ts) e in
    let r = range_facts s t.lo t.hi w.0 in
    ⊎_elim
    (λ (i : interval t.lo t.hi x ≡ true).
    let c = and_parts (leb t.lo x) (leb x t.hi) i in
    (omega (arith, leb-true t.lo x c.0, r.0), omega (arith, leb-true x t.hi c.1, r.2)))
    (λ (i : interval t.lo t.hi x ≡ false). row_cells_in s ts x w.1 (ap (λ (b : Bool). b || row_cells ts x) (sym i) ∙ m))
    (tested (interval t.lo t.hi x))
