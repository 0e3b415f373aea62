-- The laws of sketches of sets.
--     cells_at, cells_from_lem    the cells of a made sketch
--     from_same, from_up      two sets that agree on what passes have one sketch; a search may start higher
--     open_law, add_law, merge_law    opening, adding and merging, on the sketches of sets
--     sound, sample-sound, from_self  the sketch of a set is sound, and a sound sketch is the sketch of its own cells
--     merge_self, merge_swaps, merge_regroups    merging, on any sound sketches
-- Assumes nothing.
use mathlib.Core.Path.{◌≡◌, sym, ap, ◌∙◌, subst, fun_ext}
use mathlib.Core.Bool.{true, false, or_comm, or_assoc, or_self}
use mathlib.Core.Logic.{⊎_elim}
use mathlib.Core.List.{List, []}
use Prim.Native.Nat.{ℕ, suc, ◌-◌, ◌≤◌, max}
use native.Mathlib.Omega.{arith}
use lib.ListN.{length, replicate}
use lib.Seq.{take-append_seam}
use Rattle.lists.specs.Lists.{listed, range, Rising}
use Rattle.lists.proofs.Tests.{tested}
use Rattle.lists.proofs.Filters.{filter_same}
use Rattle.lists.proofs.Runs.{filter-listed}
use Rattle.rule.specs.declared.Settings.{Settings}
use Rattle.rule.specs.Cells.{Cells, no_cells, ◌∪◌, interval}
use Rattle.rule.specs.Rule.{Good, passes, top}
use Rattle.rule.specs.Samples.{passing, sample, lowest}
use Rattle.rule.proofs.Samples.{Agree, agree_refl, agree_higher, agree_union, inside_left, inside-right, sample_agree, sample-same, sample-none}
use Rattle.rule.proofs.Samples.{sample-rises, sample-passes, few-fits, fits-few, fits-none, lowest_from, lowest-top, lowest-fits, lowest_now}
use Rattle.rule.proofs.Samples.{lowest-same, lowest_more, lowest-up}
use Rattle.sketch.specs.declared.Sketch.{Sketch}
use Rattle.sketch.specs.Sketches.{sketch_at, cells_of, sketch_from, opened, add, merge, Sound}

-- the sketch that every history of a set comes to
abbrev pub sketch_of : Settings → Cells → Sketch
sketch_of s X = sketch_from s X 0

pub cells_at : (s : Settings) (l : ℕ) (c : List ℕ) → cells_of (sketch_at s l c) ≡ c
unfolding cells_of sketch_at
cells_at s l c = take-append_seam c (replicate (504 - length c) 0)

pub cells_from_lem : (s : Settings) (X : Cells) (i : ℕ) → cells_of (sketch_from s X i) ≡ sample s X (lowest s X i)
unfolding sketch_from
cells_from_lem s X i = cells_at s (lowest s X i) (sample s X (lowest s X i))

pub from_same : (s : Settings) (m : ℕ) (X Y : Cells) → Agree s m X Y → sketch_from s X m ≡ sketch_from s Y m
unfolding sketch_from
from_same s m X Y f =
    let l : lowest s X m ≡ lowest s Y m = lowest-same s m X Y f in
    let c : sample s X (lowest s X m) ≡ sample s Y (lowest s X m) = sample-same s m (lowest s X m) X Y (lowest_from s X m) f in
    cc

pub from_up : (s : Settings) → Good s → (X : Cells) (m l : ℕ) → m ≤ l → l ≤ top s → l ≤ lowest s X m → sketch_from s X l ≡ sketch_from s X m
unfolding sketch_from
from_up s g X m l h t w = let e : lowest s X l ≡ lowest s X m = lowest-up s g X m l h t w in cc

pub open_law : (s : Settings) → opened s ≡ sketch_of s no_cells
unfolding opened sketch_from
open_law s =
    let l : lowest s no_cells 0 ≡ 0 = lowest_now s no_cells 0 (fits-none s 0) in
    let e : sample s no_cells 0 ≡ [] = sample-none s 0 in
    cc

pub add_law : (s : Settings) → Good s → (X : Cells) (i lo hi : ℕ) → i ≤ top s → add (sketch_from s X i) lo hi ≡ sketch_from s (X ∪ interval lo hi) i
unfolding add sketch_from sketch_at
add_law s g X i lo hi h =
    let m = lowest s X i in
    ap (λ (c : List ℕ). sketch_from s (listed c ∪ interval lo hi) m) (cells_at s m (sample s X m)) ∙
    from_same s m (listed (sample s X m) ∪ interval lo hi) (X ∪ interval lo hi)
    (agree_union s m (listed (sample s X m)) (interval lo hi) X (interval lo hi) (sample_agree s m X) (agree_refl s m (interval lo hi)))
    ∙ from_up s g (X ∪ interval lo hi) i m (lowest_from s X i) (lowest-top s X i h)
    (lowest_more s g X (X ∪ interval lo hi) i i (omega arith) h (inside_left X (interval lo hi)))

pub merge_law : (s : Settings) → Good s → (X Y : Cells) (i j : ℕ) → i ≤ top s → j ≤ top s
    → merge (sketch_from s X i) (sketch_from s Y j) ≡ sketch_from s (X ∪ Y) (max i j)
unfolding merge sketch_from sketch_at
merge_law s g X Y i j hi hj =
    let u = lowest s X i in
    let w = lowest s Y j in
    let m = max u w in
    ap (λ (c : List ℕ). sketch_from s (listed c ∪ listed (cells_of (sketch_from s Y j))) m) (cells_at s u (sample s X u)) ∙
    ap (λ (c : List ℕ). sketch_from s (listed (sample s X u) ∪ listed c) m) (cells_at s w (sample s Y w)) ∙
    from_same s m (listed (sample s X u) ∪ listed (sample s Y w)) (X ∪ Y)
    (agree_union s m (listed (sample s X u)) (listed (sample s Y w)) X Y
    (agree_higher s u m (listed (sample s X u)) X (omega arith) (sample_agree s u X))
    (agree_higher s w m (listed (sample s Y w)) Y (omega arith) (sample_agree s w Y)))
    ∙ from_up s g (X ∪ Y) (max i j) m
    (omega (arith, lowest_from s X i, lowest_from s Y j))
    (omega (arith, lowest-top s X i hi, lowest-top s Y j hj))
    (omega (
      arith,
      lowest_more s g X (X ∪ Y) i (max i j) (omega arith) (omega arith) (inside_left X Y),
      lowest_more s g Y (X ∪ Y) j (max i j) (omega arith) (omega arith) (inside-right X Y),
    ))

pub sound : (s : Settings) → Good s → (X : Cells) (i : ℕ) → i ≤ top s → Sound (sketch_from s X i)
unfolding sketch_from sketch_at
sound s g X i h =
    let m = lowest s X i in
    let e : sample s X m ≡ cells_of (sketch_at s m (sample s X m)) = sym (cells_at s m (sample s X m)) in
    record {
      settings = g;
      level = lowest-top s X i h;
      few = subst (λ (c : List ℕ). length c ≤ s.capacity) e (fits-few s X m (lowest-fits s g X i h));
      rise = subst (Rising 1 s.n) e (sample-rises s X m);
      made = ap (sketch_at s m) e;
      pass = subst (λ (c : List ℕ). (x : ℕ) → listed c x ≡ true → passes s m x ≡ true) e (sample-passes s X m);
    }

pub sample-sound : (k : Sketch) → Sound k → sample k.settings (listed (cells_of k)) k.level ≡ cells_of k
unfolding sample passing
sample-sound k w =
    filter_same (passing k.settings (listed (cells_of k)) k.level) (listed (cells_of k)) (range 1 k.settings.n) (λ x i.
    ⊎_elim
    (λ (e : listed (cells_of k) x ≡ true). let p : passes k.settings k.level x ≡ true = w.pass x e in cc)
    (λ (e : listed (cells_of k) x ≡ false). cc)
    (tested (listed (cells_of k) x)))
    ∙ filter-listed (suc k.settings.n - 1) 1 k.settings.n (cells_of k) (omega arith) w.rise

-- a sound sketch is the sketch of its own cells from its level on
pub from_self : (k : Sketch) → Sound k → sketch_from k.settings (listed (cells_of k)) k.level ≡ k
unfolding sketch_from
from_self k w =
    let c : sample k.settings (listed (cells_of k)) k.level ≡ cells_of k = sample-sound k w in
    let l : lowest k.settings (listed (cells_of k)) k.level ≡ k.level =
    lowest_now k.settings (listed (cells_of k)) k.level (few-fits k.settings (listed (cells_of k)) k.level (omega (arith, w.few, ap length c))) in
    let e : sketch_from k.settings (listed (cells_of k)) k.level ≡ sketch_at k.settings k.level (cells_of k) = cc in
    e ∙ sym w.made

pub merge_self : (k : Sketch) → Sound k → merge k k ≡ k
unfolding merge
merge_self k w =
    let u : (listed (cells_of k) ∪ listed (cells_of k)) ≡ listed (cells_of k) = fun_ext (λ x. or_self (listed (cells_of k) x)) in
    let m : max k.level k.level ≡ k.level = omega arith in
    ap (λ (X : Cells). sketch_from k.settings X (max k.level k.level)) u ∙ ap (sketch_from k.settings (listed (cells_of k))) m ∙ from_self k w

pub merge_swaps : (j k : Sketch) → j.settings ≡ k.settings → merge j k ≡ merge k j
unfolding merge
merge_swaps j k e =
    ap (λ (s : Settings). sketch_from s (listed (cells_of j) ∪ listed (cells_of k)) (max j.level k.level)) e
    ∙ ap (λ (X : Cells). sketch_from k.settings X (max j.level k.level)) (fun_ext (λ x. or_comm (listed (cells_of j) x) (listed (cells_of k) x)))
    ∙ ap (sketch_from k.settings (listed (cells_of k) ∪ listed (cells_of j))) (omega arith)

own : (s : Settings) (k : Sketch) → k.settings ≡ s → Sound k → k ≡ sketch_from s (listed (cells_of k)) k.level
own s k e w = sym (from_self k w) ∙ ap (λ (v : Settings). sketch_from v (listed (cells_of k)) k.level) e

own-low : (s : Settings) (k : Sketch) → k.settings ≡ s → Sound k → k.level ≤ top s
own-low s k e w = subst (λ (v : Settings). k.level ≤ top v) e w.level

merge_three : (s : Settings) → Good s → (X Y Z : Cells) (a b c : ℕ) → a ≤ top s → b ≤ top s → c ≤ top s
    → merge (merge (sketch_from s X a) (sketch_from s Y b)) (sketch_from s Z c) ≡ merge (sketch_from s X a) (merge (sketch_from s Y b) (sketch_from s Z c))
merge_three s g X Y Z a b c ha hb hc =
    ap (λ (v : Sketch). merge v (sketch_from s Z c)) (merge_law s g X Y a b ha hb)
    ∙ merge_law s g (X ∪ Y) Z (max a b) c (omega arith) hc
    ∙ ap (λ (U : Cells). sketch_from s U (max (max a b) c)) (fun_ext (λ x. or_assoc (X x) (Y x) (Z x)))
    ∙ ap (sketch_from s (X ∪ (Y ∪ Z))) (omega arith)
    ∙ sym (merge_law s g X (Y ∪ Z) a (max b c) ha (omega arith))
    ∙ ap (merge (sketch_from s X a)) (sym (merge_law s g Y Z b c hb hc))

pub merge_regroups : (s : Settings) → Good s → (i j k : Sketch) → i.settings ≡ s → j.settings ≡ s → k.settings ≡ s → Sound i → Sound j → Sound k
    → merge (merge i j) k ≡ merge i (merge j k)
merge_regroups s g i j k ei ej ek wi wj wk =
    let a : i ≡ sketch_from s (listed (cells_of i)) i.level = own s i ei wi in
    let b : j ≡ sketch_from s (listed (cells_of j)) j.level = own s j ej wj in
    let c : k ≡ sketch_from s (listed (cells_of k)) k.level = own s k ek wk in
    let m = merge_three s g (listed (cells_of i)) (listed (cells_of j)) (listed (cells_of k)) i.level j.level k.level (own-low s i ei wi)
    (own-low s j ej wj) (own-low s k ek wk) in
    cc m
