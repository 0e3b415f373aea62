-- What a sketch is, as facts and as tests, each from the other. Assumes nothing.
--     sketch_facts, facts_sketch    `is_sketch` and `Sound` say the same
--     count_is, made_count, count_few    the number of kept cells
--     bad_settings_lem, too_many, all-parts    the tests as `is_sketch` makes them
--     same_facts, facts_same        equal settings
use Prim.Native.Nat.{ℕ, ◌-◌, ◌<◌, ◌≤◌}
use mathlib.Core.Path.{◌≡◌, refl, sym, ap, ◌∙◌}
use mathlib.Core.Bool.{Bool, true, false, ◌&&◌, and-eq-true_iff, and-false, and-true}
use mathlib.Core.Logic.{⊎_elim}
use mathlib.Core.List.{List, ◌++◌}
use native.Mathlib.Omega.{arith}
use lib.Dec.{leb, eqb}
use lib.ListN.{length, take, drop, replicate, length-drop, take-append-drop}
use lib.Seq.{take-append_seam, drop-append_seam, length-take-le}
use borrow.Author.Tests.{leb-true, le-leb, lt-leb, eqb-true, eq-eqb}
use Rattle.lists.specs.Rows.{pad, all_zero}
use Rattle.lists.proofs.Tests.{tested}
use Rattle.lists.proofs.Places.{pad-length, zero_facts, zeros_zero}
use Rattle.rule.specs.declared.Settings.{Settings}
use Rattle.rule.specs.Rule.{is_good, top}
use Rattle.rule.proofs.Facts.{each, good_facts, facts_good}
use Rattle.rows.specs.Walked.{rises_from}
use Rattle.rows.proofs.Facts.{rises_facts, facts_rises}
use Rattle.sketch.specs.declared.Sketch.{Sketch}
use Rattle.sketch.specs.Sketches.{sketch_at, cells_of, is_sketch, parts, Sound}
use Rattle.sketch.specs.Calls.{same_settings}

-- the number of kept cells is the count
pub count_is : (k : Sketch) → k.count ≤ length k.cells → length (cells_of k) ≡ k.count
unfolding cells_of
count_is k h = length-take-le k.count k.cells h

made_of : (k : Sketch) → k.count ≤ 504 → length k.cells ≡ 504 → all_zero (drop k.count k.cells) ≡ true
    → k ≡ sketch_at k.settings k.level (cells_of k)
unfolding sketch_at cells_of
made_of k few len z =
    let n : length (take k.count k.cells) ≡ k.count = length-take-le k.count k.cells (omega arith) in
    let d : length (drop k.count k.cells) ≡ 504 - length (take k.count k.cells) = length-drop k.count k.cells ∙ omega arith in
    let e : k.cells ≡ pad 504 (take k.count k.cells) =
    sym (take-append-drop k.count k.cells)
    ∙ ap (λ (l : List ℕ). take k.count k.cells ++ l) (zero_facts (drop k.count k.cells) z ∙ ap (λ (m : ℕ). replicate m 0) d) in
    ap (λ (m : ℕ). record { settings = k.settings; level = k.level; count = m; cells = k.cells }) (sym n)
    ∙ ap (λ (l : List ℕ). record { settings = k.settings; level = k.level; count = length (take k.count k.cells); cells = l }) e

pub sketch_facts : (k : Sketch) → is_sketch k ≡ true → Sound k
unfolding is_sketch
sketch_facts k e =
    let h = each (parts k) e in
    let g = good_facts k.settings h.0 in
    let few : k.count ≤ k.settings.capacity = leb-true _ _ h.1.1.0 in
    let len : length k.cells ≡ 504 = eqb-true _ _ h.1.1.1.1.1.0 in
    let r = rises_facts k.settings k.level 0 (cells_of k) h.1.1.1.0 in
    let n : length (cells_of k) ≡ k.count = count_is k (omega (arith, g.capacity_high)) in
    record {
      settings = g;
      level = leb-true _ _ h.1.0;
      few = omega arith;
      rise = r.0;
      pass = r.1;
      made = made_of k (omega (arith, g.capacity_high)) len h.1.1.1.1.0;
    }

-- the tests of a made sketch
made-tests : (s : Settings) (level : ℕ) (xs : List ℕ) → length xs ≤ 504
    → (cells_of (sketch_at s level xs) ≡ xs) × (all_zero (drop (sketch_at s level xs).count (sketch_at s level xs).cells) ≡ true) ×
    (length (sketch_at s level xs).cells ≡ 504)
unfolding sketch_at cells_of
made-tests s level xs few = (
  take-append_seam xs (replicate (504 - length xs) 0),
  rw (drop-append_seam xs (replicate (504 - length xs) 0)) (zeros_zero (504 - length xs)),
  pad-length 504 xs few,
)

pub made_count : (k : Sketch) → k ≡ sketch_at k.settings k.level (cells_of k) → k.count ≡ length (cells_of k)
unfolding sketch_at
made_count k e = ap (λ (v : Sketch). v.count) e

pub facts_sketch : (k : Sketch) → Sound k → is_sketch k ≡ true
unfolding is_sketch
facts_sketch k w =
    let s = k.settings in
    let c = cells_of k in
    let t = made-tests s k.level c (omega (arith, w.few, w.settings.capacity_high)) in
    let n : k.count ≡ length c = made_count k w.made in
    let few : leb k.count s.capacity ≡ true = le-leb k.count s.capacity (omega (arith, w.few)) in
    let rise : rises_from s k.level 0 c ≡ true = facts_rises s k.level 0 c w.rise w.pass in
    let zero : all_zero (drop k.count k.cells) ≡ true = ap (λ (v : Sketch). all_zero (drop v.count v.cells)) w.made ∙ t.1 in
    let len : eqb (length k.cells) 504 ≡ true = eq-eqb (length k.cells) 504 (ap (λ (v : Sketch). length v.cells) w.made ∙ t.2) in
    rw (facts_good s w.settings, le-leb k.level (top s) w.level, few, rise, zero, len)

pub same_facts : (s t : Settings) → same_settings s t ≡ true → s ≡ t
same_facts s t e =
    let h = (and-eq-true_iff (eqb s.n t.n) _).0 e in
    let i = (and-eq-true_iff (eqb s.p t.p) _).0 h.1 in
    let j = (and-eq-true_iff (eqb s.a t.a) _).0 i.1 in
    let k = (and-eq-true_iff (eqb s.b t.b) _).0 j.1 in
    ap (λ (v : ℕ). record { n = v; p = s.p; a = s.a; b = s.b; capacity = s.capacity }) (eqb-true _ _ h.0)
    ∙ ap (λ (v : ℕ). record { n = t.n; p = v; a = s.a; b = s.b; capacity = s.capacity }) (eqb-true _ _ i.0)
    ∙ ap (λ (v : ℕ). record { n = t.n; p = t.p; a = v; b = s.b; capacity = s.capacity }) (eqb-true _ _ j.0)
    ∙ ap (λ (v : ℕ). record { n = t.n; p = t.p; a = t.a; b = v; capacity = s.capacity }) (eqb-true _ _ k.0)
    ∙ ap (λ (v : ℕ). record { n = t.n; p = t.p; a = t.a; b = t.b; capacity = v }) (eqb-true _ _ k.1)

pub facts_same : (s : Settings) → same_settings s s ≡ true
facts_same s =
    simp (eq-eqb s.n s.n refl, eq-eqb s.p s.p refl, eq-eqb s.a s.a refl, eq-eqb s.b s.b refl, eq-eqb s.capacity s.capacity refl)

pub count_few : (k : Sketch) → Sound k → k.count ≤ 504
count_few k w = omega (arith, made_count k w.made, w.few, w.settings.capacity_high)

-- the tests as `is_sketch` makes them
pub bad_settings_lem : (k : Sketch) → is_good k.settings ≡ false → false ≡ is_sketch k
unfolding is_sketch
bad_settings_lem k e = rw e

pub too_many : (k : Sketch) → 504 < k.count → false ≡ is_sketch k
unfolding is_sketch
too_many k h =
    ⊎_elim
    (λ (g : is_good k.settings ≡ true).
    rw (lt-leb k.count k.settings.capacity (omega (arith, (good_facts k.settings g).capacity_high)), and-false, and-false))
    (λ (g : is_good k.settings ≡ false). bad_settings_lem k g)
    (tested (is_good k.settings))

pub all-parts : (k : Sketch) (low rise zero : Bool) → is_good k.settings ≡ true → length k.cells ≡ 504
    → low ≡ leb k.level (top k.settings)
    → rise ≡ rises_from k.settings k.level 0 (take k.count k.cells)
    → zero ≡ all_zero (drop k.count k.cells)
    → (leb k.count k.settings.capacity && (low && (rise && zero))) ≡ is_sketch k
unfolding is_sketch cells_of
all-parts k low rise zero g len a b c =
    rw (a, b, c, g, eq-eqb (length k.cells) 504 len, and-true) (swap (leb k.count k.settings.capacity) (leb k.level (top k.settings)) _)
  where
    swap : (t u v : Bool) → (t && (u && v)) ≡ (u && (t && v))
    swap true true v = refl
    swap true false v = refl
    swap false true v = refl
    swap false false v = refl
