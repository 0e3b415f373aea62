-- Demand 3, over all histories of opening, adding by either engine, adding rows, merging and reading back. What it says of rows besides is in Rows.antt.
--     made-good, made-sketch    a history has good settings, and its sketch is one
--     the_sketch      a history's sketch is the sketch of all cells added
--  1  exact, lowest_is    its level is the lowest at which the passing cells among them fit, and its sample is exactly those
--     added_in_grid   only cells of 1..n are added
--  2  same-cells      the same added cells give the same sketch
--     image_of-cells, same-image    hence the same image: that of the lowest level and of the sample of those cells, in the bytes of every writer
--  3  more_cells      more cells: no lower level, and of the smaller set's cells just those of its sample that still pass
--  4  merge-made, merge_order, merge_grouping, merge_repeat    order, grouping and repeats of merges make no difference
-- Assumes nothing.
use mathlib.Core.Path.{◌≡◌, refl, sym, ap, ◌∙◌, subst, fun_ext}
use mathlib.Core.Bool.{Bool, true, false, ◌&&◌, ◌||◌, or_comm, or_assoc, or_self, or-false, false≢true, cond}
use mathlib.Core.Logic.{◌⊎◌, inl, inr, ⊎_elim}
use mathlib.Core.List.{List, []}
use Prim.Native.Nat.{ℕ, ◌≤◌}
use native.Mathlib.Omega.{arith}
use lib.Dec.{leb}
use lib.ListN.{length}
use borrow.Author.Tests.{leb-true}
use Rattle.lists.specs.Lists.{listed, range}
use Rattle.lists.proofs.Tests.{tested}
use Rattle.rule.specs.declared.refusals.Refusal.{Refusal}
use Rattle.rule.specs.declared.Settings.{Settings}
use Rattle.rule.specs.Cells.{Cells, no_cells, ◌∪◌, interval}
use Rattle.rule.specs.Rule.{Good, is_good, passes}
use Rattle.rule.specs.Samples.{sample, fits, lowest}
use Rattle.rule.specs.Refusals.{Paper, answered, refused, bad_settings, bad_range, of_answer}
use Rattle.rule.proofs.Facts.{good_facts}
use Rattle.rule.proofs.Passing.{passes-lower}
use Rattle.rule.proofs.Samples.{Inside, lowest-fits, lowest-least, lowest_more, listed-sample}
use Rattle.find.specs.Finding.{in_range}
use Rattle.find.proofs.Checks.{unless-told, range_facts, and_parts}
use Rattle.sketch.specs.declared.Sketch.{Sketch}
use Rattle.sketch.specs.declared.Changed.{Changed}
use Rattle.sketch.specs.Sketches.{is_sketch, cells_of, sketch_at, sketch_from, opened, add, merge}
use Rattle.sketch.specs.Calls.{no_sketch, open_on, add_on, merge_on, same_settings, handed, Hands}
use Rattle.sketch.proofs.Facts.{facts_sketch, facts_same}
use Rattle.sketch.proofs.Making.{sketch_of, sound, cells_from_lem, open_law, add_law, merge_law}
use Rattle.sketch.proofs.Handing.{add_bad, merge-both}
use Rattle.plain.specs.Plain.{is_small, plain_add_on}
use Rattle.plain.proofs.Calls.{plain_bad}
use Rattle.row.specs.Stretches.{all_in, first_bad, add_all, row_cells, row_on}
use Rattle.row.proofs.Runs.{add_all_law, row_cells_in}
use Rattle.row.proofs.Rows.{row_bad}
use Rattle.layout.specs.Images.{image_as, image_of}
use Rattle.demands.proofs.Demand2.{wrote, handed_next, sketch_round_trip}
use Rattle.demands.specs.Histories.{Made, image_for, HasImage, brings, opening, adding, plainly, rowing, merging, refusing, reading}

pub made-good : (s : Settings) (X : Cells) (k : Sketch) → Made s X k → Good s
unfolding open_on
made-good s X k (opening r h e) = good_facts s (unless-told (is_good s) bad_settings (answered []) [] (sym h.answer ∙ e)).0
made-good s X k (adding {X = Y} {k = j} m lo hi r h) = made-good s Y j m
made-good s X k (plainly {X = Y} {k = j} m lo hi r h) = made-good s Y j m
made-good s X k (rowing {X = Y} {k = j} m ts r h) = made-good s Y j m
made-good s X k (merging {X = Y} {Y = Z} {j = i} {k = j} m n r h) = made-good s Y i m
made-good s X k (refusing {X = Y} {j = j} m i r h number place e) = made-good s Y j m
made-good s X k (reading {X = Y} {k = j} m room after w v n e r h) = made-good s Y j m

-- what is handed back, by the answer
handed_old : (paper : Paper) (next old k : Sketch) (number place : ℕ) → paper ≡ refused number place → k ≡ handed paper next old → k ≡ old
handed_old paper next old k number place e h = cc

module _ (s : Settings) (good : Good s) where
  is_sketch_lem : (X : Cells) → is_sketch (sketch_of s X) ≡ true
  is_sketch_lem X = facts_sketch (sketch_of s X) (sound s good X 0 (omega arith))

  settings_of : (X : Cells) → (sketch_of s X).settings ≡ s
  unfolding sketch_from sketch_at
  settings_of X = refl

  -- opening
  opens : (r : Changed Refusal) → Hands (open_on s) (opened s) no_sketch r → of_answer r.answer ≡ answered [] → r.sketch ≡ sketch_of s no_cells
  opens r h e = handed_next (open_on s) (opened s) no_sketch r.sketch [] (sym h.answer ∙ e) h.sketch ∙ open_law s

  -- a call to the sketch of a set, whose next sketch is that of this set with more cells
  gains : (X Y : Cells) (paper : Paper) (next old k : Sketch) → old ≡ sketch_of s X → next ≡ sketch_of s (X ∪ Y) → k ≡ handed paper next old
      → k ≡ sketch_of s (X ∪ brings paper Y)
  gains X Y (answered values) next old k o n h = h ∙ n
  gains X Y (refused number place) next old k o n h = h ∙ o ∙ ap (sketch_of s) (fun_ext (λ x. sym (or-false (X x))))

  -- adding, whatever it answers
  adds : (X : Cells) (paper : Paper) (lo hi : ℕ) (old k : Sketch) → old ≡ sketch_of s X → k ≡ handed paper (add old lo hi) old
      → k ≡ sketch_of s (X ∪ brings paper (interval lo hi))
  adds X paper lo hi old k o h =
      gains X (interval lo hi) paper (add old lo hi) old k o (ap (λ (v : Sketch). add v lo hi) o ∙ add_law s good X 0 lo hi (omega arith)) h

  pub the_sketch : (X : Cells) (k : Sketch) → Made s X k → k ≡ sketch_of s X
  the_sketch X k (opening r h e) = opens r h e
  the_sketch X k (adding {X = Y} {k = j} m lo hi r h) = adds Y (add_on j lo hi) lo hi j r.sketch (the_sketch Y j m) h.sketch
  the_sketch X k (plainly {X = Y} {k = j} m lo hi r h) = adds Y (plain_add_on j lo hi) lo hi j r.sketch (the_sketch Y j m) h.sketch
  the_sketch X k (rowing {X = Y} {k = j} m ts r h) =
      let ih : j ≡ sketch_of s Y = the_sketch Y j m in
      gains Y (row_cells ts) (row_on j ts) (add_all j ts) j r.sketch ih
      (ap (λ (v : Sketch). add_all v ts) ih ∙ add_all_law s good Y 0 (omega arith) ts) h.sketch
  the_sketch X k (merging {X = Y} {Y = Z} {j = i} {k = j} m n r h) =
      let a : i ≡ sketch_of s Y = the_sketch Y i m in
      let b : j ≡ sketch_of s Z = the_sketch Z j n in
      gains Y Z (merge_on i j) (merge i j) i r.sketch a
      (ap (λ (v : Sketch). merge v j) a ∙ ap (merge (sketch_of s Y)) b ∙ merge_law s good Y Z 0 0 (omega arith) (omega arith)) h.sketch
  the_sketch X k (refusing {X = Y} {j = j} m i r h number place e) =
      handed_old (merge_on j i) (merge j i) j r.sketch number place (sym h.answer ∙ e) h.sketch ∙ the_sketch Y j m
  the_sketch X k (reading {X = Y} {k = j} m room after w v n e r h) =
      let ih : j ≡ sketch_of s Y = the_sketch Y j m in
      (sketch_round_trip j room after w n v e r h).1 ∙ ih

pub made-sketch : (s : Settings) (X : Cells) (k : Sketch) → Made s X k → is_sketch k ≡ true
made-sketch s X k m = let g = made-good s X k m in ap is_sketch (the_sketch s g X k m) ∙ is_sketch_lem s g X

or_cases : (t u : Bool) → (t || u) ≡ true → (t ≡ true) ⊎ (u ≡ true)
or_cases true u e = inl refl
or_cases false u e = inr e

-- what a call brought was among what it was given
brought : (paper : Paper) (X : Cells) (x : ℕ) → brings paper X x ≡ true → X x ≡ true
brought (answered values) X x e = e
brought (refused number place) X x e = absurd (false≢true e)

-- and the test that refuses it held
granted : (t : Bool) (paper : Paper) (number place : ℕ) (X : Cells) (x : ℕ) → (t ≡ false → paper ≡ refused number place) → brings paper X x ≡ true → t ≡ true
granted true paper number place X x f e = refl
granted false paper number place X x f e = absurd (false≢true (sym (ap (λ (q : Paper). brings q X x) (f refl)) ∙ e))

-- the level of a set's sketch is the lowest at which its passing cells fit
pub lowest_is : (s : Settings) → Good s → (X : Cells) → (fits s X (lowest s X 0) ≡ true) × ((l : ℕ) → fits s X l ≡ true → lowest s X 0 ≤ l)
lowest_is s g X = (lowest-fits s g X 0 (omega arith), λ l e. lowest-least s X 0 l (omega arith) e)

-- sketches of two sets, of which one has all cells of the other
sketch_more : (s : Settings) → Good s → (X Y : Cells) → Inside X Y
    → ((sketch_of s X).level ≤ (sketch_of s Y).level)
    × ((x : ℕ) → X x ≡ true → listed (cells_of (sketch_of s Y)) x ≡ (listed (cells_of (sketch_of s X)) x && passes s (sketch_of s Y).level x))
unfolding sketch_from sketch_at
sketch_more s g X Y h = (
  m,
  λ x e. ap (λ (c : List ℕ). listed c x) (cells_from_lem s Y 0) ∙ cells x e
      ∙ ap (λ (c : List ℕ). listed c x && passes s j x) (sym (cells_from_lem s X 0)),
)
  where
    i : ℕ
    i = lowest s X 0

    j : ℕ
    j = lowest s Y 0

    m : i ≤ j
    m = lowest_more s g X Y 0 0 (omega arith) (omega arith) h

    cells : (x : ℕ) → X x ≡ true → listed (sample s Y j) x ≡ (listed (sample s X i) x && passes s j x)
    cells x e =
        let f : Y x ≡ true = h x e in
        let a : listed (sample s X i) x ≡ ((X x && passes s i x) && listed (range 1 s.n) x) = listed-sample s X i x in
        let b : listed (sample s Y j) x ≡ ((Y x && passes s j x) && listed (range 1 s.n) x) = listed-sample s Y j x in
        ⊎_elim
        (λ (p : passes s j x ≡ true).
        let q : passes s i x ≡ true = passes-lower s i j x m p in
        ⊎_elim (λ (r : listed (range 1 s.n) x ≡ true). cc) (λ (r : listed (range 1 s.n) x ≡ false). cc) (tested (listed (range 1 s.n) x)))
        (λ (p : passes s j x ≡ false).
        ⊎_elim (λ (r : listed (sample s X i) x ≡ true). cc) (λ (r : listed (sample s X i) x ≡ false). cc) (tested (listed (sample s X i) x)))
        (tested (passes s j x))

-- 1
pub exact : (s : Settings) (X : Cells) (k : Sketch) → Made s X k → (k.settings ≡ s) × (k.level ≡ lowest s X 0) × (cells_of k ≡ sample s X (lowest s X 0))
unfolding sketch_from sketch_at
exact s X k h =
    let e : k ≡ sketch_of s X = the_sketch s (made-good s X k h) X k h in
    (ap (λ (v : Sketch). v.settings) e, ap (λ (v : Sketch). v.level) e, ap cells_of e ∙ cells_from_lem s X 0)

-- an add that brought a cell was given a stretch in range
in_stretch : (s : Settings) (j : Sketch) → j.settings ≡ s → (lo hi : ℕ) (paper : Paper) (number : ℕ)
    → (in_range j.settings lo hi ≡ false → paper ≡ refused number 0) → (x : ℕ) → brings paper (interval lo hi) x ≡ true → (1 ≤ x) × (x ≤ s.n)
in_stretch s j e lo hi paper number f x w =
    let b = range_facts j.settings lo hi (granted (in_range j.settings lo hi) paper number 0 (interval lo hi) x f w) in
    let l : j.settings.n ≡ s.n = ap (λ (q : Settings). q.n) e in
    let c = and_parts (leb lo x) (leb x hi) (brought paper (interval lo hi) x w) in
    (omega (arith, leb-true lo x c.0), omega (arith, leb-true x hi c.1))

-- only cells of 1..n are added, so the sample leaves out none of the added cells that pass
pub added_in_grid : (s : Settings) (X : Cells) (k : Sketch) → Made s X k → (x : ℕ) → X x ≡ true → (1 ≤ x) × (x ≤ s.n)
added_in_grid s X k (opening r h e) x m = absurd (false≢true m)
added_in_grid s X k (adding {X = Y} {k = j} a lo hi r h) x m =
    ⊎_elim
    (λ (w : Y x ≡ true). added_in_grid s Y j a x w)
    (λ w. in_stretch s j (exact s Y j a).0 lo hi (add_on j lo hi) bad_range (add_bad j lo hi (made-sketch s Y j a)) x w)
    (or_cases (Y x) (brings (add_on j lo hi) (interval lo hi) x) m)
added_in_grid s X k (plainly {X = Y} {k = j} a lo hi r h) x m =
    ⊎_elim
    (λ (w : Y x ≡ true). added_in_grid s Y j a x w)
    (λ w. in_stretch s j (exact s Y j a).0 lo hi (plain_add_on j lo hi) (cond (is_small j.settings) bad_range bad_settings)
    (plain_bad j lo hi (made-sketch s Y j a)) x w)
    (or_cases (Y x) (brings (plain_add_on j lo hi) (interval lo hi) x) m)
added_in_grid s X k (rowing {X = Y} {k = j} a ts r h) x m =
    ⊎_elim
    (λ (w : Y x ≡ true). added_in_grid s Y j a x w)
    (λ (w : brings (row_on j ts) (row_cells ts) x ≡ true).
    let place = first_bad j.settings ts in
    let t = granted (all_in j.settings ts) (row_on j ts) bad_range place (row_cells ts) x (row_bad j ts (made-sketch s Y j a)) w in
    subst (λ (q : Settings). (1 ≤ x) × (x ≤ q.n)) (exact s Y j a).0 (row_cells_in j.settings ts x t (brought (row_on j ts) (row_cells ts) x w)))
    (or_cases (Y x) (brings (row_on j ts) (row_cells ts) x) m)
added_in_grid s X k (merging {X = Y} {Y = Z} {j = i} {k = j} a b r h) x m =
    ⊎_elim (λ w. added_in_grid s Y i a x w) (λ w. added_in_grid s Z j b x (brought (merge_on i j) Z x w)) (or_cases (Y x) (brings (merge_on i j) Z x) m)
added_in_grid s X k (refusing {X = Y} {j = j} a i r h number place e) x m = added_in_grid s Y j a x m
added_in_grid s X k (reading {X = Y} {k = j} a room after w v n e r h) x m = added_in_grid s Y j a x m

-- 2
pub same-cells : (s : Settings) (X Y : Cells) (j k : Sketch) → Made s X j → Made s Y k → ((x : ℕ) → X x ≡ Y x) → j ≡ k
same-cells s X Y j k a b h =
    let g = made-good s X j a in
    the_sketch s g X j a ∙ ap (sketch_of s) (fun_ext h) ∙ sym (the_sketch s g Y k b)

parts-image : (k : Sketch) {t : Settings} {level : ℕ} {xs : List ℕ} → k.settings ≡ t → k.level ≡ level → cells_of k ≡ xs → image_of k ≡ image_as t level xs
unfolding image_of
parts-image k e f g = cc

pub image_of-cells : (s : Settings) (X : Cells) (k : Sketch) → Made s X k → HasImage s X k
image_of-cells s X k h =
    let e = exact s X k h in
    let i : image_of k ≡ image_for s X = parts-image k e.0 e.1 e.2 in
    record {
      image = i;
      written = λ room after w n v a. (let t = wrote k room after w n v a in (t.size ∙ ap length i, t.bytes ∙ i));
    }

pub same-image : (s : Settings) (X Y : Cells) (j k : Sketch) → Made s X j → Made s Y k → ((x : ℕ) → X x ≡ Y x) → HasImage s X j × HasImage s X k
same-image s X Y j k a b h =
    let i = image_of-cells s X j a in
    (i, subst (HasImage s X) (same-cells s X Y j k a b h) i)

-- 3
pub more_cells : (s : Settings) (X Y : Cells) (j k : Sketch) → Made s X j → Made s Y k → Inside X Y
    → (j.level ≤ k.level) × ((x : ℕ) → X x ≡ true → listed (cells_of k) x ≡ (listed (cells_of j) x && passes s k.level x))
more_cells s X Y j k a b h =
    let g = made-good s X j a in
    rw (the_sketch s g X j a, the_sketch s g Y k b) (sketch_more s g X Y h)

-- 4: a merge of two histories is never refused, and is a history of the cells of both
pub merge-made : (s : Settings) {X Y : Cells} {j k : Sketch} → Made s X j → Made s Y k → (r : Changed Refusal) → Hands (merge_on j k) (merge j k) j r
    → Made s (X ∪ Y) r.sketch
merge-made s {X} {Y} {j} {k} a b r h =
    let g = made-good s X j a in
    let ea : j ≡ sketch_of s X = the_sketch s g X j a in
    let eb : k ≡ sketch_of s Y = the_sketch s g Y k b in
    let same : same_settings j.settings k.settings ≡ true = rw (ea, eb, settings_of s g X, settings_of s g Y) (facts_same s) in
    let p : merge_on j k ≡ answered [] = merge-both j k (ap is_sketch ea ∙ is_sketch_lem s g X) (ap is_sketch eb ∙ is_sketch_lem s g Y) same in
    subst (λ (q : Paper). Made s (X ∪ brings q Y) r.sketch) p (merging a b r h)

pub merge_order : (s : Settings) {X Y : Cells} {j k : Sketch} → Made s X j → Made s Y k
    → (q r : Changed Refusal) → Hands (merge_on j k) (merge j k) j q → Hands (merge_on k j) (merge k j) k r → q.sketch ≡ r.sketch
merge_order s {X} {Y} a b q r h i =
    same-cells s (X ∪ Y) (Y ∪ X) q.sketch r.sketch (merge-made s a b q h) (merge-made s b a r i) (λ x. or_comm (X x) (Y x))

pub merge_grouping : (s : Settings) {X Y Z : Cells} {i j k : Sketch} → Made s X i → Made s Y j → Made s Z k
    → (p q r t : Changed Refusal)
    → Hands (merge_on i j) (merge i j) i p → Hands (merge_on p.sketch k) (merge p.sketch k) p.sketch q
    → Hands (merge_on j k) (merge j k) j r → Hands (merge_on i r.sketch) (merge i r.sketch) i t
    → q.sketch ≡ t.sketch
merge_grouping s {X} {Y} {Z} a b c p q r t hp hq hr ht =
    same-cells s ((X ∪ Y) ∪ Z) (X ∪ (Y ∪ Z)) q.sketch t.sketch (merge-made s (merge-made s a b p hp) c q hq) (merge-made s a (merge-made s b c r hr) t ht)
    (λ x. or_assoc (X x) (Y x) (Z x))

pub merge_repeat : (s : Settings) {X : Cells} {k : Sketch} → Made s X k → (r : Changed Refusal) → Hands (merge_on k k) (merge k k) k r → r.sketch ≡ k
merge_repeat s {X} {k} a r h = same-cells s (X ∪ X) X r.sketch k (merge-made s a a r h) a (λ x. or_self (X x))
