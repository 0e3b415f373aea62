-- Demand 3 for rows: an accepted row counts as its adds.
--     row_empty       an empty row gives the sketch back
--     row-each        where a row is answered, so is each call that adds its stretches one by one, and in the end there is the same sketch
--     each_row        and where each of those is answered, so is the row
--     row_counts      both are histories of the same cells
--     row_cut, cut_row    the same of the rows that a row is cut into
--     row_order       to a sketch with a history the order of the stretches makes no difference, refused rows included
--     row_repeat      nor does handing over the same row twice
-- Assumes nothing.
use mathlib.Core.Path.{◌≡◌, refl, sym, ap, ◌∙◌, subst, fun_ext}
use mathlib.Core.Bool.{Bool, true, false, ◌&&◌, ◌||◌, and_assoc, and_comm, or_assoc, or_comm, or_self, or-false}
use mathlib.Core.List.{List, [], ◌∷◌, ◌++◌, flatten}
use Prim.Native.Nat.{ℕ}
use Rattle.rule.specs.declared.refusals.RowError.{RowError}
use Rattle.sketch.specs.declared.Changed.{Changed}
use Rattle.rule.specs.declared.Settings.{Settings}
use Rattle.rule.specs.Cells.{Cells, ◌∪◌, interval}
use Rattle.rule.specs.Refusals.{Paper, answered, refused, unless_at, bad_range, of_row}
use Rattle.find.proofs.Checks.{and_parts}
use Rattle.sketch.specs.declared.Sketch.{Sketch}
use Rattle.sketch.specs.Sketches.{is_sketch, add}
use Rattle.sketch.specs.Calls.{add_on, handed}
use Rattle.sketch.proofs.Handing.{add_granted}
use Rattle.sketch.proofs.Results.{add_again}
use Rattle.row.specs.declared.Stretch.{Stretch}
use Rattle.row.specs.Stretches.{within, all_in, first_bad, add_all, row_cells, row_when, row_on, HandsRow}
use Rattle.row.proofs.Runs.{add-settings, add_all-append, add_all-settings, add_all_again}
use Rattle.row.proofs.Rows.{row_in, row_told, row_first}
use Rattle.demands.specs.Histories.{Made, brings, adding, rowing}
use Rattle.demands.specs.Rows.{OneByOne, no_stretch, one_stretch, RowByRow, no_row, one_row, Answered}
use Rattle.demands.specs.Rows.{Reordered, nothing, first_kept, two_exchanged, one_after_other}
use Rattle.demands.proofs.Demand2.{handed_next}
use Rattle.demands.proofs.Demand3.{made-sketch, exact, same-cells}

-- whatever was given as one; and where it is one, with an answer
pub row_empty : (k : Sketch) (r : Changed RowError) → HandsRow (row_on k []) (add_all k []) k r
    → (r.sketch ≡ k) × (is_sketch k ≡ true → of_row r.answer ≡ answered [])
row_empty k r h = (h.sketch ∙ same (row_on k []), λ g. h.answer ∙ row_in k [] g refl)
  where
    same : (paper : Paper) → handed paper k k ≡ k
    same (answered values) = refl
    same (refused number place) = refl

-- ---- one by one
each-add : {k j : Sketch} {ts : List Stretch} {papers : List Paper} → OneByOne k ts papers j → row_on k ts ≡ answered []
    → Answered papers × (j ≡ add_all k ts)
each-add no_stretch e = (tt, refl)
each-add (one_stretch {k = i} {t = t} {ts = us} r h rest) e =
    let f = row_first i t us e in
    let q : r.sketch ≡ add i t.lo t.hi = handed_next (add_on i t.lo t.hi) (add i t.lo t.hi) i r.sketch [] f.0 h.sketch in
    let ih = each-add rest (ap (λ (v : Sketch). row_on v us) q ∙ f.1) in
    ((h.answer ∙ f.0, ih.0), ih.1 ∙ ap (λ (v : Sketch). add_all v us) q)

all-adds : {k j : Sketch} {ts : List Stretch} {papers : List Paper} → OneByOne k ts papers j → is_sketch k ≡ true → Answered papers
    → row_on k ts ≡ answered []
unfolding add_on
all-adds {k} no_stretch g a = row_in k [] g refl
all-adds (one_stretch {k = i} {t = t} {ts = us} r h rest) g a =
    let p : add_on i t.lo t.hi ≡ answered [] = sym h.answer ∙ a.0 in
    let q : r.sketch ≡ add i t.lo t.hi = handed_next (add_on i t.lo t.hi) (add i t.lo t.hi) i r.sketch [] p h.sketch in
    let s : r.sketch.settings ≡ i.settings = ap (λ (v : Sketch). v.settings) q ∙ add-settings i t.lo t.hi in
    let ih = all-adds rest (ap is_sketch q ∙ add_again i t.lo t.hi g) a.1 in
    let w : within i.settings t ≡ true = (add_granted (is_sketch i) i.settings t.lo t.hi (sym p)).1 in
    let v : all_in i.settings us ≡ true = ap (λ (x : Settings). all_in x us) (sym s) ∙ (row_told r.sketch us ih).1 in
    row_in i (t ∷ us) g (rw (w, v))

-- what is handed back with an answer
module _ (k : Sketch) (ts : List Stretch) (r : Changed RowError) (h : HandsRow (row_on k ts) (add_all k ts) k r) (e : of_row r.answer ≡ answered []) where
  is_answered_lem : row_on k ts ≡ answered []
  is_answered_lem = sym h.answer ∙ e

  is_next : r.sketch ≡ add_all k ts
  is_next = handed_next (row_on k ts) (add_all k ts) k r.sketch [] is_answered_lem h.sketch

  pub row-each : (papers : List Paper) (j : Sketch) → OneByOne k ts papers j → Answered papers × (j ≡ r.sketch)
  row-each papers j c = let w = each-add c is_answered_lem in (w.0, w.1 ∙ sym is_next)

-- on a sketch: on anything else the empty row is refused, and there is no call that could be
pub each_row : (k : Sketch) (ts : List Stretch) (r : Changed RowError) → HandsRow (row_on k ts) (add_all k ts) k r → is_sketch k ≡ true
    → (papers : List Paper) (j : Sketch) → OneByOne k ts papers j → Answered papers → (of_row r.answer ≡ answered []) × (j ≡ r.sketch)
each_row k ts r h g papers j c a = let e = h.answer ∙ all-adds c g a in (e, (row-each k ts r h e papers j c).1)

adds-made : (s : Settings) (X : Cells) {k j : Sketch} {ts : List Stretch} {papers : List Paper} → Made s X k → OneByOne k ts papers j → Answered papers
    → Made s (X ∪ row_cells ts) j
adds-made s X {k} m no_stretch a = subst (λ (Y : Cells). Made s Y k) (fun_ext (λ x. sym (or-false (X x)))) m
adds-made s X {j = j} m (one_stretch {k = i} {t = t} {ts = us} r h rest) a =
    let C = interval t.lo t.hi in
    let n : Made s (X ∪ C) r.sketch = subst (λ (p : Paper). Made s (X ∪ brings p C) r.sketch) (sym h.answer ∙ a.0) (adding m t.lo t.hi r h) in
    subst (λ (Y : Cells). Made s Y j) (fun_ext (λ x. or_assoc (X x) (C x) (row_cells us x))) (adds-made s (X ∪ C) n rest a.1)

pub row_counts : (s : Settings) (X : Cells) (k : Sketch) (ts : List Stretch) → Made s X k
    → (r : Changed RowError) → HandsRow (row_on k ts) (add_all k ts) k r → of_row r.answer ≡ answered []
    → (papers : List Paper) (j : Sketch) → OneByOne k ts papers j → Made s (X ∪ row_cells ts) r.sketch × Made s (X ∪ row_cells ts) j
row_counts s X k ts m r h e papers j c = (
  subst (λ (p : Paper). Made s (X ∪ brings p (row_cells ts)) r.sketch) (is_answered_lem k ts r h e) (rowing m ts r h),
  adds-made s X m c (row-each k ts r h e papers j c).0,
)

-- ---- row by row
all_append : (s : Settings) (ts us : List Stretch) → all_in s (ts ++ us) ≡ (all_in s ts && all_in s us)
all_append s [] us = refl
all_append s (t ∷ ts) us = ap (λ (b : Bool). within s t && b) (all_append s ts us) ∙ sym (and_assoc (within s t) (all_in s ts) (all_in s us))

module _ (k : Sketch) (ts us : List Stretch) where
  parts-answered : row_on k (ts ++ us) ≡ answered [] → (row_on k ts ≡ answered []) × (row_on (add_all k ts) us ≡ answered [])
  parts-answered e =
      let h = row_told k (ts ++ us) e in
      let w = and_parts (all_in k.settings ts) (all_in k.settings us) (sym (all_append k.settings ts us) ∙ h.1) in (
        row_in k ts h.0 w.0,
        row_in (add_all k ts) us (add_all_again k ts h.0) (ap (λ (s : Settings). all_in s us) (add_all-settings k ts) ∙ w.1),
      )

  whole-answered : row_on k ts ≡ answered [] → row_on (add_all k ts) us ≡ answered [] → row_on k (ts ++ us) ≡ answered []
  whole-answered e f =
      let a = row_told k ts e in
      let b : all_in k.settings us ≡ true = ap (λ (s : Settings). all_in s us) (sym (add_all-settings k ts)) ∙ (row_told (add_all k ts) us f).1 in
      row_in k (ts ++ us) a.0 (all_append k.settings ts us ∙ rw (a.1, b))

each_part : {k j : Sketch} {tss : List (List Stretch)} {papers : List Paper} → RowByRow k tss papers j → row_on k (flatten tss) ≡ answered []
    → Answered papers × (j ≡ add_all k (flatten tss))
unfolding flatten
each_part no_row e = (tt, refl)
each_part (one_row {k = i} {ts = us} {tss = uss} r h rest) e =
    let f = parts-answered i us (flatten uss) e in
    let p : of_row r.answer ≡ answered [] = h.answer ∙ f.0 in
    let q : r.sketch ≡ add_all i us = is_next i us r h p in
    let ih = each_part rest (ap (λ (v : Sketch). row_on v (flatten uss)) q ∙ f.1) in
    ((p, ih.0), ih.1 ∙ ap (λ (v : Sketch). add_all v (flatten uss)) q ∙ sym (add_all-append i us (flatten uss)))

all-parts : {k j : Sketch} {tss : List (List Stretch)} {papers : List Paper} → RowByRow k tss papers j → is_sketch k ≡ true → Answered papers
    → row_on k (flatten tss) ≡ answered []
unfolding flatten
all-parts {k} no_row g a = row_in k [] g refl
all-parts (one_row {k = i} {ts = us} {tss = uss} r h rest) g a =
    let q : r.sketch ≡ add_all i us = is_next i us r h a.0 in
    let ih = all-parts rest (ap is_sketch q ∙ add_all_again i us g) a.1 in
    whole-answered i us (flatten uss) (is_answered_lem i us r h a.0) (ap (λ (v : Sketch). row_on v (flatten uss)) (sym q) ∙ ih)

module _ (k : Sketch) (tss : List (List Stretch)) (r : Changed RowError) (h : HandsRow (row_on k (flatten tss)) (add_all k (flatten tss)) k r)
    (papers : List Paper) (j : Sketch) (c : RowByRow k tss papers j) where
  pub row_cut : of_row r.answer ≡ answered [] → Answered papers × (j ≡ r.sketch)
  row_cut e = let w = each_part c (is_answered_lem k (flatten tss) r h e) in (w.0, w.1 ∙ sym (is_next k (flatten tss) r h e))

  -- on a sketch, as above
  pub cut_row : is_sketch k ≡ true → Answered papers → (of_row r.answer ≡ answered []) × (j ≡ r.sketch)
  cut_row g a = let e = h.answer ∙ all-parts c g a in (e, (row_cut e).1)

-- ---- in another order
all_reordered : (s : Settings) {ts us : List Stretch} → Reordered ts us → all_in s ts ≡ all_in s us
all_reordered s nothing = refl
all_reordered s (first_kept t p) = ap (λ (b : Bool). within s t && b) (all_reordered s p)
all_reordered s (two_exchanged t u ts) =
    sym (and_assoc (within s t) (within s u) (all_in s ts))
    ∙ ap (λ (b : Bool). b && all_in s ts) (and_comm (within s t) (within s u))
    ∙ and_assoc (within s u) (within s t) (all_in s ts)
all_reordered s (one_after_other p q) = all_reordered s p ∙ all_reordered s q

cells_reordered : (x : ℕ) {ts us : List Stretch} → Reordered ts us → row_cells ts x ≡ row_cells us x
cells_reordered x nothing = refl
cells_reordered x (first_kept t p) = ap (λ (b : Bool). interval t.lo t.hi x || b) (cells_reordered x p)
cells_reordered x (two_exchanged t u ts) =
    let a = interval t.lo t.hi x in
    let b = interval u.lo u.hi x in
    sym (or_assoc a b (row_cells ts x)) ∙ ap (λ (c : Bool). c || row_cells ts x) (or_comm a b) ∙ or_assoc b a (row_cells ts x)
cells_reordered x (one_after_other p q) = cells_reordered x p ∙ cells_reordered x q

-- what a row brings hangs on whether all of it is in range, and not on the place that its refusal names
bring_alike : (t : Bool) (place place' : ℕ) (X Y : Cells) (x : ℕ) → X x ≡ Y x
    → brings (unless_at t bad_range place (answered [])) X x ≡ brings (unless_at t bad_range place' (answered [])) Y x
bring_alike true place place' X Y x e = e
bring_alike false place place' X Y x e = refl

module _ (s : Settings) {X : Cells} {k : Sketch} (m : Made s X k) where
  on_made : (ts : List Stretch) → row_on k ts ≡ row_when true s ts
  unfolding row_on
  on_made ts = ap (λ (b : Bool). row_when b k.settings ts) (made-sketch s X k m) ∙ ap (λ (q : Settings). row_when true q ts) (exact s X k m).0

  brings_reordered : {ts us : List Stretch} → Reordered ts us → (x : ℕ) → brings (row_on k ts) (row_cells ts) x ≡ brings (row_on k us) (row_cells us) x
  brings_reordered {ts} {us} p x =
      ap (λ (q : Paper). brings q (row_cells ts) x) (on_made ts)
      ∙ bring_alike (all_in s ts) (first_bad s ts) (first_bad s us) (row_cells ts) (row_cells us) x (cells_reordered x p)
      ∙ ap (λ (b : Bool). brings (unless_at b bad_range (first_bad s us) (answered [])) (row_cells us) x) (all_reordered s p)
      ∙ ap (λ (q : Paper). brings q (row_cells us) x) (sym (on_made us))

  pub row_order : {ts us : List Stretch} → Reordered ts us
      → (q r : Changed RowError) → HandsRow (row_on k ts) (add_all k ts) k q → HandsRow (row_on k us) (add_all k us) k r → q.sketch ≡ r.sketch
  row_order {ts} {us} p q r h i =
      same-cells s (X ∪ brings (row_on k ts) (row_cells ts)) (X ∪ brings (row_on k us) (row_cells us)) q.sketch r.sketch (rowing m ts q h) (rowing m us r i)
      (λ x. ap (λ (b : Bool). X x || b) (brings_reordered p x))

pub row_repeat : (s : Settings) {X : Cells} {k : Sketch} → Made s X k → (ts : List Stretch)
    → (q r : Changed RowError) → HandsRow (row_on k ts) (add_all k ts) k q → HandsRow (row_on q.sketch ts) (add_all q.sketch ts) q.sketch r
    → r.sketch ≡ q.sketch
row_repeat s {X} {k} m ts q r h i =
    let once = rowing m ts q h in
    let B = brings (row_on k ts) (row_cells ts) in
    let same : row_on q.sketch ts ≡ row_on k ts = on_made s once ts ∙ sym (on_made s m ts) in
    let twice : Made s ((X ∪ B) ∪ B) r.sketch = subst (λ (p : Paper). Made s ((X ∪ B) ∪ brings p (row_cells ts)) r.sketch) same (rowing once ts r i) in
    same-cells s ((X ∪ B) ∪ B) (X ∪ B) r.sketch q.sketch twice once (λ x. or_assoc (X x) (B x) (B x) ∙ ap (λ (b : Bool). X x || b) (or_self (B x)))
