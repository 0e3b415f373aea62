-- What the walks over a row say of its cells.
--     rises_facts, facts_rises    where `rises` answers true
--     rising_ascends  a rising row is one that `below` can search
--     below_splits    of a rising row, the cells below x come first, and those from x on after them
-- Assumes nothing.
use Prim.Native.Nat.{ℕ, zero, suc, ◌<◌, ◌≤◌}
use mathlib.Core.Path.{◌≡◌, refl, sym, ap, ◌∙◌}
use mathlib.Core.Bool.{true, false, ◌&&◌, and-eq-true_iff, false≢true}
use mathlib.Core.Logic.{⊎_elim}
use mathlib.Core.List.{List, [], ◌∷◌, ◌++◌}
use native.Mathlib.Omega.{arith}
use lib.Dec.{leb, ltb}
use lib.ListN.{length, take, drop, get_or}
use lib.Seq.{take-append_seam, drop-append_seam}
use borrow.Author.Tests.{ltb-true, ltb-false, leb-true, lt-ltb, le-ltb, le-leb, lt-leb}
use Rattle.lists.specs.Lists.{listed, filter, Rising}
use Rattle.lists.proofs.Tests.{tested}
use Rattle.lists.proofs.Filters.{listed_cases, listed_head, listed_tail, filter_none}
use Rattle.lists.proofs.Runs.{rising_listed}
use Rattle.rule.specs.declared.Settings.{Settings}
use Rattle.rule.specs.Cells.{Cells}
use Rattle.rule.specs.Rule.{passes}
use Rattle.rows.specs.Walked.{cells_below, Ascending, all_in, in_order, rises_from}

-- every cell of the list passes at the level
abbrev pub AllPass : Settings → ℕ → List ℕ → Type 0
AllPass s level xs = (x : ℕ) → listed xs x ≡ true → passes s level x ≡ true

order_facts : (n low : ℕ) (xs : List ℕ) → in_order n low xs ≡ true → Rising (suc low) n xs
order_facts n low [] e = tt
order_facts n low (y ∷ ys) e =
    let a = (and-eq-true_iff (ltb low y && leb y n) (in_order n y ys)).0 e in
    let b = (and-eq-true_iff (ltb low y) (leb y n)).0 a.0 in
    (ltb-true low y b.0, leb-true y n b.1, order_facts n y ys a.1)

facts_order : (n low : ℕ) (xs : List ℕ) → Rising (suc low) n xs → in_order n low xs ≡ true
facts_order n low [] r = refl
facts_order n low (x ∷ xs) r = rw (lt-ltb low x r.0, le-leb x n r.1) (facts_order n x xs r.2)

all_facts : (X : Cells) (xs : List ℕ) → all_in X xs ≡ true → (x : ℕ) → listed xs x ≡ true → X x ≡ true
all_facts X [] e x m = absurd (false≢true m)
all_facts X (y ∷ ys) e x m =
    let a = (and-eq-true_iff (X y) (all_in X ys)).0 e in
    ⊎_elim (λ (q : x ≡ y). ap X q ∙ a.0) (all_facts X ys a.1 x) (listed_cases y ys x m)

facts_all : (X : Cells) (xs : List ℕ) → ((x : ℕ) → listed xs x ≡ true → X x ≡ true) → all_in X xs ≡ true
facts_all X [] h = refl
facts_all X (x ∷ xs) h = rw (h x (listed_head x xs)) (facts_all X xs (λ y m. h y (listed_tail x xs y m)))

pub rises_facts : (s : Settings) (level low : ℕ) (xs : List ℕ) → rises_from s level low xs ≡ true → Rising (suc low) s.n xs × AllPass s level xs
rises_facts s level low xs e =
    let a = (and-eq-true_iff (in_order s.n low xs) (all_in (passes s level) xs)).0 e in
    (order_facts s.n low xs a.0, all_facts (passes s level) xs a.1)

pub facts_rises : (s : Settings) (level low : ℕ) (xs : List ℕ) → Rising (suc low) s.n xs → AllPass s level xs → rises_from s level low xs ≡ true
facts_rises s level low xs r h = rw (facts_order s.n low xs r) (facts_all (passes s level) xs h)

rising_above : (c : List ℕ) (lo hi : ℕ) → Rising lo hi c → (j : ℕ) → j < length c → lo ≤ get_or c j 0
rising_above [] lo hi r j h = absurd (omega arith)
rising_above (y ∷ ys) lo hi r zero h = r.0
rising_above (y ∷ ys) lo hi r (suc j) h = omega (arith, r.0, rising_above ys (suc y) hi r.2 j (omega arith))

-- a rising row is one that `below` can search
pub rising_ascends : (c : List ℕ) (lo hi : ℕ) → Rising lo hi c → Ascending c
rising_ascends [] lo hi r i j h w = absurd (omega arith)
rising_ascends (y ∷ ys) lo hi r zero zero h w = omega arith
rising_ascends (y ∷ ys) lo hi r zero (suc j) h w = omega (arith, rising_above ys (suc y) hi r.2 j (omega arith))
rising_ascends (y ∷ ys) lo hi r (suc i) zero h w = absurd (omega arith)
rising_ascends (y ∷ ys) lo hi r (suc i) (suc j) h w = rising_ascends ys (suc y) hi r.2 i j (omega arith) (omega arith)

-- the cells from x on
abbrev pub cells_from : ℕ → Cells
cells_from x y = leb x y

below_from : (c : List ℕ) (lo hi x : ℕ) → Rising lo hi c → filter (cells_below x) c ++ filter (cells_from x) c ≡ c
below_from [] lo hi x r = refl
below_from (y ∷ ys) lo hi x r =
    let ih : filter (cells_below x) ys ++ filter (cells_from x) ys ≡ ys = below_from ys (suc y) hi x r.2 in
    ⊎_elim
    (λ (e : ltb y x ≡ true). let f : leb x y ≡ false = lt-leb x y (ltb-true y x e) in cc)
    (λ (e : ltb y x ≡ false).
    let h : x ≤ y = ltb-false y x e in
    let f : leb x y ≡ true = le-leb x y h in
    let none : filter (cells_below x) ys ≡ [] = filter_none (cells_below x) ys
    (λ z m. let b = rising_listed ys (suc y) hi z r.2 m in le-ltb z x (omega arith)) in
    cc)
    (tested (ltb y x))

pub below_splits : (c : List ℕ) (lo hi x : ℕ) → Rising lo hi c
    → (take (length (filter (cells_below x) c)) c ≡ filter (cells_below x) c) × (drop (length (filter (cells_below x) c)) c ≡ filter (cells_from x) c)
below_splits c lo hi x r =
    let n : ℕ = length (filter (cells_below x) c) in
    let e : c ≡ filter (cells_below x) c ++ filter (cells_from x) c = sym (below_from c lo hi x r) in (
      ap (take n) e ∙ take-append_seam (filter (cells_below x) c) (filter (cells_from x) c),
      ap (drop n) e ∙ drop-append_seam (filter (cells_below x) c) (filter (cells_from x) c),
    )
