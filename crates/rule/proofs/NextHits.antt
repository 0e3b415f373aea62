-- The laws of the next hit.
--     next_some, next_none    what it is, and where there is none
--     walk-some, walk_none    a walk by the next hit, from the front
-- Assumes nothing.
use mathlib.Core.Path.{◌≡◌, sym, ap, ◌∙◌, refl}
use mathlib.Core.Bool.{true, false, false≢true}
use mathlib.Core.Logic.{◌⊎◌, inl, inr, ⊎_elim}
use mathlib.Core.List.{List, [], ◌∷◌}
use Rattle.std.specs.Prelude.{Some, None}
use Prim.Native.Nat.{ℕ, zero, suc, ◌+◌, ◌-◌, ◌≤◌, ◌<◌}
use native.Mathlib.Omega.{arith}
use Rattle.lists.specs.Lists.{listed, filter, run, range}
use Rattle.lists.proofs.Tests.{tested, by_order}
use Rattle.lists.proofs.Filters.{listed_cases}
use Rattle.lists.proofs.Runs.{run-listed}
use Rattle.rule.specs.declared.Settings.{Settings}
use Rattle.rule.specs.Cells.{Cells}
use Rattle.rule.specs.Rule.{passes}
use Rattle.rule.specs.Samples.{next_hit, first}

-- the first of a filtered run
first_some : (X : Cells) (k lo x : ℕ) → first (filter X (run lo k)) ≡ Some x
    → (lo ≤ x) × (x < lo + k) × (X x ≡ true) × ((y : ℕ) → lo ≤ y → y < x → X y ≡ false)
first_some X zero lo x e = let z : ◌≡◌ {A = ℕ} 0 1 = cc in absurd (omega arith)
first_some X (suc k) lo x e =
    ⊎_elim
    (λ (t : X lo ≡ true).
    let h : first (filter X (run lo (suc k))) ≡ Some lo = cc in
    let q : lo ≡ x = cc in
    (omega arith, omega arith, ap X (sym q) ∙ t, λ y a b. absurd (omega arith)))
    (λ (t : X lo ≡ false).
    let h : first (filter X (run (suc lo) k)) ≡ Some x = cc in
    let ih : (suc lo ≤ x) × (x < suc lo + k) × (X x ≡ true) × ((y : ℕ) → suc lo ≤ y → y < x → X y ≡ false) = first_some X k (suc lo) x h in
    (omega arith, omega arith, ih.2, λ y a b. ⊎_elim (λ (q : y ≡ lo). ap X q ∙ t) (λ (q : lo < y). ih.3 y q b) (from lo y a)))
    (tested (X lo))
  where
    from : (m y : ℕ) → m ≤ y → (y ≡ m) ⊎ (m < y)
    from m y h = ⊎_elim (λ (q : m < y). inr q) (λ (q : y ≤ m). inl (omega arith)) (by_order m y)

first-none : (X : Cells) (l : List ℕ) → first (filter X l) ≡ None → (y : ℕ) → listed l y ≡ true → X y ≡ false
first-none X [] e y m = absurd (false≢true m)
first-none X (z ∷ zs) e y m =
    ⊎_elim
    (λ (t : X z ≡ true). let h : first (filter X (z ∷ zs)) ≡ Some z = cc in let q : ◌≡◌ {A = ℕ} 0 1 = cc in absurd (omega arith))
    (λ (t : X z ≡ false).
    let h : first (filter X zs) ≡ None = cc in
    ⊎_elim (λ (q : y ≡ z). ap X q ∙ t) (λ (q : listed zs y ≡ true). first-none X zs h y q) (listed_cases z zs y m))
    (tested (X z))

-- the next hit
pub next_some : (s : Settings) (level lo hi x : ℕ) → next_hit s level lo hi ≡ Some x
    → (lo ≤ x) × (x ≤ hi) × (passes s level x ≡ true) × ((y : ℕ) → lo ≤ y → y < x → passes s level y ≡ false)
unfolding next_hit
next_some s level lo hi x e =
    let h : (lo ≤ x) × (x < lo + (suc hi - lo)) × (passes s level x ≡ true)
    × ((y : ℕ) → lo ≤ y → y < x → passes s level y ≡ false) = first_some (passes s level) (suc hi - lo) lo x e in
    (h.0, omega arith, h.2, h.3)

pub next_none : (s : Settings) (level lo hi : ℕ) → next_hit s level lo hi ≡ None → (y : ℕ) → lo ≤ y → y ≤ hi → passes s level y ≡ false
unfolding next_hit
next_none s level lo hi e y a b = first-none (passes s level) (range lo hi) e y (run-listed (suc hi - lo) lo y a (omega arith))

-- a walk by the next hit: it and what is left after it are what there is
walk : (X : Cells) (k lo x : ℕ) → first (filter X (run lo k)) ≡ Some x → filter X (run lo k) ≡ x ∷ filter X (run (suc x) (lo + k - suc x))
walk X zero lo x e = let z : ◌≡◌ {A = ℕ} 0 1 = cc in absurd (omega arith)
walk X (suc k) lo x e =
    ⊎_elim
    (λ (t : X lo ≡ true).
    let h : first (filter X (run lo (suc k))) ≡ Some lo = cc in
    let q : lo ≡ x = cc in
    let j : k ≡ lo + suc k - suc x = omega arith in
    let f : filter X (run lo (suc k)) ≡ lo ∷ filter X (run (suc lo) k) = cc in
    cc)
    (λ (t : X lo ≡ false).
    let h : first (filter X (run (suc lo) k)) ≡ Some x = cc in
    let j : suc lo + k - suc x ≡ lo + suc k - suc x = omega arith in
    let ih : filter X (run (suc lo) k) ≡ x ∷ filter X (run (suc x) (suc lo + k - suc x)) = walk X k (suc lo) x h in
    let f : filter X (run lo (suc k)) ≡ filter X (run (suc lo) k) = cc in
    cc)
    (tested (X lo))

pub walk-some : (s : Settings) (level lo hi x : ℕ) → next_hit s level lo hi ≡ Some x
    → filter (passes s level) (range lo hi) ≡ x ∷ filter (passes s level) (range (suc x) hi)
unfolding next_hit
walk-some s level lo hi x e =
    let h : (lo ≤ x) × (x < lo + (suc hi - lo)) × (passes s level x ≡ true)
    × ((y : ℕ) → lo ≤ y → y < x → passes s level y ≡ false) = first_some (passes s level) (suc hi - lo) lo x e in
    let j : lo + (suc hi - lo) - suc x ≡ suc hi - suc x = omega arith in
    walk (passes s level) (suc hi - lo) lo x e ∙ ap (λ (k : ℕ). x ∷ filter (passes s level) (run (suc x) k)) j

pub walk_none : (s : Settings) (level lo hi : ℕ) → next_hit s level lo hi ≡ None → filter (passes s level) (range lo hi) ≡ []
unfolding next_hit
walk_none s level lo hi e = empty (filter (passes s level) (range lo hi)) e
  where
    empty : (l : List ℕ) → first l ≡ None → l ≡ []
    empty [] h = refl
    empty (x ∷ xs) h = let q : ◌≡◌ {A = ℕ} 0 1 = cc in absurd (omega arith)
