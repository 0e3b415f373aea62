-- The laws of the next hit: an answer of crate `next`, for the progression of the hashes from lo on, names the next hit of lo..hi.
--     next_takes      crate `next` takes that progression
--     first_cell      at level 0 the first cell is the next hit
--     hit-passes      element i lies in the region just where the cell lo + i passes
--     found_at        the least such i gives the next hit lo + i
--     found_nothing   where there is none, there is no next hit
--     hit-some, hit-none, hit-within      what an answer says of the next hit, and where that lies
-- Assumes nothing.
use mathlib.Core.Path.{◌≡◌, refl, ap, ◌∙◌}
use mathlib.Core.Bool.{Bool, true, false, ◌&&◌}
use mathlib.Core.List.{List, [], ◌∷◌, ◌++◌}
use Rattle.std.specs.Prelude.{Option, Some, None}
use Prim.Native.Nat.{ℕ, suc, ◌+◌, ◌-◌, ◌*◌, ◌%◌, ◌≤◌, ◌<◌}
use native.Mathlib.Omega.{arith}
use lib.Dec.{leb, ltb, eqb}
use borrow.Author.Tests.{leb-true, eqb-true}
use Rattle.lists.specs.Lists.{keep, filter, run}
use Rattle.lists.proofs.Filters.{filter_none, filter-append}
use Rattle.lists.proofs.Runs.{run-append, listed-run}
use Rattle.rule.specs.declared.Settings.{Settings}
use Rattle.rule.specs.Cells.{Cells}
use Rattle.rule.specs.Rule.{Good, region, passes}
use Rattle.rule.specs.Samples.{next_hit, first}
use Rattle.rule.specs.Refusals.{answered, hits}
use Rattle.rule.proofs.Facts.{positive}
use Rattle.rule.proofs.Passing.{passes-zero}
use Rattle.rule.proofs.NextHits.{next_some}
use Rattle.next.specs.Hit.{Finds, Progression}
use Rattle.next.proofs.Laws.{answer_at, answer-nothing}
use Rattle.find.proofs.Checks.{and_parts}
use Rattle.find.proofs.Counting.{hash-step, hash_below}
use Rattle.find.specs.declared.Hashes.{Hashes}
use Rattle.find.specs.Finding.{Within, Handed}

-- no cell of a run is in a set
run_none : (X : Cells) (lo k : ℕ) → ((i : ℕ) → i < k → X (lo + i) ≡ false) → filter X (run lo k) ≡ []
run_none X lo k f =
    filter_none X (run lo k) (λ x m.
    let b : (lo ≤ x) × (x < lo + k) = listed-run k lo x m in
    let e : x ≡ lo + (x - lo) = omega arith in
    ap X e ∙ f (x - lo) (omega arith))

-- the least one is the first
run-first : (X : Cells) (lo k i : ℕ) → i < k → X (lo + i) ≡ true → ((j : ℕ) → j < i → X (lo + j) ≡ false) → first (filter X (run lo k)) ≡ Some (lo + i)
run-first X lo k i h t f =
    let cut : k ≡ i + suc (k - suc i) = omega arith in
    ap (λ (j : ℕ). first (filter X (run lo j))) cut
    ∙ ap (λ (l : List ℕ). first (filter X l)) (run-append i (suc (k - suc i)) lo)
    ∙ ap first (filter-append X (run lo i) (run (lo + i) (suc (k - suc i))))
    ∙ ap (λ (l : List ℕ). first (l ++ filter X (run (lo + i) (suc (k - suc i))))) (run_none X lo i f)
    ∙ ap (λ (b : Bool). first (keep b (lo + i) (filter X (run (suc (lo + i)) (k - suc i))))) t

-- at level 0 the first cell is the one
pub first_cell : (s : Settings) (level lo hi : ℕ) → Good s → (eqb level 0 && leb lo hi) ≡ true → next_hit s level lo hi ≡ Some lo
unfolding next_hit
first_cell s level lo hi g e =
    let t = and_parts (eqb level 0) (leb lo hi) e in
    let zero : level ≡ 0 = eqb-true level 0 t.0 in
    let cut : suc hi - lo ≡ suc (hi - lo) = omega (arith, leb-true lo hi t.1) in
    ap (λ (m : ℕ). first (filter (passes s m) (run lo (suc hi - lo)))) zero
    ∙ ap (λ (k : ℕ). first (filter (passes s 0) (run lo k))) cut
    ∙ ap (λ (b : Bool). first (keep b lo (filter (passes s 0) (run (suc lo) (hi - lo))))) (passes-zero s lo (positive s g))

module _ (s : Settings) (level lo hi : ℕ) (h : Hashes) (f : Handed s level lo hi h) where
  pub next_takes : Within s lo hi → Progression h.p h.a h.start × (h.cells ≤ 4000000000)
  next_takes v =
      let start : h.start < h.p = omega (arith, hash_below s lo v.good) in
      (record { small = omega (arith, v.good.n_high, v.good.p_high); step = omega (arith, v.good.a_high); start = start }, omega (arith, v.good.n_high))

  pub hit-passes : (i : ℕ) → passes s level (lo + i) ≡ ltb ((h.start + i * h.a) % h.p) h.size
  unfolding passes
  hit-passes i = rw (f.modulus, f.step, f.start, f.size) (ap (λ (y : ℕ). ltb y (region s level)) (hash-step s lo i))

  pub found_at : (i : ℕ) (x : Option ℕ) → Finds h.p h.a h.start h.size h.cells x → x ≡ Some i → next_hit s level lo hi ≡ Some (lo + i)
  unfolding next_hit
  found_at i x g e =
      let t = answer_at h.p h.a h.start h.size h.cells i x g e in
      run-first (passes s level) lo (suc hi - lo) i (rw (← f.cells) t.0) (hit-passes i ∙ t.1) (λ j b. hit-passes j ∙ t.2 j b)

  pub found_nothing : (x : Option ℕ) → Finds h.p h.a h.start h.size h.cells x → x ≡ None → next_hit s level lo hi ≡ None
  unfolding next_hit
  found_nothing x g e =
      ap first (run_none (passes s level) lo (suc hi - lo) (λ i b.
      hit-passes i ∙ answer-nothing h.p h.a h.start h.size h.cells x g e i (rw f.cells b)))

-- an answer with a cell, and one with none
pub hit-some : (o : Option ℕ) (x : ℕ) → answered (x ∷ []) ≡ answered (hits o) → o ≡ Some x
hit-some None x e = cc
hit-some (Some y) x e = cc

pub hit-none : (o : Option ℕ) → answered [] ≡ answered (hits o) → o ≡ None
hit-none None e = refl
hit-none (Some y) e = cc

pub hit-within : (s : Settings) (level lo hi x : ℕ) → answered (x ∷ []) ≡ answered (hits (next_hit s level lo hi)) → (lo ≤ x) × (x ≤ hi)
hit-within s level lo hi x e =
    let h = next_some s level lo hi x (hit-some (next_hit s level lo hi) x e) in
    (h.0, h.1)
