-- The laws of runs, ranges and rising lists.
--     listed-run, run-listed, listed-range    what is in a run, and in a range
--     run-append, range-suc     a run of two parts; one more of a filtered run
--     rising_listed   what is in a rising list lies in its bounds
--     rising_lower, rising_join, rising_filter, rising_within    other bounds, two lists, a part
--     filter-rises    what a filter takes from a run rises
--     filter-listed   a rising list is what it takes from a run
--     filter-one      a filter that takes no two numbers of a run takes one at most
--     rising_same     for code that makes a list: two rising lists of the same numbers are one
--     rising_whole    for code that leaves a list: a rising list in another that is no longer is that one
-- Assumes nothing.
use mathlib.Core.Path.{◌≡◌, refl, sym, ap, ap₂, ◌∙◌}
use mathlib.Core.Bool.{Bool, true, false, ◌&&◌, ◌||◌, and-eq-true_iff, false≢true}
use mathlib.Core.Logic.{⊎_elim}
use mathlib.Core.List.{List, [], ◌∷◌, ◌++◌}
use Prim.Native.Nat.{ℕ, zero, suc, ◌+◌, ◌-◌, ◌≤◌, ◌<◌}
use native.Mathlib.Omega.{arith}
use lib.Dec.{leb, eqb}
use lib.ListN.{length}
use borrow.Author.Tests.{le-leb, leb-true, eqb-true, eqb-false, ne_eqb}
use Rattle.lists.specs.Lists.{listed, keep, filter, run, range, Rising}
use Rattle.lists.proofs.Tests.{tested, by_order, same_test}
use Rattle.lists.proofs.Filters.{listed_head, listed_tail, listed_cases, listed-filter}
use Rattle.lists.proofs.Filters.{filter-append, filter_same, filter_none, filter-whole, length-kept, length_left}

pub listed-run : (k lo x : ℕ) → listed (run lo k) x ≡ true → (lo ≤ x) × (x < lo + k)
listed-run zero lo x e = absurd (false≢true e)
listed-run (suc k) lo x e =
    ⊎_elim
    (λ (h : x ≡ lo). (omega arith, omega arith))
    (λ (h : listed (run (suc lo) k) x ≡ true). let b : (suc lo ≤ x) × (x < suc lo + k) = listed-run k (suc lo) x h in (omega arith, omega arith))
    (listed_cases lo (run (suc lo) k) x e)

pub run-listed : (k lo x : ℕ) → lo ≤ x → x < lo + k → listed (run lo k) x ≡ true
run-listed zero lo x h g = absurd (omega arith)
run-listed (suc k) lo x h g =
    ⊎_elim
    (λ (e : eqb x lo ≡ true). let r : listed (run lo (suc k)) x ≡ true = cc in r)
    (λ (e : eqb x lo ≡ false). listed_tail lo (run (suc lo) k) x (run-listed k (suc lo) x (above lo x h (eqb-false x lo e)) (omega arith)))
    (tested (eqb x lo))
  where
    above : (m y : ℕ) → m ≤ y → (y ≡ m → ⊥) → m < y
    above m y h f = omega arith

pub listed-range : (lo hi x : ℕ) → listed (range lo hi) x ≡ (leb lo x && leb x hi)
listed-range lo hi x =
    same_test (listed (range lo hi) x) (leb lo x && leb x hi)
    (λ e.
    let b : (lo ≤ x) × (x < lo + (suc hi - lo)) = listed-run (suc hi - lo) lo x e in
    ap₂ ◌&&◌ (le-leb lo x b.0) (le-leb x hi (omega arith)))
    (λ e.
    let h = (and-eq-true_iff (leb lo x) (leb x hi)).0 e in
    let a : lo ≤ x = leb-true lo x h.0 in
    let b : x ≤ hi = leb-true x hi h.1 in
    run-listed (suc hi - lo) lo x a (omega arith))

pub run-append : (j k lo : ℕ) → run lo (j + k) ≡ run lo j ++ run (lo + j) k
run-append zero k lo =
    let a : 0 + k ≡ k = omega arith in
    let b : lo + 0 ≡ lo = omega arith in
    cc
run-append (suc j) k lo =
    let a : suc j + k ≡ suc (j + k) = omega arith in
    let b : lo + suc j ≡ suc lo + j = omega arith in
    let ih : run (suc lo) (j + k) ≡ run (suc lo) j ++ run (suc lo + j) k = run-append j k (suc lo) in
    let c : run lo (suc (j + k)) ≡ lo ∷ run (suc lo) (j + k) = refl in
    cc

pub range-suc : (X : ℕ → Bool) (lo k : ℕ) → filter X (run lo (suc k)) ≡ filter X (run lo k) ++ keep (X (lo + k)) (lo + k) []
range-suc X lo k =
    let e : suc k ≡ k + 1 = omega arith in
    ap (λ (j : ℕ). filter X (run lo j)) e ∙ ap (filter X) (run-append k 1 lo) ∙ filter-append X (run lo k) (run (lo + k) 1)

pub rising_listed : (c : List ℕ) (lo hi x : ℕ) → Rising lo hi c → listed c x ≡ true → (lo ≤ x) × (x ≤ hi)
rising_listed [] lo hi x r e = absurd (false≢true e)
rising_listed (y ∷ ys) lo hi x r e =
    ⊎_elim
    (λ (h : x ≡ y). (omega arith, omega arith))
    (λ (h : listed ys x ≡ true). let b : (suc y ≤ x) × (x ≤ hi) = rising_listed ys (suc y) hi x r.2 h in (omega arith, omega arith))
    (listed_cases y ys x e)

-- no number below lo is in a list that rises from above lo
not_listed : (c : List ℕ) (lo hi x : ℕ) → Rising lo hi c → x < lo → listed c x ≡ false
not_listed c lo hi x r h =
    ⊎_elim (λ (e : listed c x ≡ true). absurd (omega (arith, (rising_listed c lo hi x r e).0))) (λ e. e) (tested (listed c x))

pub rising_lower : (c : List ℕ) (m lo hi : ℕ) → m ≤ lo → Rising lo hi c → Rising m hi c
rising_lower [] m lo hi h r = tt
rising_lower (y ∷ ys) m lo hi h r = (omega arith, r.1, r.2)

pub rising_join : (c d : List ℕ) (lo m hi : ℕ) → m ≤ hi → lo ≤ suc m → Rising lo m c → Rising (suc m) hi d → Rising lo hi (c ++ d)
rising_join [] d lo m hi h l r w = rising_lower d lo (suc m) hi l w
rising_join (y ∷ ys) d lo m hi h l r w = (r.0, omega arith, rising_join ys d (suc y) m hi h (omega arith) r.2 w)

pub rising_filter : (X : ℕ → Bool) (c : List ℕ) (lo hi : ℕ) → Rising lo hi c → Rising lo hi (filter X c)
rising_filter X [] lo hi r = tt
rising_filter X (y ∷ ys) lo hi r = step (X y) (rising_filter X ys (suc y) hi r.2)
  where
    step : (t : Bool) → Rising (suc y) hi (filter X ys) → Rising lo hi (keep t y (filter X ys))
    step true w = (r.0, r.1, w)
    step false w = rising_lower (filter X ys) lo (suc y) hi (omega arith) w

pub rising_within : (c : List ℕ) (lo hi lo' hi' : ℕ) → Rising lo hi c → ((x : ℕ) → listed c x ≡ true → (lo' ≤ x) × (x ≤ hi')) → Rising lo' hi' c
rising_within [] lo hi lo' hi' r h = tt
rising_within (y ∷ ys) lo hi lo' hi' r h =
    let b : (lo' ≤ y) × (y ≤ hi') = h y (listed_head y ys) in
    (b.0, b.1, rising_within ys (suc y) hi (suc y) hi' r.2 (λ x m. ((rising_listed ys (suc y) hi x r.2 m).0, (h x (listed_tail y ys x m)).1)))

pub filter-rises : (X : ℕ → Bool) (k lo hi : ℕ) → lo + k ≤ suc hi → Rising lo hi (filter X (run lo k))
filter-rises X zero lo hi h = tt
filter-rises X (suc k) lo hi h =
    let ih : Rising (suc lo) hi (filter X (run (suc lo) k)) = filter-rises X k (suc lo) hi (omega arith) in
    step (X lo) ih
  where
    step : (t : Bool) → Rising (suc lo) hi (filter X (run (suc lo) k)) → Rising lo hi (keep t lo (filter X (run (suc lo) k)))
    step true r = (omega arith, omega arith, r)
    step false r = rising_lower (filter X (run (suc lo) k)) lo (suc lo) hi (omega arith) r

pub filter-listed : (k lo hi : ℕ) (c : List ℕ) → suc hi ≡ lo + k → Rising lo hi c → filter (listed c) (run lo k) ≡ c
filter-listed zero lo hi [] h r = refl
filter-listed zero lo hi (y ∷ ys) h r = absurd (omega arith)
filter-listed (suc k) lo hi [] h r = filter_none (listed []) (run lo (suc k)) (λ x m. refl)
filter-listed (suc k) lo hi (y ∷ ys) h r =
    ⊎_elim
    (λ (e : eqb lo y ≡ true).
    let q : lo ≡ y = eqb-true lo y e in
    let rest : filter (listed (y ∷ ys)) (run (suc lo) k) ≡ filter (listed ys) (run (suc lo) k) =
    filter_same (listed (y ∷ ys)) (listed ys) (run (suc lo) k) (λ x m.
    let b : (suc lo ≤ x) × (x < suc lo + k) = listed-run k (suc lo) x m in
    ap (λ (t : Bool). t || listed ys x) (ne_eqb x y (λ (f : x ≡ y). omega arith))) in
    let lower : Rising (suc lo) hi ys = rising_lower ys (suc lo) (suc y) hi (omega arith) r.2 in
    let ih : filter (listed ys) (run (suc lo) k) ≡ ys = filter-listed k (suc lo) hi ys (omega arith) lower in
    cc)
    (λ (e : eqb lo y ≡ false).
    let d : lo ≡ y → ⊥ = eqb-false lo y e in
    let r' : Rising (suc lo) hi (y ∷ ys) = (omega arith, r.1, r.2) in
    let out : listed (y ∷ ys) lo ≡ false = not_listed (y ∷ ys) (suc lo) hi lo r' (omega arith) in
    let ih : filter (listed (y ∷ ys)) (run (suc lo) k) ≡ y ∷ ys = filter-listed k (suc lo) hi (y ∷ ys) (omega arith) r' in
    cc)
    (tested (eqb lo y))

pub filter-one : (X : ℕ → Bool) (k lo : ℕ) → ((x y : ℕ) → lo ≤ x → x < y → y < lo + k → X x ≡ true → X y ≡ true → ⊥) → length (filter X (run lo k)) ≤ 1
filter-one X zero lo h = omega arith
filter-one X (suc k) lo h =
    ⊎_elim
    (λ (e : X lo ≡ true).
    let none : filter X (run (suc lo) k) ≡ [] =
    filter_none X (run (suc lo) k) (λ x m.
    let b : (suc lo ≤ x) × (x < suc lo + k) = listed-run k (suc lo) x m in
    ⊎_elim (λ (f : X x ≡ true). absurd (h lo x (omega arith) b.0 (omega arith) e f)) (λ f. f) (tested (X x))) in
    omega (arith, length-kept (X lo) lo (filter X (run (suc lo) k)) e, ap length none))
    (λ (e : X lo ≡ false).
    let ih : length (filter X (run (suc lo) k)) ≤ 1 = filter-one X k (suc lo) (λ x y a b c. h x y (omega arith) b (omega arith)) in
    omega (arith, length_left (X lo) lo (filter X (run (suc lo) k)) e))
    (tested (X lo))

pub rising_same : (lo hi : ℕ) (c d : List ℕ) → Rising lo hi c → Rising lo hi d → ((x : ℕ) → listed c x ≡ listed d x) → c ≡ d
rising_same lo hi c d r w h =
    ⊎_elim
    (λ (e : suc hi < lo). empty c r e ∙ sym (empty d w e))
    (λ (e : lo ≤ suc hi).
    let k : suc hi ≡ lo + (suc hi - lo) = omega arith in
    sym (filter-listed (suc hi - lo) lo hi c k r)
    ∙ filter_same (listed c) (listed d) (run lo (suc hi - lo)) (λ x m. h x)
    ∙ filter-listed (suc hi - lo) lo hi d k w)
    (by_order (suc hi) lo)
  where
    empty : (f : List ℕ) → Rising lo hi f → suc hi < lo → f ≡ []
    empty [] r h = refl
    empty (x ∷ xs) r h = absurd (omega arith)

pub rising_whole : (lo hi : ℕ) (c d : List ℕ) → Rising lo hi c → Rising lo hi d → ((x : ℕ) → listed c x ≡ true → listed d x ≡ true) → length d ≤ length c
    → c ≡ d
rising_whole lo hi c d r w h n = part ∙ filter-whole (listed c) d (omega (arith, ap length part))
  where
    both : (t u : Bool) → (t ≡ true → u ≡ true) → t ≡ (t && u)
    both true u f = sym (f refl)
    both false u f = refl

    -- c is what d has of it
    part : c ≡ filter (listed c) d
    part =
        rising_same lo hi c (filter (listed c) d) r (rising_filter (listed c) d lo hi w)
        (λ x. both (listed c x) (listed d x) (h x) ∙ sym (listed-filter (listed c) d x))
