-- The laws of the two searches.
--     least_from, least_to, least_now     it ends between its bounds, and at once where it may
--     least_has       where the last has the property, so has what it finds
--     least-least     what it finds is the least
--     least-found     a search that stops early has found
--     least-same      the same property, the same answer
--     greatest_has, greatest-found    the search from above ends at a number with the property, or at 0
--     greatest-above, greatest_to     what it finds is the greatest, and no further than it may look
-- Assumes nothing.
use mathlib.Core.Path.{◌≡◌, refl, sym, ap, ◌∙◌}
use mathlib.Core.Bool.{Bool, true, false, true≢false}
use mathlib.Core.Logic.{◌⊎◌, inl, inr, ⊎_elim}
use Prim.Native.Nat.{ℕ, zero, suc, ◌+◌, ◌≤◌, ◌<◌}
use native.Mathlib.Omega.{arith}
use native.Mathlib.Nat.{add-zero}
use Rattle.lists.specs.Searches.{least, greatest}
use Rattle.lists.proofs.Tests.{tested}

pub least_from : (q : ℕ → Bool) (k m : ℕ) → m ≤ least q k m
least_from q zero m = omega arith
least_from q (suc k) m =
    ⊎_elim
    (λ (e : q m ≡ true). let r : least q (suc k) m ≡ m = cc in omega arith)
    (λ (e : q m ≡ false). let r : least q (suc k) m ≡ least q k (suc m) = cc in omega (arith, least_from q k (suc m)))
    (tested (q m))

pub least_to : (q : ℕ → Bool) (k m : ℕ) → least q k m ≤ m + k
least_to q zero m = omega arith
least_to q (suc k) m =
    ⊎_elim
    (λ (e : q m ≡ true). let r : least q (suc k) m ≡ m = cc in omega arith)
    (λ (e : q m ≡ false). let r : least q (suc k) m ≡ least q k (suc m) = cc in omega (arith, least_to q k (suc m)))
    (tested (q m))

pub least_now : (q : ℕ → Bool) (k m : ℕ) → q m ≡ true → least q k m ≡ m
least_now q zero m h = refl
least_now q (suc k) m h = cc

pub least_has : (q : ℕ → Bool) (k m : ℕ) → q (m + k) ≡ true → q (least q k m) ≡ true
least_has q zero m h = ap q (sym (add-zero m)) ∙ h
least_has q (suc k) m h =
    ⊎_elim
    (λ (e : q m ≡ true). let r : least q (suc k) m ≡ m = cc in ap q r ∙ e)
    (λ (e : q m ≡ false). let r : least q (suc k) m ≡ least q k (suc m) = cc in ap q r ∙ least_has q k (suc m) (ap q (omega arith) ∙ h))
    (tested (q m))

pub least-least : (q : ℕ → Bool) (k m i : ℕ) → m ≤ i → q i ≡ true → least q k m ≤ i
least-least q zero m i h g = h
least-least q (suc k) m i h g =
    ⊎_elim
    (λ (e : q m ≡ true). let r : least q (suc k) m ≡ m = cc in omega arith)
    (λ (e : q m ≡ false).
    let r : least q (suc k) m ≡ least q k (suc m) = cc in
    let d : i ≡ m → ⊥ = λ f. true≢false (sym g ∙ ap q f ∙ e) in
    omega (arith, least-least q k (suc m) i (omega arith) g))
    (tested (q m))

pub least-found : (q : ℕ → Bool) (k m : ℕ) → least q k m < m + k → q (least q k m) ≡ true
least-found q zero m h = absurd (omega arith)
least-found q (suc k) m h =
    ⊎_elim
    (λ (e : q m ≡ true). rw e e)
    (λ (e : q m ≡ false). rw e (least-found q k (suc m) (let l : least q (suc k) m ≡ least q k (suc m) = rw e in omega arith)))
    (tested (q m))

pub least-same : (q r : ℕ → Bool) (k m : ℕ) → ((i : ℕ) → m ≤ i → q i ≡ r i) → least q k m ≡ least r k m
least-same q r zero m h = refl
least-same q r (suc k) m h =
    let here : q m ≡ r m = h m (omega arith) in
    let rest : least q k (suc m) ≡ least r k (suc m) = least-same q r k (suc m) (λ i g. h i (omega arith)) in
    cc

pub greatest_has : (q : ℕ → Bool) (k : ℕ) → q 0 ≡ true → q (greatest q k) ≡ true
greatest_has q zero h = h
greatest_has q (suc k) h =
    ⊎_elim
    (λ (e : q (suc k) ≡ true). let r : greatest q (suc k) ≡ suc k = cc in ap q r ∙ e)
    (λ (e : q (suc k) ≡ false). let r : greatest q (suc k) ≡ greatest q k = cc in ap q r ∙ greatest_has q k h)
    (tested (q (suc k)))

pub greatest-above : (q : ℕ → Bool) (k i : ℕ) → i ≤ k → q i ≡ true → i ≤ greatest q k
greatest-above q zero i h g = h
greatest-above q (suc k) i h g =
    ⊎_elim
    (λ (e : q (suc k) ≡ true). let r : greatest q (suc k) ≡ suc k = cc in omega arith)
    (λ (e : q (suc k) ≡ false).
    let r : greatest q (suc k) ≡ greatest q k = cc in
    let d : i ≡ suc k → ⊥ = λ f. true≢false (sym g ∙ ap q f ∙ e) in
    omega (arith, greatest-above q k i (omega arith) g))
    (tested (q (suc k)))

pub greatest-found : (q : ℕ → Bool) (k : ℕ) → (greatest q k ≡ 0) ⊎ (q (greatest q k) ≡ true)
greatest-found q zero = inl refl
greatest-found q (suc k) =
    ⊎_elim
    (λ (e : q (suc k) ≡ true). let r : greatest q (suc k) ≡ suc k = cc in inr (ap q r ∙ e))
    (λ (e : q (suc k) ≡ false).
    let r : greatest q (suc k) ≡ greatest q k = cc in
    ⊎_elim (λ h. inl (r ∙ h)) (λ h. inr (ap q r ∙ h)) (greatest-found q k))
    (tested (q (suc k)))

pub greatest_to : (q : ℕ → Bool) (k : ℕ) → greatest q k ≤ k
greatest_to q zero = omega arith
greatest_to q (suc k) =
    ⊎_elim
    (λ (e : q (suc k) ≡ true). let r : greatest q (suc k) ≡ suc k = cc in omega arith)
    (λ (e : q (suc k) ≡ false). let r : greatest q (suc k) ≡ greatest q k = cc in omega (arith, greatest_to q k))
    (tested (q (suc k)))
