-- A walk over the cells lo, lo + 1, .., hi that tests each one.
--     seen            what it has found before cell x
--     seen_none, seen_on, seen_off, seen_more    at the start, and with one more cell tested
--     count_on, count_off     a walk that counts them
--     store_room, store_on, store_off     a walk that stores them in a row
--     seen_all        at the end it has found all there is
--     seen_few        it never finds more
--     first_here      the first one that it finds
--     one_at_most     what one cell counts
-- Assumes nothing.
use mathlib.Core.Path.{◌≡◌, refl, sym, ap, ◌∙◌}
use mathlib.Core.Bool.{Bool, true, false, cond}
use mathlib.Core.List.{List, [], ◌∷◌, ◌++◌, append-nil}
use Rattle.std.specs.Prelude.{Some}
use Prim.Native.Nat.{ℕ, suc, ◌+◌, ◌-◌, ◌≤◌, ◌<◌}
use native.Mathlib.Omega.{arith}
use lib.ListN.{length, set, length-append}
use Rattle.lists.specs.Lists.{keep, filter, run, range}
use Rattle.lists.specs.Rows.{Stored}
use Rattle.lists.proofs.Filters.{filter-append}
use Rattle.lists.proofs.Runs.{run-append, range-suc}
use Rattle.lists.proofs.Steps.{length_more}
use Rattle.lists.proofs.Stores.{stored_more, stored_as}
use Rattle.rule.specs.Cells.{Cells}
use Rattle.rule.specs.Samples.{first}

abbrev pub seen : Cells → ℕ → ℕ → List ℕ
seen X lo x = filter X (run lo (x - lo))

pub seen_none : (X : Cells) (lo : ℕ) → seen X lo lo ≡ []
seen_none X lo = let e : lo - lo ≡ 0 = omega arith in rw e

-- what it has found, and then what is to come
module _ (X : Cells) (lo x hi : ℕ) (h : lo ≤ x) (w : x ≤ suc hi) where
  seen_split : filter X (range lo hi) ≡ seen X lo x ++ filter X (range x hi)
  seen_split =
      let e : suc hi - lo ≡ (x - lo) + (suc hi - x) = omega arith in
      let f : lo + (x - lo) ≡ x = omega arith in
      ap (λ (k : ℕ). filter X (run lo k)) e ∙ (rw f at (ap (filter X) (run-append (x - lo) (suc hi - x) lo)
      ∙ filter-append X (run lo (x - lo)) (run (lo + (x - lo)) (suc hi - x))))

  pub seen_few : length (seen X lo x) ≤ length (filter X (range lo hi))
  seen_few = omega (arith, ap length seen_split, length-append (seen X lo x) (filter X (range x hi)))

module _ (X : Cells) (lo x : ℕ) (h : lo ≤ x) where
  seen-keep : seen X lo (x + 1) ≡ seen X lo x ++ keep (X x) x []
  seen-keep =
      let e : (x + 1) - lo ≡ suc (x - lo) = omega arith in
      let f : lo + (x - lo) ≡ x = omega arith in
      ap (λ (k : ℕ). filter X (run lo k)) e ∙ (rw f at (range-suc X lo (x - lo)))

  pub seen_on : X x ≡ true → seen X lo (x + 1) ≡ seen X lo x ++ (x ∷ [])
  seen_on t = rw t at seen-keep

  pub seen_off : X x ≡ false → seen X lo (x + 1) ≡ seen X lo x
  seen_off t = rw (t, append-nil) at seen-keep

  module _ {many : ℕ} (e : many ≡ length (seen X lo x)) where
    pub count_on : X x ≡ true → many + 1 ≡ length (seen X lo (x + 1))
    count_on t = ap (λ (k : ℕ). k + 1) e ∙ sym (ap length (seen_on t) ∙ length_more (seen X lo x) x)

    pub count_off : X x ≡ false → many ≡ length (seen X lo (x + 1))
    count_off t = e ∙ sym (ap length (seen_off t))

  pub seen_more : length (seen X lo (x + 1)) ≡ length (seen X lo x) + cond (X x) 1 0
  seen_more = ap length seen-keep ∙ length-append (seen X lo x) (keep (X x) x []) ∙ ap (λ (k : ℕ). length (seen X lo x) + k) (one (X x))
    where
      one : (t : Bool) → length (keep t x []) ≡ cond t 1 0
      one true = refl
      one false = refl

  pub first_here : (hi : ℕ) → x ≤ hi → seen X lo x ≡ [] → X x ≡ true → first (filter X (range lo hi)) ≡ Some x
  first_here hi w nothing t =
      let e : suc hi - x ≡ suc (hi - x) = omega arith in
      let here : filter X (range x hi) ≡ x ∷ filter X (run (suc x) (hi - x)) = rw (e, t) in
      let all : filter X (range lo hi) ≡ x ∷ filter X (run (suc x) (hi - x)) = seen_split X lo x hi h (omega arith) ∙ (rw nothing here) in
      ap first all

  module _ {row : List ℕ} {many : ℕ} {out : List ℕ} (g : Stored row 0 (seen X lo x) many out) where
    pub store_room : (hi : ℕ) → x ≤ hi → X x ≡ true → many < length (filter X (range lo hi))
    store_room hi w t =
        let few : length (seen X lo (x + 1)) ≤ length (filter X (range lo hi)) = seen_few X lo (x + 1) hi (omega arith) (omega arith) in
        omega (arith, g.next_place, few, ap length (seen_on t), length_more (seen X lo x) x)

    pub store_on : (hi : ℕ) → x ≤ hi → length (filter X (range lo hi)) ≤ length row → X x ≡ true → Stored row 0 (seen X lo (x + 1)) (many + 1) (set out many x)
    store_on hi w h t = stored_as (stored_more g x (omega (arith, store_room hi w t))) (sym (seen_on t))

    pub store_off : X x ≡ false → Stored row 0 (seen X lo (x + 1)) many out
    store_off t = stored_as g (sym (seen_off t))

-- a walk ends after hi, or where it started
pub seen_all : (X : Cells) (lo x hi : ℕ) → x - lo ≤ suc hi - lo → hi < x → seen X lo x ≡ filter X (range lo hi)
seen_all X lo x hi h w = let e : x - lo ≡ suc hi - lo = omega arith in rw e

-- what one cell counts
pub one_at_most : (t : Bool) → cond t 1 0 ≤ 1
one_at_most true = omega arith
one_at_most false = omega arith
