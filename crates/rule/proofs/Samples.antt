-- The laws of the sample and of the lowest level.
--     fits-top        at the top everything fits
--     fits_higher     what fits at a level fits at every higher one
--     lowest_from, -top, -fits, -least, -more, -up, -step, -past, -skip     the lowest level
--     Agree, sample-same, lowest-same     two sets that agree on what passes at a level have the same samples from there on
-- Assumes nothing.
use mathlib.Core.Path.{◌≡◌, refl, sym, ap, ◌∙◌}
use mathlib.Core.Bool.{Bool, true, false, ◌&&◌, ◌||◌, and-false, true≢false, false≢true}
use mathlib.Core.Logic.{⊎_elim}
use mathlib.Core.List.{List, []}
use Prim.Native.Nat.{ℕ, suc, ◌+◌, ◌-◌, ◌≤◌, ◌<◌}
use native.Mathlib.Omega.{arith}
use native.Mathlib.Nat.{le_antisymm}
use lib.Dec.{leb}
use lib.ListN.{length}
use borrow.Author.Tests.{le-leb, leb-true}
use Rattle.lists.specs.Lists.{listed, range, Rising}
use Rattle.lists.proofs.Tests.{tested}
use Rattle.lists.proofs.Filters.{filter_same, listed-filter, filter_none, filter_fewer}
use Rattle.lists.proofs.Runs.{filter-rises, run-listed, filter-one}
use Rattle.lists.proofs.Searches.{least_from, least_to, least_has, least-least, least_now, least-same}
use Rattle.rule.specs.declared.Settings.{Settings}
use Rattle.rule.specs.Cells.{Cells, no_cells, ◌∪◌}
use Rattle.rule.specs.Rule.{Good, passes, top}
use Rattle.rule.specs.Samples.{passing, sample, fits, lowest}
use Rattle.rule.proofs.Passing.{passes-lower, passes-one}

-- is x one of the cells 1..n?
abbrev pub InGrid : Settings → ℕ → Type 0
InGrid s x = listed (range 1 s.n) x ≡ true

pub in_grid : (s : Settings) (x : ℕ) → 1 ≤ x → x ≤ s.n → InGrid s x
in_grid s x h g = run-listed (suc s.n - 1) 1 x h (omega arith)

-- X has no cell that Y has not
abbrev pub Inside : Cells → Cells → Type 0
Inside X Y = (x : ℕ) → X x ≡ true → Y x ≡ true

pub inside_left : (X Y : Cells) → Inside X (X ∪ Y)
inside_left X Y x h = ap (λ (t : Bool). t || Y x) h

pub inside-right : (X Y : Cells) → Inside Y (X ∪ Y)
inside-right X Y x h = ⊎_elim (λ (e : X x ≡ true). let r : (X x || Y x) ≡ true = cc in r) (λ (e : X x ≡ false). let r : (X x || Y x) ≡ true = cc in r)
    (tested (X x))

-- on the cells that pass at the level m, X and Y agree
abbrev pub Agree : Settings → ℕ → Cells → Cells → Type 0
Agree s m X Y = (x : ℕ) → InGrid s x → passes s m x ≡ true → X x ≡ Y x

pub agree_refl : (s : Settings) (m : ℕ) (X : Cells) → Agree s m X X
agree_refl s m X x i e = refl

pub agree_higher : (s : Settings) (m l : ℕ) (X Y : Cells) → m ≤ l → Agree s m X Y → Agree s l X Y
agree_higher s m l X Y h f x i e = f x i (passes-lower s m l x h e)

pub agree_union : (s : Settings) (m : ℕ) (X Y X' Y' : Cells) → Agree s m X X' → Agree s m Y Y' → Agree s m (X ∪ Y) (X' ∪ Y')
agree_union s m X Y X' Y' f g x i e = let a : X x ≡ X' x = f x i e in let b : Y x ≡ Y' x = g x i e in cc

-- the sample

pub listed-sample : (s : Settings) (X : Cells) (m x : ℕ) → listed (sample s X m) x ≡ ((X x && passes s m x) && listed (range 1 s.n) x)
unfolding sample passing
listed-sample s X m x = listed-filter (passing s X m) (range 1 s.n) x

pub sample_agree : (s : Settings) (m : ℕ) (X : Cells) → Agree s m (listed (sample s X m)) X
sample_agree s m X x i e =
    let l : listed (sample s X m) x ≡ ((X x && passes s m x) && listed (range 1 s.n) x) = listed-sample s X m x in
    ⊎_elim (λ (f : X x ≡ true). cc) (λ (f : X x ≡ false). cc) (tested (X x))

pub sample-same : (s : Settings) (m l : ℕ) (X Y : Cells) → m ≤ l → Agree s m X Y → sample s X l ≡ sample s Y l
unfolding sample passing
sample-same s m l X Y h f =
    filter_same (passing s X l) (passing s Y l) (range 1 s.n) (λ x i.
    ⊎_elim
    (λ (e : passes s l x ≡ true). let a : X x ≡ Y x = f x i (passes-lower s m l x h e) in ap (λ (t : Bool). t && passes s l x) a)
    (λ (e : passes s l x ≡ false). ap (λ (t : Bool). X x && t) e ∙ and-false (X x) ∙ sym (and-false (Y x)) ∙ ap (λ (t : Bool). Y x && t) (sym e))
    (tested (passes s l x)))

pub sample_fewer : (s : Settings) (X Y : Cells) (l : ℕ) → Inside X Y → length (sample s X l) ≤ length (sample s Y l)
unfolding sample passing
sample_fewer s X Y l f =
    filter_fewer (passing s X l) (passing s Y l) (range 1 s.n) (λ x i e.
    ⊎_elim
    (λ (a : X x ≡ true). let b : Y x ≡ true = f x a in cc)
    (λ (a : X x ≡ false). cc)
    (tested (X x)))

pub few-fits : (s : Settings) (X : Cells) (l : ℕ) → length (sample s X l) ≤ s.capacity → fits s X l ≡ true
unfolding fits
few-fits s X l h = le-leb (length (sample s X l)) s.capacity h

pub fits-few : (s : Settings) (X : Cells) (l : ℕ) → fits s X l ≡ true → length (sample s X l) ≤ s.capacity
unfolding fits
fits-few s X l e = leb-true (length (sample s X l)) s.capacity e

pub fits_fewer : (s : Settings) (X Y : Cells) (l : ℕ) → Inside X Y → fits s Y l ≡ true → fits s X l ≡ true
fits_fewer s X Y l f e = few-fits s X l (omega (arith, sample_fewer s X Y l f, fits-few s Y l e))

-- what fits at a level fits at every higher one
pub fits_higher : (s : Settings) (X : Cells) (m l : ℕ) → m ≤ l → fits s X m ≡ true → fits s X l ≡ true
unfolding sample passing
fits_higher s X m l h e =
    few-fits s X l
    (omega (
      arith,
      fits-few s X m e,
      filter_fewer (passing s X l) (passing s X m) (range 1 s.n) (λ x i f.
          ⊎_elim
          (λ (p : passes s l x ≡ true). let q : passes s m x ≡ true = passes-lower s m l x h p in cc)
          (λ (p : passes s l x ≡ false). absurd (true≢false (sym f ∙ ap (λ (t : Bool). X x && t) p ∙ and-false (X x))))
          (tested (passes s l x))),
    ))

pub fits-same : (s : Settings) (m l : ℕ) (X Y : Cells) → m ≤ l → Agree s m X Y → fits s X l ≡ fits s Y l
unfolding fits
fits-same s m l X Y h f = ap (λ (c : List ℕ). leb (length c) s.capacity) (sample-same s m l X Y h f)

pub fits-top : (s : Settings) → Good s → (X : Cells) → fits s X (top s) ≡ true
unfolding sample passing
fits-top s g X =
    few-fits s X (top s)
    (omega (
      arith,
      g.capacity_low,
      filter-one (passing s X (top s)) (suc s.n - 1) 1 (λ x y a b c px py.
          let e : x ≡ y = passes-one s g x y (omega arith) (omega arith) (second (X x) (passes s (top s) x) px) (second (X y) (passes s (top s) y) py) in
          omega arith),
    ))
  where
    second : (t u : Bool) → (t && u) ≡ true → u ≡ true
    second true u e = e
    second false u e = absurd (false≢true e)

-- the lowest level

pub lowest-top : (s : Settings) (X : Cells) (m : ℕ) → m ≤ top s → lowest s X m ≤ top s
unfolding lowest
lowest-top s X m h = omega (arith, least_to (fits s X) (top s - m) m)

pub lowest_from : (s : Settings) (X : Cells) (m : ℕ) → m ≤ lowest s X m
unfolding lowest
lowest_from s X m = least_from (fits s X) (top s - m) m

pub lowest-fits : (s : Settings) → Good s → (X : Cells) (m : ℕ) → m ≤ top s → fits s X (lowest s X m) ≡ true
unfolding lowest
lowest-fits s g X m h =
    let e : m + (top s - m) ≡ top s = omega arith in
    least_has (fits s X) (top s - m) m (ap (fits s X) e ∙ fits-top s g X)

pub lowest-least : (s : Settings) (X : Cells) (m l : ℕ) → m ≤ l → fits s X l ≡ true → lowest s X m ≤ l
unfolding lowest
lowest-least s X m l h e = least-least (fits s X) (top s - m) m l h e

pub lowest_now : (s : Settings) (X : Cells) (m : ℕ) → fits s X m ≡ true → lowest s X m ≡ m
unfolding lowest
lowest_now s X m e = least_now (fits s X) (top s - m) m e

pub lowest-same : (s : Settings) (m : ℕ) (X Y : Cells) → Agree s m X Y → lowest s X m ≡ lowest s Y m
unfolding lowest
lowest-same s m X Y f = least-same (fits s X) (fits s Y) (top s - m) m (λ l h. fits-same s m l X Y h f)

-- more cells, or a search that starts higher: no lower level
pub lowest_more : (s : Settings) → Good s → (X Y : Cells) (m l : ℕ) → m ≤ l → l ≤ top s → Inside X Y → lowest s X m ≤ lowest s Y l
lowest_more s g X Y m l h t f = lowest-least s X m (lowest s Y l) (omega (arith, lowest_from s Y l)) (fits_fewer s X Y (lowest s Y l) f (lowest-fits s g Y l t))

-- a search that starts higher, but not too high
pub lowest-up : (s : Settings) → Good s → (X : Cells) (m l : ℕ) → m ≤ l → l ≤ top s → l ≤ lowest s X m → lowest s X l ≡ lowest s X m
lowest-up s g X m l h t w =
    le_antisymm
    (lowest-least s X l (lowest s X m) w (lowest-fits s g X m (omega arith)))
    (lowest-least s X m (lowest s X l) (omega (arith, lowest_from s X l)) (lowest-fits s g X l t))

-- a step of the search in a loop: where X does not fit at l, the search from l is that from l + 1
pub lowest_step : (s : Settings) → Good s → (X : Cells) (l : ℕ) → l < top s → fits s X l ≡ false → lowest s X l ≡ lowest s X (suc l)
lowest_step s g X l t e =
    let f : lowest s X l ≡ l → ⊥ = λ q. true≢false (sym (lowest-fits s g X l (omega arith)) ∙ ap (fits s X) q ∙ e) in
    sym (lowest-up s g X l (suc l) (omega arith) t (omega (arith, lowest_from s X l)))

-- where X does not fit at l, the lowest level is above l, wherever the search started
pub lowest_past : (s : Settings) → Good s → (X : Cells) (m l : ℕ) → m ≤ top s → fits s X l ≡ false → l < lowest s X m
lowest_past s g X m l t e =
    let f : lowest s X m ≤ l → ⊥ = λ q. true≢false (sym (fits_higher s X (lowest s X m) l q (lowest-fits s g X m t)) ∙ e) in
    omega arith

-- so a search that starts higher finds the same where it goes on at all
pub lowest_skip : (s : Settings) → Good s → (X : Cells) (m l : ℕ) → m ≤ l → l ≤ top s → l < lowest s X l → lowest s X l ≡ lowest s X m
lowest_skip s g X m l h t w =
    let e : fits s X l ≡ false = ⊎_elim (λ (f : fits s X l ≡ true). absurd (omega (arith, lowest_now s X l f))) (λ f. f) (tested (fits s X l)) in
    lowest-up s g X m l h t (omega (arith, lowest_past s g X m l (omega arith) e))

-- and it never steps past the top
pub below_top : (s : Settings) → Good s → (X : Cells) (l : ℕ) → l ≤ top s → fits s X l ≡ false → l < top s
below_top s g X l t e =
    let f : l ≡ top s → ⊥ = λ q. true≢false (sym (fits-top s g X) ∙ ap (fits s X) (sym q) ∙ e) in
    omega arith

pub sample-none : (s : Settings) (l : ℕ) → sample s no_cells l ≡ []
unfolding sample passing
sample-none s l = filter_none (passing s no_cells l) (range 1 s.n) (λ x i. refl)

pub fits-none : (s : Settings) (l : ℕ) → fits s no_cells l ≡ true
fits-none s l = few-fits s no_cells l (omega (arith, ap length (sample-none s l)))

pub sample-rises : (s : Settings) (X : Cells) (l : ℕ) → Rising 1 s.n (sample s X l)
unfolding sample
sample-rises s X l = filter-rises (passing s X l) (suc s.n - 1) 1 s.n (omega arith)

pub sample-passes : (s : Settings) (X : Cells) (l x : ℕ) → listed (sample s X l) x ≡ true → passes s l x ≡ true
sample-passes s X l x e = middle (X x) (passes s l x) (listed (range 1 s.n) x) (sym (listed-sample s X l x) ∙ e)
  where
    middle : (t u v : Bool) → ((t && u) && v) ≡ true → u ≡ true
    middle true true v e = refl
    middle true false v e = e
    middle false u v e = absurd (false≢true e)
