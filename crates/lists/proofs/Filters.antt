-- The laws of lists as sets, and of filters.
--     listed_head, listed_tail, listed_cases, listed-append    what is in a list
--     listed-filter   what is in a filtered list
--     filter-append   a filter of two lists
--     filter_same     a filter by two sets that agree on the list
--     filter_none, filter-all    by a set with nothing of the list, and with all of it
--     length-kept, length_left   the length, with one more tested
--     filter-short, filter_fewer     a filter makes no list longer, and a smaller set no longer one
--     filter-whole    a filter that makes a list no shorter takes all of it
-- Assumes nothing.
use mathlib.Core.Path.{◌≡◌, refl, sym, ap, ◌∙◌}
use mathlib.Core.Bool.{Bool, true, false, ◌&&◌, ◌||◌, and-false, or-true, or_assoc}
use mathlib.Core.Logic.{◌⊎◌, inl, inr, ⊎_elim}
use mathlib.Core.List.{List, [], ◌∷◌, ◌++◌}
use Prim.Native.Nat.{ℕ, suc, ◌≤◌}
use native.Mathlib.Omega.{arith}
use lib.Dec.{eqb}
use lib.ListN.{length}
use borrow.Author.Tests.{eqb-true, eq-eqb}
use Rattle.lists.specs.Lists.{listed, keep, filter}
use Rattle.lists.proofs.Tests.{tested}

-- a set that two names of a number are asked of
same_number : (X : ℕ → Bool) (x y : ℕ) → eqb x y ≡ true → X x ≡ X y
same_number X x y e = ap X (eqb-true x y e)

pub listed_head : (y : ℕ) (ys : List ℕ) → listed (y ∷ ys) y ≡ true
listed_head y ys = ap (λ (t : Bool). t || listed ys y) (eq-eqb y y refl)

pub listed_tail : (y : ℕ) (ys : List ℕ) (x : ℕ) → listed ys x ≡ true → listed (y ∷ ys) x ≡ true
listed_tail y ys x m = ap (λ (t : Bool). eqb x y || t) m ∙ or-true (eqb x y)

pub listed_cases : (y : ℕ) (ys : List ℕ) (x : ℕ) → listed (y ∷ ys) x ≡ true → (x ≡ y) ⊎ (listed ys x ≡ true)
listed_cases y ys x m =
    ⊎_elim
    (λ (e : eqb x y ≡ true). inl (eqb-true x y e))
    (λ (e : eqb x y ≡ false). let r : listed ys x ≡ true = cc in inr r)
    (tested (eqb x y))

pub listed-append : (c d : List ℕ) (x : ℕ) → listed (c ++ d) x ≡ (listed c x || listed d x)
listed-append [] d x = refl
listed-append (y ∷ ys) d x = ap (λ (t : Bool). eqb x y || t) (listed-append ys d x) ∙ sym (or_assoc (eqb x y) (listed ys x) (listed d x))

pub listed-filter : (X : ℕ → Bool) (l : List ℕ) (x : ℕ) → listed (filter X l) x ≡ (X x && listed l x)
listed-filter X [] x = sym (and-false (X x))
listed-filter X (y ∷ ys) x =
    let ih : listed (filter X ys) x ≡ (X x && listed ys x) = listed-filter X ys x in
    ⊎_elim
    (λ (e : eqb x y ≡ true).
    let c : X x ≡ X y = same_number X x y e in
    ⊎_elim (λ (p : X y ≡ true). cc) (λ (p : X y ≡ false). cc) (tested (X y)))
    (λ (e : eqb x y ≡ false). ⊎_elim (λ (p : X y ≡ true). cc) (λ (p : X y ≡ false). cc) (tested (X y)))
    (tested (eqb x y))

pub filter-append : (X : ℕ → Bool) (c d : List ℕ) → filter X (c ++ d) ≡ filter X c ++ filter X d
filter-append X [] d = refl
filter-append X (y ∷ ys) d =
    let ih : filter X (ys ++ d) ≡ filter X ys ++ filter X d = filter-append X ys d in
    ⊎_elim (λ (e : X y ≡ true). cc) (λ (e : X y ≡ false). cc) (tested (X y))

pub filter_same : (X Y : ℕ → Bool) (l : List ℕ) → ((x : ℕ) → listed l x ≡ true → X x ≡ Y x) → filter X l ≡ filter Y l
filter_same X Y [] h = refl
filter_same X Y (y ∷ ys) h =
    let here : X y ≡ Y y = h y (listed_head y ys) in
    let rest : filter X ys ≡ filter Y ys = filter_same X Y ys (λ x m. h x (listed_tail y ys x m)) in
    cc

pub filter_none : (X : ℕ → Bool) (l : List ℕ) → ((x : ℕ) → listed l x ≡ true → X x ≡ false) → filter X l ≡ []
filter_none X [] h = refl
filter_none X (y ∷ ys) h =
    let here : X y ≡ false = h y (listed_head y ys) in
    let rest : filter X ys ≡ [] = filter_none X ys (λ x m. h x (listed_tail y ys x m)) in
    cc

pub filter-all : (X : ℕ → Bool) (l : List ℕ) → ((x : ℕ) → listed l x ≡ true → X x ≡ true) → filter X l ≡ l
filter-all X [] h = refl
filter-all X (y ∷ ys) h =
    let here : X y ≡ true = h y (listed_head y ys) in
    let rest : filter X ys ≡ ys = filter-all X ys (λ x m. h x (listed_tail y ys x m)) in
    cc

pub length-kept : (t : Bool) (x : ℕ) (l : List ℕ) → t ≡ true → length (keep t x l) ≡ suc (length l)
length-kept t x l e = cc

pub length_left : (t : Bool) (x : ℕ) (l : List ℕ) → t ≡ false → length (keep t x l) ≡ length l
length_left t x l e = cc

pub filter-short : (X : ℕ → Bool) (l : List ℕ) → length (filter X l) ≤ length l
filter-short X [] = omega arith
filter-short X (y ∷ ys) =
    ⊎_elim
    (λ (e : X y ≡ true). omega (arith, length-kept (X y) y (filter X ys) e, filter-short X ys))
    (λ (e : X y ≡ false). omega (arith, length_left (X y) y (filter X ys) e, filter-short X ys))
    (tested (X y))

pub filter-whole : (X : ℕ → Bool) (l : List ℕ) → length l ≤ length (filter X l) → filter X l ≡ l
filter-whole X [] h = refl
filter-whole X (y ∷ ys) h =
    ⊎_elim
    (λ (e : X y ≡ true).
    let rest : filter X ys ≡ ys = filter-whole X ys (omega (arith, length-kept (X y) y (filter X ys) e)) in
    cc)
    (λ (e : X y ≡ false). absurd (omega (arith, length_left (X y) y (filter X ys) e, filter-short X ys)))
    (tested (X y))

pub filter_fewer : (X Y : ℕ → Bool) (l : List ℕ) → ((x : ℕ) → listed l x ≡ true → X x ≡ true → Y x ≡ true) → length (filter X l) ≤ length (filter Y l)
filter_fewer X Y [] h = omega arith
filter_fewer X Y (y ∷ ys) h =
    let ih : length (filter X ys) ≤ length (filter Y ys) = filter_fewer X Y ys (λ x m. h x (listed_tail y ys x m)) in
    ⊎_elim
    (λ (e : X y ≡ true). omega (arith, length-kept (X y) y (filter X ys) e, length-kept (Y y) y (filter Y ys) (h y (listed_head y ys) e)))
    (λ (e : X y ≡ false).
    ⊎_elim
    (λ (g : Y y ≡ true). omega (arith, length_left (X y) y (filter X ys) e, length-kept (Y y) y (filter Y ys) g))
    (λ (g : Y y ≡ false). omega (arith, length_left (X y) y (filter X ys) e, length_left (Y y) y (filter Y ys) g))
    (tested (Y y)))
    (tested (X y))
