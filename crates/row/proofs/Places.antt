-- The laws of the first bad place.
--     place_found     what the search gives
--     bad_all, good-all, all_by_place     by the first bad place it is known whether all are in range
--     bad_there, good-before   the stretch at the first bad place is bad, and every one before it is in range
--     judged_row      the answer by the first bad place is the row's
-- Assumes nothing.
use Prim.Native.Nat.{ℕ, zero, suc, ◌+◌, ◌<◌, ◌≤◌}
use mathlib.Core.Path.{◌≡◌, refl, sym, ap, ◌∙◌}
use mathlib.Core.Bool.{Bool, true, false, cond, not}
use mathlib.Core.List.{List, [], ◌∷◌}
use mathlib.Core.Logic.{⊎_elim}
use native.Mathlib.Omega.{arith}
use lib.Dec.{leb}
use lib.ListN.{length, get_or}
use borrow.Author.Tests.{leb-true, leb-false}
use Rattle.rule.specs.declared.Settings.{Settings}
use Rattle.lists.proofs.Tests.{tested}
use Rattle.row.specs.declared.Stretch.{Stretch}
use Rattle.std.specs.Prelude.{None, Some}
use Rattle.std.specs.List.{position_from}
use Rattle.row.specs.Stretches.{within, all_in, first_bad, bad_place, judged_at, row_when}

-- what lies past the end of a row
abbrev pub none : Stretch
none = record { lo = 0; hi = 0 }

-- the first bad place and the tests
pub bad_all : (s : Settings) (ts : List Stretch) → first_bad s ts < length ts → all_in s ts ≡ false
bad_all s [] h = absurd (omega (arith, h))
bad_all s (t ∷ ts) h =
    ⊎_elim
    (λ (e : within s t ≡ true). let d : first_bad s (t ∷ ts) ≡ suc (first_bad s ts) = rw e in rw e (bad_all s ts (omega (arith, d, h))))
    (λ (e : within s t ≡ false). rw e)
    (tested (within s t))

pub good-all : (s : Settings) (ts : List Stretch) → length ts ≤ first_bad s ts → all_in s ts ≡ true
good-all s [] h = refl
good-all s (t ∷ ts) h =
    ⊎_elim
    (λ (e : within s t ≡ true). let d : first_bad s (t ∷ ts) ≡ suc (first_bad s ts) = rw e in rw e (good-all s ts (omega (arith, d, h))))
    (λ (e : within s t ≡ false). let d : first_bad s (t ∷ ts) ≡ 0 = rw e in absurd (omega (arith, d, h)))
    (tested (within s t))

-- what `first_bad` says
pub bad_there : (s : Settings) (ts : List Stretch) → first_bad s ts < length ts → within s (get_or ts (first_bad s ts) none) ≡ false
bad_there s [] h = absurd (omega (arith, h))
bad_there s (t ∷ ts) h =
    ⊎_elim
    (λ (e : within s t ≡ true).
    let d : first_bad s (t ∷ ts) ≡ suc (first_bad s ts) = rw e in
    ap (λ (i : ℕ). within s (get_or (t ∷ ts) i none)) d ∙ bad_there s ts (omega (arith, d, h)))
    (λ (e : within s t ≡ false). let d : first_bad s (t ∷ ts) ≡ 0 = rw e in ap (λ (i : ℕ). within s (get_or (t ∷ ts) i none)) d ∙ e)
    (tested (within s t))

pub good-before : (s : Settings) (ts : List Stretch) (i : ℕ) → i < first_bad s ts → within s (get_or ts i none) ≡ true
good-before s [] i h = absurd (omega (arith, h))
good-before s (t ∷ ts) zero h =
    ⊎_elim (λ (e : within s t ≡ true). e) (λ (e : within s t ≡ false). let d : first_bad s (t ∷ ts) ≡ 0 = rw e in absurd (omega (arith, d, h)))
    (tested (within s t))
good-before s (t ∷ ts) (suc i) h =
    ⊎_elim
    (λ (e : within s t ≡ true). let d : first_bad s (t ∷ ts) ≡ suc (first_bad s ts) = rw e in good-before s ts i (omega (arith, d, h)))
    (λ (e : within s t ≡ false). let d : first_bad s (t ∷ ts) ≡ 0 = rw e in absurd (omega (arith, d, h)))
    (tested (within s t))

-- ---- the search
searched : (s : Settings) (i : ℕ) (ts : List Stretch) → position_from (λ t. not (within s t)) i ts ≡ cond (all_in s ts) None (Some (i + first_bad s ts))
searched s i [] = refl
searched s i (t ∷ ts) =
    ⊎_elim
    (λ (e : within s t ≡ true). let j : i + suc (first_bad s ts) ≡ i + 1 + first_bad s ts = omega arith in rw (e, j) (searched s (i + 1) ts))
    (λ (e : within s t ≡ false). let j : i + 0 ≡ i = omega arith in rw (e, j))
    (tested (within s t))

pub place_found : (s : Settings) (ts : List Stretch) → position_from (λ t. not (within s t)) 0 ts ≡ bad_place s ts
place_found s ts = let j : 0 + first_bad s ts ≡ first_bad s ts = omega arith in searched s 0 ts ∙ (rw j)

-- the answer by the first bad place is the row's
pub all_by_place : (s : Settings) (ts : List Stretch) → leb (length ts) (first_bad s ts) ≡ all_in s ts
all_by_place s ts =
    ⊎_elim
    (λ (e : leb (length ts) (first_bad s ts) ≡ true). e ∙ sym (good-all s ts (leb-true (length ts) (first_bad s ts) e)))
    (λ (e : leb (length ts) (first_bad s ts) ≡ false). e ∙ sym (bad_all s ts (leb-false (length ts) (first_bad s ts) e)))
    (tested (leb (length ts) (first_bad s ts)))

pub judged_row : (known : Bool) (s : Settings) (ts : List Stretch) → judged_at known (bad_place s ts) ≡ row_when known s ts
judged_row known s ts = ⊎_elim (λ (e : all_in s ts ≡ true). rw e) (λ (e : all_in s ts ≡ false). rw e) (tested (all_in s ts))
