-- Each answer's reading in the rules' terms (RULES: Refusals) is one-to-one: two answers of one reading coincide.
--     equation_tight  two outcomes of a promise that is an equation coincide
--     number_one      no two causes have one number
--     told_one        two answers of one reading coincide where two values that tell the same do
--     answer-one, counted-one, found-one, written_one, taken-one, row_one
-- Assumes nothing.
use mathlib.Core.Path.{◌≡◌, refl, sym, ap, ◌∙◌}
use Rattle.std.specs.Prelude.{ℕ, cond, eqb, List, [], ◌∷◌, Option, None, Some, Result, Ok, Err}
use Rattle.rule.specs.Refusals.{bad_settings, bad_range, bad_level, not_one, unequal, no_room, bad_check, bad_image}
use Rattle.rule.specs.Refusals.{number_of, told_by, hits, of_answer, of_counted, of_found, of_written, of_taken, of_row}
use Rattle.rule.specs.declared.refusals.Refusal.{Refusal}
use Rattle.rule.specs.declared.refusals.Refusal.TheVariants.{Settings, Range, Level, NotOne, Unequal, NoRoom, Check, Image, Line}
use Rattle.rule.specs.declared.refusals.ReadError.{ReadError}
use Rattle.rule.specs.declared.refusals.ReadError.TheVariants as read
use Rattle.rule.specs.declared.refusals.RowError.{RowError}
use Rattle.rule.specs.declared.refusals.RowError.TheVariants as row

pub equation_tight : {A : Type 0} {promised : A} (x y : A) → x ≡ promised → y ≡ promised → x ≡ y
equation_tight x y e f = e ∙ sym f

-- the cause with a number
cause_at : ℕ → Refusal
cause_at n =
    cond (eqb n bad_settings) Settings (cond (eqb n bad_range) Range (cond (eqb n bad_level) Level (cond (eqb n not_one) NotOne
    (cond (eqb n unequal) Unequal (cond (eqb n no_room) NoRoom (cond (eqb n bad_check) Check (cond (eqb n bad_image) Image Line)))))))

cause_at_number : (r : Refusal) → cause_at (number_of r) ≡ r
unfolding cause_at
cause_at_number Settings = refl
cause_at_number Range = refl
cause_at_number Level = refl
cause_at_number NotOne = refl
cause_at_number Unequal = refl
cause_at_number NoRoom = refl
cause_at_number Check = refl
cause_at_number Image = refl
cause_at_number Line = refl

pub number_one : (r s : Refusal) → number_of r ≡ number_of s → r ≡ s
number_one r s e = sym (cause_at_number r) ∙ (ap cause_at e ∙ cause_at_number s)

pub told_one : {Value : Type 0} (tells : Value → List ℕ) → ((v w : Value) → tells v ≡ tells w → v ≡ w)
    → (x y : Result Value Refusal) → told_by tells x ≡ told_by tells y → x ≡ y
told_one tells one (Ok v) (Ok w) e = ap Ok (one v w cc)
told_one tells one (Ok v) (Err s) e = cc
told_one tells one (Err r) (Ok w) e = cc
told_one tells one (Err r) (Err s) e = ap Err (number_one r s cc)

one_number : (v w : ℕ) → ◌≡◌ {A = List ℕ} (v ∷ []) (w ∷ []) → v ≡ w
one_number v w e = cc

hits_one : (v w : Option ℕ) → hits v ≡ hits w → v ≡ w
hits_one (Some v) (Some w) e = cc
hits_one (Some v) None e = cc
hits_one None (Some w) e = cc
hits_one None None e = refl

pub answer-one : (x y : Result (Unit {0}) Refusal) → of_answer x ≡ of_answer y → x ≡ y
answer-one x y e = told_one _ (λ v w same. refl) x y e

pub counted-one : (x y : Result ℕ Refusal) → of_counted x ≡ of_counted y → x ≡ y
counted-one x y e = told_one _ one_number x y e

pub found-one : (x y : Result (Option ℕ) Refusal) → of_found x ≡ of_found y → x ≡ y
found-one x y e = told_one hits hits_one x y e

pub written_one : (x y : Result ℕ Refusal) → of_written x ≡ of_written y → x ≡ y
written_one x y e = told_one _ one_number x y e

pub taken-one : (x y : Result (Unit {0}) ReadError) → of_taken x ≡ of_taken y → x ≡ y
taken-one (Ok v) (Ok w) e = refl
taken-one (Ok v) (Err read.Settings) e = cc
taken-one (Ok v) (Err (read.Check c)) e = cc
taken-one (Ok v) (Err read.Image) e = cc
taken-one (Err read.Settings) (Ok w) e = cc
taken-one (Err read.Settings) (Err read.Settings) e = refl
taken-one (Err read.Settings) (Err (read.Check c)) e = cc
taken-one (Err read.Settings) (Err read.Image) e = cc
taken-one (Err (read.Check b)) (Ok w) e = cc
taken-one (Err (read.Check b)) (Err read.Settings) e = cc
taken-one (Err (read.Check b)) (Err (read.Check c)) e = cc
taken-one (Err (read.Check b)) (Err read.Image) e = cc
taken-one (Err read.Image) (Ok w) e = cc
taken-one (Err read.Image) (Err read.Settings) e = cc
taken-one (Err read.Image) (Err (read.Check c)) e = cc
taken-one (Err read.Image) (Err read.Image) e = refl

pub row_one : (x y : Result (Unit {0}) RowError) → of_row x ≡ of_row y → x ≡ y
row_one (Ok v) (Ok w) e = refl
row_one (Ok v) (Err row.NotOne) e = cc
row_one (Ok v) (Err (row.Range c)) e = cc
row_one (Err row.NotOne) (Ok w) e = cc
row_one (Err row.NotOne) (Err row.NotOne) e = refl
row_one (Err row.NotOne) (Err (row.Range c)) e = cc
row_one (Err (row.Range b)) (Ok w) e = cc
row_one (Err (row.Range b)) (Err row.NotOne) e = cc
row_one (Err (row.Range b)) (Err (row.Range c)) e = cc
