-- The laws of what the plain engine answers.
--     small_facts     the limit's test as a fact
--     cell_range      a cell is a range up to n
--     plain_refused, plain_answered, plain_held    what that refusal, or that there is none, says of a call
--     plain_granted   where nothing refuses it, all its tests held
--     plain_bad, plain_told     the same of a sketch
-- Assumes nothing.
use mathlib.Core.Path.{◌≡◌, refl, sym, ap, ◌∙◌}
use mathlib.Core.Bool.{Bool, true, false, and-true, cond}
use mathlib.Core.List.{[]}
use Prim.Native.Nat.{ℕ, ◌≤◌}
use native.Mathlib.Omega.{arith}
use lib.Dec.{leb}
use borrow.Author.Tests.{le-leb, leb-true}
use Rattle.std.specs.Prelude.{Result, Ok, Err}
use Rattle.rule.specs.declared.Settings.{Settings}
use Rattle.rule.specs.declared.refusals.Refusal.{Refusal}
use Rattle.rule.specs.Refusals.{Paper, answered, refused, unless, number_of, bad_settings, bad_range, not_one}
use Rattle.find.specs.Finding.{is_cell, in_range, on_settings}
use Rattle.find.proofs.Checks.{unless-told, all_told}
use Rattle.sketch.specs.declared.Sketch.{Sketch}
use Rattle.sketch.specs.Sketches.{is_sketch}
use Rattle.plain.specs.Plain.{limit, is_small, on_small, PlainRefuses, plain_add_when, plain_add_on}

pub small_facts : (s : Settings) → is_small s ≡ true → s.n ≤ limit
small_facts s e = leb-true s.n limit e

-- t is the range's test as a call made it, and d what that is promised to be
module _ {s : Settings} {level : ℕ} {t d : Bool} {r : Result (Unit {0}) Refusal} (e : t ≡ d) (h : PlainRefuses s level t r) where
  pub plain_refused : (x : Paper) {refusal : Refusal} → r ≡ Err refusal → refused (number_of refusal) 0 ≡ on_small s (on_settings s level d x)
  plain_refused x n = let y = h.so x in cc

  pub plain_answered : (x : Paper) {done : Unit {0}} → r ≡ Ok done → x ≡ on_small s (on_settings s level d x)
  plain_answered x n = let y = h.so x in cc

  pub plain_held : {done : Unit {0}} → r ≡ Ok done → (s.n ≤ limit) × (d ≡ true)
  plain_held n =
      let small = unless-told (is_small s) bad_settings (on_settings s level d (answered [])) [] (sym (plain_answered (answered []) n)) in
      (small_facts s small.0, (all_told s level d (answered []) [] small.1).2)

pub cell_range : (s : Settings) (x : ℕ) → in_range s x s.n ≡ is_cell s x
cell_range s x = let e : leb s.n s.n ≡ true = le-leb s.n s.n (omega arith) in rw (e, and-true)

-- what an answer to adding says
module _ (known : Bool) (s : Settings) (lo hi : ℕ) where
  pub plain_granted : answered [] ≡ plain_add_when known s lo hi → (known ≡ true) × (s.n ≤ limit)
  plain_granted e =
      let last = unless (in_range s lo hi) bad_range (answered []) in
      let one = unless-told known not_one (on_small s last) [] (sym e) in
      (one.0, small_facts s (unless-told (is_small s) bad_settings last [] one.1).0)

pub plain_bad : (k : Sketch) (lo hi : ℕ) → is_sketch k ≡ true → in_range k.settings lo hi ≡ false
    → plain_add_on k lo hi ≡ refused (cond (is_small k.settings) bad_range bad_settings) 0
unfolding plain_add_on
plain_bad k lo hi e f = rw (e, f) (either (is_small k.settings))
  where
    either : (t : Bool) → ◌≡◌ {A = Paper} (unless t bad_settings (refused bad_range 0)) (refused (cond t bad_range bad_settings) 0)
    either true = refl
    either false = refl

pub plain_told : {known : Bool} {p : Paper} (k : Sketch) (lo hi : ℕ) → known ≡ is_sketch k → p ≡ plain_add_when known k.settings lo hi → p ≡ plain_add_on k lo hi
unfolding plain_add_on
plain_told k lo hi e q = q ∙ ap (λ (t : Bool). plain_add_when t k.settings lo hi) e
