-- The laws of the tests that come before an answer.
--     denied, granted     what a call's promise says where its answer was tested
--     and_parts           two tests that hold together
--     at_told, unless-told, all_told     an answer says that the tests held
--     refused-so, answered-so, all_held    what its refusal, or that there is none, says of a call
--     range_facts     a range's test as facts
--     within-range, within_cell     what passes the tests is what the inner calls take
-- Assumes nothing.
use mathlib.Core.Path.{◌≡◌, refl, sym, ◌∙◌}
use mathlib.Core.Bool.{Bool, true, false, ◌&&◌, false≢true}
use mathlib.Core.List.{List, []}
use Prim.Native.Nat.{ℕ, ◌≤◌}
use native.Mathlib.Omega.{arith}
use lib.Dec.{leb}
use borrow.Author.Tests.{leb-true}
use Rattle.std.specs.Prelude.{Result, Ok, Err}
use Rattle.rule.specs.declared.refusals.Refusal.{Refusal}
use Rattle.rule.specs.declared.Settings.{Settings}
use Rattle.rule.specs.Rule.{is_good, top}
use Rattle.rule.specs.Refusals.{Paper, answered, refused, unless, unless_at, number_of, bad_settings, bad_level, bad_range}
use Rattle.rule.proofs.Facts.{good_facts}
use Rattle.find.specs.Finding.{is_cell, in_range, on_settings, Refuses, Within}

-- t is the call's answer, and d what it is promised to be
pub denied : (t d : Bool) → t ≡ d → t ≡ false → d ≡ false
denied t d e n = sym e ∙ n

pub granted : (t d : Bool) → t ≡ d → t ≡ true → d ≡ true
granted t d e n = sym e ∙ n

pub and_parts : (t u : Bool) → (t && u) ≡ true → (t ≡ true) × (u ≡ true)
and_parts true u e = (refl, e)
and_parts false u e = absurd (false≢true e)

pub at_told : (t : Bool) (number place : ℕ) (x : Paper) (values : List ℕ) → unless_at t number place x ≡ answered values → (t ≡ true) × (x ≡ answered values)
at_told true number place x values e = (refl, e)
at_told false number place x values e = let z : ◌≡◌ {A = ℕ} 0 1 = cc in absurd (omega arith)

pub unless-told : (t : Bool) (number : ℕ) (x : Paper) (values : List ℕ) → unless t number x ≡ answered values → (t ≡ true) × (x ≡ answered values)
unless-told t number x values e = at_told t number 0 x values e

pub all_told : (s : Settings) (level : ℕ) (t : Bool) (x : Paper) (values : List ℕ) → on_settings s level t x ≡ answered values
    → (is_good s ≡ true) × (leb level (top s) ≡ true) × (t ≡ true) × (x ≡ answered values)
all_told s level t x values e =
    let g = unless-told (is_good s) bad_settings (unless (leb level (top s)) bad_level (unless t bad_range x)) values e in
    let l = unless-told (leb level (top s)) bad_level (unless t bad_range x) values g.1 in
    let r = unless-told t bad_range x values l.1 in
    (g.0, l.0, r.0, r.1)

-- t is the range's test as a call made it, and d what that is promised to be
module _ {s : Settings} {level : ℕ} {t d : Bool} {r : Result (Unit {0}) Refusal} (e : t ≡ d) (h : Refuses s level t r) where
  pub refused-so : (x : Paper) {refusal : Refusal} → r ≡ Err refusal → refused (number_of refusal) 0 ≡ on_settings s level d x
  refused-so x n = let y = h.so x in cc

  pub answered-so : (x : Paper) {done : Unit {0}} → r ≡ Ok done → x ≡ on_settings s level d x
  answered-so x n = let y = h.so x in cc

  pub all_held : {done : Unit {0}} → r ≡ Ok done → (is_good s ≡ true) × (d ≡ true)
  all_held n = let t = all_told s level d (answered []) [] (sym (answered-so (answered []) n)) in (t.0, t.2)

pub range_facts : (s : Settings) (lo hi : ℕ) → in_range s lo hi ≡ true → (1 ≤ lo) × (lo ≤ hi) × (hi ≤ s.n)
range_facts s lo hi e =
    let low = and_parts (leb 1 lo) (leb lo hi && leb hi s.n) e in
    let rest = and_parts (leb lo hi) (leb hi s.n) low.1 in
    (leb-true 1 lo low.0, leb-true lo hi rest.0, leb-true hi s.n rest.1)

pub within-range : (s : Settings) (lo hi : ℕ) → is_good s ≡ true → in_range s lo hi ≡ true → Within s lo hi
within-range s lo hi g e =
    let f = range_facts s lo hi e in
    record { good = good_facts s g; low = f.0; start = omega (arith, f.1); last = f.2 }

pub within_cell : (s : Settings) (x : ℕ) → is_good s ≡ true → is_cell s x ≡ true → Within s x s.n
within_cell s x g e =
    let cell = and_parts (leb 1 x) (leb x s.n) e in
    record {
      good = good_facts s g;
      low = leb-true 1 x cell.0;
      start = omega (arith, leb-true x s.n cell.1);
      last = omega arith;
    }
