-- The laws of the walker.
--     IsOne, walker_facts, facts_walker    what makes a walker, as facts and as the test `is_walker`
--     walker-within   what a walker has still to pass is a range
--     starts_refused, starts_done    what `open` answers
--     steps_refused, steps_cell, steps_nothing    what `step` answers
--     step-some, step-none    a step where there is a next hit, and where there is none
--     start-good      what opening hands back unrefused is a walker
--     none_stays, none_ever     none changes nothing in a walker, so it is none for ever
--     step-good       a step keeps a walker a walker
--     step_left       a step yields the first of the cells ahead, and leaves the others
--     walk-all        a full walk yields the passing cells, rising, each once
-- Assumes nothing.
use mathlib.Core.Path.{◌≡◌, refl, sym, ap, ◌∙◌}
use mathlib.Core.Bool.{true, false}
use mathlib.Core.List.{List, [], ◌∷◌, ◌++◌}
use Rattle.std.specs.Prelude.{Option, Some, None, Ok, Err}
use Prim.Native.Nat.{ℕ, zero, suc, ◌+◌, ◌-◌, ◌≤◌}
use native.Mathlib.Omega.{arith}
use native.Mathlib.Numerals.{add-one}
use lib.ListN.{length}
use borrow.Author.Tests.{leb-true, le-leb}
use Rattle.lists.specs.Lists.{filter, range}
use Rattle.rule.specs.declared.Settings.{Settings}
use Rattle.rule.specs.Rule.{Good, passes, top}
use Rattle.rule.specs.Samples.{range_count, next_hit}
use Rattle.rule.specs.Refusals.{Paper, answered, refused, not_one, number_of, of_answer, hits}
use Rattle.rule.specs.declared.refusals.Refusal.{Refusal}
use Rattle.rule.specs.declared.refusals.Refusal.TheVariants as refusal
use Rattle.rule.proofs.Facts.{good_facts, facts_good}
use Rattle.rule.proofs.NextHits.{next_some, walk-some, walk_none}
use Rattle.find.specs.declared.Walker.{Walker}
use Rattle.find.specs.Finding.{in_range, Within}
use Rattle.find.specs.Walking.{walker_at, no_walker, start_on, started, Starts, is_walker, step_on, moved, after_step, Steps, yielded, walk}
use Rattle.find.specs.declared.Started.{Started}
use Rattle.find.proofs.Checks.{and_parts, all_told, range_facts}

-- what makes a walker
pub record IsOne (w : Walker) : Type 0 where
  pub good : Good w.settings
  pub level : w.level ≤ top w.settings
  pub some_cell : 1 ≤ w.hi
  pub last : w.hi ≤ w.settings.n
  pub low : 1 ≤ w.at
  pub start : w.at ≤ w.hi + 1

pub walker_facts : (w : Walker) → is_walker w ≡ true → IsOne w
unfolding is_walker
walker_facts w e =
    let a = and_parts _ _ e in
    let b = and_parts _ _ a.1 in
    let c = and_parts _ _ b.1 in
    let cell = and_parts _ _ c.0 in
    let d = and_parts _ _ c.1 in
    record {
      good = good_facts w.settings a.0;
      level = leb-true _ _ b.0;
      some_cell = leb-true _ _ cell.0;
      last = leb-true _ _ cell.1;
      low = leb-true _ _ d.0;
      start = leb-true _ _ d.1;
    }

pub facts_walker : (w : Walker) → IsOne w → is_walker w ≡ true
unfolding is_walker
facts_walker w f =
    simp (
      facts_good w.settings f.good,
      le-leb _ _ f.level,
      le-leb _ _ f.some_cell,
      le-leb _ _ f.last,
      le-leb _ _ f.low,
      le-leb _ _ f.start,
    )

pub walker-within : (w : Walker) → is_walker w ≡ true → Within w.settings w.at w.hi
walker-within w e =
    let f = walker_facts w e in
    record { good = f.good; low = f.low; start = omega (arith, f.start); last = f.last }

-- opening, refused and not
pub starts_refused : (s : Settings) (level lo hi : ℕ) (refusal : Refusal) (r : Started) → (r.answer ≡ Err refusal) × (r.walker ≡ no_walker)
    → refused (number_of refusal) 0 ≡ start_on s level lo hi → Starts s level lo hi r
starts_refused s level lo hi refusal r h e =
    record { answer = ap of_answer h.0 ∙ e; walker = h.1 ∙ ap (λ (a : Paper). started a (walker_at s level lo hi)) e }

pub starts_done : (s : Settings) (level lo hi : ℕ) → answered [] ≡ start_on s level lo hi
    → Starts s level lo hi (record { answer = Ok tt; walker = walker_at s level lo hi })
starts_done s level lo hi e = record { answer = e; walker = ap (λ (a : Paper). started a (walker_at s level lo hi)) e }

pub start-good : (s : Settings) (level lo hi : ℕ) → start_on s level lo hi ≡ answered [] → is_walker (walker_at s level lo hi) ≡ true
unfolding start_on
start-good s level lo hi e =
    let t = all_told s level (in_range s lo hi) (answered []) [] e in
    let f = range_facts s lo hi t.2 in
    facts_walker (walker_at s level lo hi)
    (record {
      good = good_facts s t.0;
      level = leb-true _ _ t.1;
      some_cell = omega (arith, f.0, f.1);
      last = f.2;
      low = f.0;
      start = omega (arith, f.1);
    })

-- the next hit of a walker
abbrev pub ahead : Walker → Option ℕ
ahead w = next_hit w.settings w.level w.at w.hi

step_is : (w : Walker) (o : Option ℕ) → is_walker w ≡ true → ahead w ≡ o → step_on w ≡ answered (hits o)
unfolding step_on
step_is w o g e = cc

pub step-some : (w : Walker) (x : ℕ) → is_walker w ≡ true → ahead w ≡ Some x
    → (step_on w ≡ answered (x ∷ [])) × (after_step w ≡ walker_at w.settings w.level (x + 1) w.hi)
unfolding after_step
step-some w x g e =
    let is : step_on w ≡ answered (x ∷ []) = step_is w (Some x) g e in
    (is, ap (λ (a : Paper). moved a w) is)

pub none_stays : (w : Walker) → step_on w ≡ answered [] → after_step w ≡ w
unfolding after_step
none_stays w e = ap (λ (a : Paper). moved a w) e

pub none_ever : (w : Walker) (k : ℕ) → step_on w ≡ answered [] → walk k w ≡ []
unfolding walk
none_ever w zero e = refl
none_ever w (suc k) e = ap (λ (a : Paper). yielded a ++ walk k (after_step w)) e ∙ ap (walk k) (none_stays w e) ∙ none_ever w k e

pub step-none : (w : Walker) → is_walker w ≡ true → ahead w ≡ None → (step_on w ≡ answered []) × (after_step w ≡ w)
step-none w g e = let is : step_on w ≡ answered [] = step_is w None g e in (is, none_stays w is)

-- a step by what `first_in` found
pub steps_refused : (w : Walker) → is_walker w ≡ false → Steps w (record { found = Err refusal.NotOne; walker = w })
unfolding step_on after_step
steps_refused w g =
    let e : refused not_one 0 ≡ step_on w = cc in
    record { answer = e; walker = ap (λ (a : Paper). moved a w) e }

pub steps_cell : (w : Walker) (x : ℕ) → is_walker w ≡ true → ahead w ≡ Some x
    → Steps w (record { found = Ok (Some x); walker = walker_at w.settings w.level (x + 1) w.hi })
steps_cell w x g e = let s = step-some w x g e in record { answer = sym s.0; walker = sym s.1 }

pub steps_nothing : (w : Walker) → is_walker w ≡ true → ahead w ≡ None → Steps w (record { found = Ok None; walker = w })
steps_nothing w g e = let s = step-none w g e in record { answer = sym s.0; walker = sym s.1 }

pub step-good : (w : Walker) → is_walker w ≡ true → is_walker (after_step w) ≡ true
step-good w g = by (ahead w) refl
  where
    by : (o : Option ℕ) → ahead w ≡ o → is_walker (after_step w) ≡ true
    by None e = ap is_walker (step-none w g e).1 ∙ g
    by (Some x) e =
        let f = walker_facts w g in
        let h = next_some w.settings w.level w.at w.hi x e in
        ap is_walker (step-some w x g e).1
        ∙ facts_walker (walker_at w.settings w.level (x + 1) w.hi)
        (record { good = f.good; level = f.level; some_cell = f.some_cell; last = f.last; low = omega arith; start = omega (arith, h.1) })

-- the passing cells that a walker has still ahead of it
abbrev pub left : Walker → List ℕ
left w = filter (passes w.settings w.level) (range w.at w.hi)

-- a step yields the first of them, and leaves the others
pub step_left : (w : Walker) → is_walker w ≡ true
    → (left w ≡ yielded (step_on w) ++ left (after_step w)) × (length (left (after_step w)) ≤ length (left w) - 1)
step_left w g = by (ahead w) refl
  where
    by : (o : Option ℕ) → ahead w ≡ o → (left w ≡ yielded (step_on w) ++ left (after_step w)) × (length (left (after_step w)) ≤ length (left w) - 1)
    by None e =
        let s = step-none w g e in
        let nil : left w ≡ [] = walk_none w.settings w.level w.at w.hi e in
        let rest : left (after_step w) ≡ [] = ap left s.1 ∙ nil in
        (nil ∙ sym (ap (λ (a : Paper). yielded a ++ left (after_step w)) s.0 ∙ rest), omega (arith, ap length rest))
    by (Some x) e =
        let s = step-some w x g e in
        let rest : left (after_step w) ≡ filter (passes w.settings w.level) (range (suc x) w.hi) =
        ap left s.1 ∙ ap (λ (y : ℕ). filter (passes w.settings w.level) (range y w.hi)) (add-one x) in
        let all : left w ≡ x ∷ left (after_step w) = walk-some w.settings w.level w.at w.hi x e ∙ ap (λ (l : List ℕ). x ∷ l) (sym rest) in
        (all ∙ sym (ap (λ (a : Paper). yielded a ++ left (after_step w)) s.0), omega (arith, ap length all))

pub walk-all : (w : Walker) (k : ℕ) → is_walker w ≡ true → range_count w.settings w.level w.at w.hi ≤ k
    → walk k w ≡ filter (passes w.settings w.level) (range w.at w.hi)
unfolding walk range_count
walk-all w zero g h = empty (left w) (omega arith)
  where
    empty : (l : List ℕ) → length l ≤ 0 → [] ≡ l
    empty [] n = refl
    empty (x ∷ xs) n = absurd (omega arith)
walk-all w (suc k) g h =
    let s = step_left w g in
    ap (λ (l : List ℕ). yielded (step_on w) ++ l) (walk-all (after_step w) k (step-good w g) (omega (arith, s.1))) ∙ sym s.0
