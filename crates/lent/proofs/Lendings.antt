-- The laws of the lent walker.
--     moved_at        a step changes nothing but the position: the old walker with the new position is the walker after the step
--     lends_step      so what a step by value answers, and the old walker with its position, are what `next` promises
--     handed_back     what a call on a lent walker answers, with the walker as it is left, is what a step by value promises
--     lends_hit, lends_none, lends_refused    after a hit the position is the hit plus one and nothing else differs; none and a refusal change nothing
--     next_tight      two outcomes that the promise of `next` allows coincide: the answer, and the walker as it is left
--     lent_walk       what k calls on one walker yield is what k steps do
--     lent_all        a full walk yields the passing cells, rising, each once
-- Assumes nothing.
use mathlib.Core.Path.{◌≡◌, refl, sym, ap, ◌∙◌}
use mathlib.Core.Bool.{true}
use mathlib.Core.List.{List, [], ◌∷◌, ◌++◌}
use Prim.Native.Nat.{ℕ, zero, suc, ◌+◌, ◌<◌, ◌≤◌}
use native.Mathlib.Omega.{arith}
use Rattle.lists.specs.Lists.{filter, range}
use Rattle.std.specs.Prelude.{Option, Some, None, Result, Ok, Err}
use Rattle.rule.specs.declared.refusals.Refusal.{Refusal}
use Rattle.rule.specs.Rule.{passes}
use Rattle.rule.specs.Samples.{range_count}
use Rattle.rule.specs.Refusals.{Paper, answered, refused, of_found}
use Rattle.rule.proofs.Readings.{found-one}
use Rattle.find.specs.declared.Walker.{Walker}
use Rattle.find.specs.declared.Stepped.{Stepped}
use Rattle.find.specs.Walking.{walker_at, is_walker, step_on, moved, after_step, Steps, yielded, walk}
use Rattle.find.proofs.Walks.{walk-all}
use Rattle.lent.specs.Lending.{Lends}

-- the walker at another position
abbrev pub standing : Walker → ℕ → Walker
standing w at = walker_at w.settings w.level at w.hi

pub moved_at : (w : Walker) → standing w (after_step w).at ≡ after_step w
unfolding after_step
moved_at w = by (step_on w)
  where
    by : (a : Paper) → standing w (moved a w).at ≡ moved a w
    by (answered []) = refl
    by (answered (x ∷ xs)) = refl
    by (refused number place) = refl

pub lends_step : (w : Walker) (m : Stepped) → Steps w m → Lends w m.found (standing w m.walker.at)
lends_step w m e = record { answer = e.answer; walker = ap (λ (v : Walker). standing w v.at) e.walker ∙ moved_at w }

pub handed_back : (w v : Walker) (r : Result (Option ℕ) Refusal) → Lends w r v → Steps w (record { found = r; walker = v })
handed_back w v r e = record { answer = e.answer; walker = e.walker }

-- the walker as it is left, by the answer
left_by : (w : Walker) (r : Result (Option ℕ) Refusal) (v : Walker) → Lends w r v → v ≡ moved (of_found r) w
unfolding after_step
left_by w r v e = e.walker ∙ ap (λ (a : Paper). moved a w) (sym e.answer)

pub lends_hit : (w v : Walker) (x : ℕ) → Lends w (Ok (Some x)) v → v ≡ standing w (x + 1)
lends_hit w v x e = left_by w (Ok (Some x)) v e

pub lends_none : (w v : Walker) → Lends w (Ok None) v → v ≡ w
lends_none w v e = left_by w (Ok None) v e

pub lends_refused : (w v : Walker) (refusal : Refusal) → Lends w (Err refusal) v → v ≡ w
lends_refused w v refusal e = left_by w (Err refusal) v e

pub next_tight : (w : Walker) (x y : Result (Option ℕ) Refusal) (v u : Walker) → Lends w x v → Lends w y u → (x ≡ y) × (v ≡ u)
next_tight w x y v u e f = (found-one x y (e.answer ∙ sym f.answer), e.walker ∙ sym f.walker)

-- the cells that the first k answers hold
unfoldable pub told : ℕ → (ℕ → Result (Option ℕ) Refusal) → List ℕ
told zero r = []
told (suc k) r = yielded (of_found (r 0)) ++ told k (λ (i : ℕ). r (suc i))

-- w i is the walker before the call i, and r i what the call answers
pub lent_walk : (k : ℕ) (w : ℕ → Walker) (r : ℕ → Result (Option ℕ) Refusal) → ((i : ℕ) → i < k → Lends (w i) (r i) (w (suc i))) → told k r ≡ walk k (w 0)
unfolding told walk
lent_walk zero w r calls = refl
lent_walk (suc k) w r calls =
    let first = calls 0 (omega arith) in
    let rest : told k (λ (i : ℕ). r (suc i)) ≡ walk k (after_step (w 0)) =
    lent_walk k (λ (i : ℕ). w (suc i)) (λ (i : ℕ). r (suc i)) (λ (i : ℕ) (h : i < k). calls (suc i) (omega (arith, h))) ∙ ap (walk k) first.walker in
    ap (λ (a : Paper). yielded a ++ told k (λ (i : ℕ). r (suc i))) first.answer ∙ ap (λ (l : List ℕ). yielded (step_on (w 0)) ++ l) rest

pub lent_all : (k : ℕ) (w : ℕ → Walker) (r : ℕ → Result (Option ℕ) Refusal) → ((i : ℕ) → i < k → Lends (w i) (r i) (w (suc i)))
    → is_walker (w 0) ≡ true → range_count (w 0).settings (w 0).level (w 0).at (w 0).hi ≤ k
    → told k r ≡ filter (passes (w 0).settings (w 0).level) (range (w 0).at (w 0).hi)
lent_all k w r calls g h = lent_walk k w r calls ∙ walk-all (w 0) k g h
