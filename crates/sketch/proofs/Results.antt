-- What the calls hand back is a sketch again, and two outcomes that one promise allows coincide.
--     open_again, add_again, merge_again    the results are sketches
--     merge_itself    merging a sketch with itself is answered, and gives that sketch
--     hands_tight     opening, adding and merging: the answer and the sketch
--     estimate_tight  the estimate
-- Assumes nothing.
use mathlib.Core.Path.{◌≡◌, sym, ap, ◌∙◌, subst}
use mathlib.Core.Bool.{true}
use mathlib.Core.List.{[]}
use Prim.Native.Nat.{ℕ, ◌≤◌, max}
use native.Mathlib.Omega.{arith}
use Rattle.lists.specs.Lists.{listed}
use Rattle.rule.specs.declared.Settings.{Settings}
use Rattle.rule.specs.declared.refusals.Refusal.{Refusal}
use Rattle.std.specs.Prelude.{Result}
use Rattle.rule.specs.Cells.{no_cells, ◌∪◌, interval}
use Rattle.rule.specs.Rule.{is_good, top}
use Rattle.rule.specs.Refusals.{Paper, answered}
use Rattle.rule.proofs.Facts.{good_facts}
use Rattle.rule.proofs.Readings.{answer-one}
use Rattle.sketch.specs.declared.Sketch.{Sketch}
use Rattle.sketch.specs.declared.Changed.{Changed}
use Rattle.sketch.specs.declared.estimates.Estimate.{Estimate}
use Rattle.sketch.specs.Sketches.{is_sketch, cells_of, opened, add, merge}
use Rattle.sketch.specs.Calls.{merge_on, same_settings, Hands}
use Rattle.sketch.specs.Estimates.{Estimates}
use Rattle.sketch.proofs.Worth.{estimate_one}
use Rattle.sketch.proofs.Facts.{sketch_facts, facts_sketch, same_facts, facts_same}
use Rattle.sketch.proofs.Making.{open_law, sound, merge_self}
use Rattle.sketch.proofs.Handing.{merge-both}

pub open_again : (s : Settings) → is_good s ≡ true → is_sketch (opened s) ≡ true
open_again s e = ap is_sketch (open_law s) ∙ facts_sketch _ (sound s (good_facts s e) no_cells 0 (omega arith))

pub add_again : (k : Sketch) (lo hi : ℕ) → is_sketch k ≡ true → is_sketch (add k lo hi) ≡ true
unfolding add
add_again k lo hi e =
    let w = sketch_facts k e in
    facts_sketch _ (sound k.settings w.settings (listed (cells_of k) ∪ interval lo hi) k.level w.level)

pub merge_again : (j k : Sketch) → is_sketch j ≡ true → is_sketch k ≡ true → same_settings j.settings k.settings ≡ true → is_sketch (merge j k) ≡ true
unfolding merge
merge_again j k e f q =
    let w = sketch_facts j e in
    let v = sketch_facts k f in
    let low : k.level ≤ top j.settings = subst (λ (s : Settings). k.level ≤ top s) (sym (same_facts j.settings k.settings q)) v.level in
    facts_sketch _ (sound j.settings w.settings (listed (cells_of j) ∪ listed (cells_of k)) (max j.level k.level) (omega (arith, w.level)))

pub merge_itself : (k : Sketch) → is_sketch k ≡ true → (merge_on k k ≡ answered []) × (merge k k ≡ k)
merge_itself k e = (merge-both k k e e (facts_same k.settings), merge_self k (sketch_facts k e))

pub hands_tight : (paper : Paper) (next old : Sketch) (x y : Changed Refusal) → Hands paper next old x → Hands paper next old y → x ≡ y
hands_tight paper next old x y e f =
    ap (λ (a : Result (Unit {0}) Refusal). record { answer = a; sketch = x.sketch }) (answer-one x.answer y.answer (e.answer ∙ sym f.answer))
    ∙ ap (λ (k : Sketch). record { answer = y.answer; sketch = k }) (e.sketch ∙ sym f.sketch)

pub estimate_tight : (k : Sketch) (x y : Estimate) → Estimates k x → Estimates k y → x ≡ y
estimate_tight k x y e f = estimate_one x y (e.answer ∙ sym f.answer)
