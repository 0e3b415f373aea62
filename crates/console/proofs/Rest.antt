-- The run over what is left of a piece.
--     feeds_rest      what a turn of `feed` left ends as all that it was given
--     fed_none        where nothing is left
-- Assumes nothing.
use mathlib.Core.Path.{◌≡◌, refl, sym, ap, ◌∙◌}
use Prim.Native.Nat.{ℕ, ◌-◌}
use mathlib.Core.List.{List, [], ◌∷◌}
use native.Mathlib.Omega.{arith}
use lib.ListN.{length, take, drop}
use Rattle.std.proofs.lemmas.List.{take-append-drop}
use Rattle.lists.proofs.Steps.{part_rest}
use Rattle.evening.specs.declared.Evening.{Evening}
use Rattle.evening.specs.declared.Fed.{Fed}
use Rattle.evening.specs.Runs.{Run, fed, Feeds}
use Rattle.evening.proofs.Feeding.{fed-append}

pub feeds_rest : {s : Evening} {input row out : List ℕ} {r : Fed} → Feeds s input row out r
    → (fed r.evening (take (length input - r.taken) (drop r.taken input))).evening ≡ (fed s input).evening
feeds_rest {s} {input} {row} {out} {r} f =
    let left = drop r.taken input in
    ap (λ (l : List ℕ). (fed r.evening l).evening) (part_rest input r.taken)
    ∙ ap (λ (v : Evening). (fed v left).evening) f.evening
    ∙ sym (ap (λ (v : Run). v.evening) (fed-append s (take r.taken input) left))
    ∙ ap (λ (l : List ℕ). (fed s l).evening) (take-append-drop r.taken input)

pub fed_none : (s : Evening) (input : List ℕ) → length input ≡ 0 → (fed s input).evening ≡ s
unfolding fed
fed_none s [] e = refl
fed_none s (x ∷ xs) e = absurd (omega (arith, e))
