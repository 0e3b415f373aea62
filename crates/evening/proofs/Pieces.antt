-- Feeding an input piece by piece.
--     feeds_room      what is written is within the room
--     feeds_some, feeds_within     with room for an answer at least one byte is taken, and never more than there are
--     feeds_sits      what is open stays a sketch
--     piece_length    the piece from a place on
--     feeds_more      the evening after one piece more
-- Assumes nothing.
use mathlib.Core.Path.{◌≡◌, sym, ap, ◌∙◌, subst}
use mathlib.Core.Bool.{true, false}
use mathlib.Core.Logic.{⊎_elim}
use mathlib.Core.List.{List, [], ◌∷◌}
use Prim.Native.Nat.{ℕ, ◌+◌, ◌-◌, ◌≤◌, ◌<◌}
use native.Mathlib.Omega.{arith}
use lib.Dec.{leb}
use lib.ListN.{length, take, drop, length-drop}
use lib.Seq.{take-add}
use Rattle.lists.proofs.Tests.{tested}
use Rattle.lists.proofs.Steps.{part_rest}
use Rattle.lists.proofs.Stores.{stored-room}
use Rattle.evening.specs.declared.Evening.{Evening}
use Rattle.evening.specs.declared.Fed.{Fed}
use Rattle.evening.specs.Runs.{Sitting, Run, step, fed, takes, Feeds}
use Rattle.evening.proofs.Staying.{fed_sits}
use Rattle.evening.proofs.Feeding.{fed-append, takes-some}

takes-within : (room : ℕ) (s : Evening) (xs : List ℕ) → takes room s xs ≤ length xs
unfolding takes
takes-within room s [] = omega arith
takes-within room s (x ∷ xs) =
    let left = room - length (step s x).output in
    let more : takes left (step s x).evening xs ≤ length xs = takes-within left (step s x).evening xs in
    ⊎_elim (λ (e : leb 40 room ≡ true). rw e (omega arith)) (λ (e : leb 40 room ≡ false). rw e (omega arith)) (tested (leb 40 room))

module _ {s : Evening} {input row out : List ℕ} {r : Fed} (f : Feeds s input row out r) where
  pub feeds_room : length out ≡ length row → r.written ≤ length out
  feeds_room l = omega (arith, stored-room f.stored (omega arith) l)

  pub feeds_sits : Sitting s → Sitting r.evening
  feeds_sits w = subst Sitting (sym f.evening) (fed_sits s (take r.taken input) w)

  pub feeds_some : 40 ≤ length row → 0 < length input → 0 < r.taken
  feeds_some h l = omega (arith, f.taken, takes-some (length row) s input h l)

  pub feeds_within : r.taken ≤ length input
  feeds_within = omega (arith, f.taken, takes-within (length row) s input)

-- the piece from a place on
pub piece_length : (input : List ℕ) (at : ℕ) → length (take (length input - at) (drop at input)) ≡ length input - at
piece_length input at = ap length (part_rest input at) ∙ length-drop at input

pub feeds_more : (s₀ : Evening) (input : List ℕ) (at : ℕ) {s : Evening} {row out : List ℕ} {r : Fed} → s ≡ (fed s₀ (take at input)).evening
    → Feeds s (take (length input - at) (drop at input)) row out r → r.evening ≡ (fed s₀ (take (at + r.taken) input)).evening
feeds_more s₀ input at {s} {row} {out} {r} e f =
    let piece = take r.taken (drop at input) in
    f.evening
    ∙ ap (λ (l : List ℕ). (fed s (take r.taken l)).evening) (part_rest input at)
    ∙ ap (λ (v : Evening). (fed v piece).evening) e
    ∙ sym (ap (λ (v : Run). v.evening) (ap (fed s₀) (take-add at r.taken input) ∙ fed-append s₀ (take at input) piece))
