-- The bytes of an input, fed in any pieces, give the answers to its lines, one after the other.
--     reply_cut       a line's first 65 bytes decide its answer
--     Holds           an evening holds those bytes of the line so far
--     run-whole       the output of the run, with that of the rest, is the output of the whole input
-- Assumes nothing.
use mathlib.Core.Path.{◌≡◌, refl, sym, ap, ◌∙◌}
use mathlib.Core.Bool.{true, false}
use mathlib.Core.Logic.{⊎_elim}
use mathlib.Core.List.{List, [], ◌∷◌, ◌++◌, append_assoc, append-nil}
use Prim.Native.Nat.{ℕ, ◌+◌, ◌≤◌, ◌<◌, min}
use native.Mathlib.Omega.{arith}
use native.Mathlib.Numerals.{add-one}
use lib.Dec.{eqb, leb, ltb}
use lib.ListN.{length, take, set, length-set, length-replicate}
use lib.Seq.{length-take-le, take_all, take-append-le, take-suc-set}
use borrow.Author.Tests.{leb-true, leb-false, ltb-true, ltb-false, eqb-true, eqb-false, eq-eqb, ne_eqb}
use Rattle.lists.proofs.Tests.{tested}
use Rattle.lists.proofs.Steps.{length_more}
use Rattle.line.specs.Lines.{command_of}
use Rattle.line.proofs.Shapes.{command_long}
use Rattle.evening.specs.declared.Evening.{Evening}
use Rattle.evening.specs.Replies.{Pot, reply_to, reply_of}
use Rattle.evening.specs.Runs.{beginning, line_of, noted, line_ended, Run, step, fed, rest, lines_from, answers, output_of}

command_cut : (line : List ℕ) → command_of (take 65 line) ≡ command_of line
command_cut line =
    ⊎_elim
    (λ (e : leb (length line) 64 ≡ true). ap command_of (take_all 65 line (omega (arith, leb-true (length line) 64 e))))
    (λ (e : leb (length line) 64 ≡ false).
    let h : 65 ≤ length line = omega (arith, leb-false (length line) 64 e) in
    let l : length (take 65 line) ≡ 65 = length-take-le 65 line h in
    sym (command_long (take 65 line) (omega arith)) ∙ command_long line (omega arith))
    (tested (leb (length line) 64))

pub reply_cut : (pot : Pot) (line : List ℕ) → reply_of pot (take 65 line) ≡ reply_of pot line
unfolding reply_of
reply_cut pot line = ap (reply_to pot) (command_cut line)

pub record Holds (s : Evening) (line : List ℕ) : Type 0 where
  pub short : s.length ≡ min 65 (length line)
  pub bytes : line_of s ≡ take 65 line
  pub places : length s.line ≡ 65

holds-ended : (s : Evening) (line : List ℕ) → Holds s line → Holds (line_ended s).evening []
holds-ended s line h = record { short = omega arith; bytes = refl; places = h.places }

holds-noted : (s : Evening) (line : List ℕ) (x : ℕ) → Holds s line → Holds (noted s x) (line ++ (x ∷ []))
holds-noted s line x h =
    let more : length (line ++ (x ∷ [])) ≡ length line + 1 = length_more line x in
    ⊎_elim
    (λ (e : ltb s.length 65 ≡ true).
    let l : s.length < 65 = ltb-true s.length 65 e in
    let n : s.length ≡ length line = omega (arith, h.short) in
    let a : take (s.length + 1) (set s.line s.length x) ≡ take s.length s.line ++ (x ∷ []) =
    rw add-one (take-suc-set s.line s.length x (omega (arith, h.places))) in
    let b : take 65 line ≡ line = take_all 65 line (omega arith) in
    let c : take 65 (line ++ (x ∷ [])) ≡ line ++ (x ∷ []) = take_all 65 (line ++ (x ∷ [])) (omega arith) in
    rw e record {
      short = omega arith;
      bytes = a ∙ ap (λ (v : List ℕ). v ++ (x ∷ [])) (h.bytes ∙ b) ∙ sym c;
      places = length-set s.line s.length x ∙ h.places;
    })
    (λ (e : ltb s.length 65 ≡ false).
    let l : 65 ≤ s.length = ltb-false s.length 65 e in
    rw e record { short = omega (arith, h.short); bytes = h.bytes ∙ sym (take-append-le 65 line (x ∷ []) (omega (arith, h.short))); places = h.places })
    (tested (ltb s.length 65))

-- the output of the run over an input, with that of its rest
written : Evening → List ℕ → List ℕ
written s input = (fed s input).output ++ rest (fed s input).evening

written_step : (s : Evening) (x : ℕ) (input : List ℕ) (run : Run) → step s x ≡ run → written s (x ∷ input) ≡ run.output ++ written run.evening input
unfolding written fed
written_step s x input run e = rw e (append_assoc run.output (fed run.evening input).output (rest (fed run.evening input).evening))

written_end : (s : Evening) (line : List ℕ) → Holds s line → written s [] ≡ answers s.pot (lines_from line [])
unfolding written fed rest
written_end s line h =
    ⊎_elim
    (λ (e : eqb (length line) 0 ≡ true). rw (e, eq-eqb s.length 0 (omega (arith, eqb-true (length line) 0 e, h.short))))
    (λ (e : eqb (length line) 0 ≡ false).
    let n : eqb s.length 0 ≡ false = ne_eqb s.length 0 (λ z. eqb-false (length line) 0 e (omega (arith, h.short))) in
    rw (e, n, h.bytes, reply_cut s.pot line) (sym (append-nil (reply_of s.pot line).text)))
    (tested (eqb (length line) 0))

step-ended : (s : Evening) (x : ℕ) → eqb x 10 ≡ true → step s x ≡ line_ended s
unfolding step
step-ended s x e = rw e

step_on_lem : (s : Evening) (x : ℕ) → eqb x 10 ≡ false → step s x ≡ record { evening = noted s x; output = [] }
unfolding step
step_on_lem s x e = rw e

noted-pot : (s : Evening) (x : ℕ) → (noted s x).pot ≡ s.pot
noted-pot s x = ⊎_elim (λ (e : ltb s.length 65 ≡ true). rw e) (λ (e : ltb s.length 65 ≡ false). rw e) (tested (ltb s.length 65))

all_lines : (s : Evening) (line input : List ℕ) → Holds s line → written s input ≡ answers s.pot (lines_from line input)
all_lines s line [] h = written_end s line h
all_lines s line (x ∷ input) h =
    let one = all_lines (line_ended s).evening [] input (holds-ended s line h) in
    let other = all_lines (noted s x) (line ++ (x ∷ [])) input (holds-noted s line x h) in
    let cut : reply_of s.pot (line_of s) ≡ reply_of s.pot line = ap (reply_of s.pot) h.bytes ∙ reply_cut s.pot line in
    ⊎_elim
    (λ (e : eqb x 10 ≡ true).
    written_step s x input (line_ended s) (step-ended s x e) ∙ ap (λ (v : List ℕ). (reply_of s.pot (line_of s)).text ++ v) one ∙ (rw (e, cut)))
    (λ (e : eqb x 10 ≡ false).
    written_step s x input (record { evening = noted s x; output = [] }) (step_on_lem s x e)
    ∙ other
    ∙ ap (λ (p : Pot). answers p (lines_from (line ++ (x ∷ [])) input)) (noted-pot s x)
    ∙ (rw e))
    (tested (eqb x 10))

beginning-holds : Holds beginning []
beginning-holds = record { short = omega arith; bytes = refl; places = length-replicate {A = ℕ} 65 0 }

pub run-whole : (input : List ℕ) → (fed beginning input).output ++ rest (fed beginning input).evening ≡ output_of input
unfolding output_of written
run-whole input = all_lines beginning [] input beginning-holds
