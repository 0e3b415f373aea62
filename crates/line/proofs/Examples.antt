-- Lines and what they ask for, and answers and their bytes, as two tables: the listing (RULES: Program), and what is refused.
--     lines_right, line_right     the table of lines, whole and row by row
--     texts_right, text-right     the table of answers
-- Assumes nothing.
use mathlib.Core.Path.{◌≡◌, refl, sym, ap, ◌∙◌}
use mathlib.Core.List.{List, [], ◌∷◌, ◌++◌, map}
use Rattle.std.specs.Prelude.{Option, Some, None}
use Prim.Native.Nat.{ℕ}
use lib.ListN.{get_or, replicate, get_or-map}
use Rattle.line.specs.declared.commands.Command.{Command}
use Rattle.line.specs.declared.commands.Command.TheVariants.{Settings, Add, Estimate, Count, Next}
use Rattle.line.specs.Lines.{command_of}
use Rattle.line.specs.Texts.{bytes, decimal, text_kept, text_exact, text_about, text_count, text_cell, text_none, text_refusal}

abbrev pub lines : List (List ℕ × Option Command)
lines =
    (bytes "S 10 101 37 5 3", Some (Settings (record { n = 10; p = 101; a = 37; b = 5; capacity = 3 }))) ∷
    (bytes "A 1 2", Some (Add 1 2)) ∷
    (bytes "A 2 4", Some (Add 2 4)) ∷
    (bytes "A 6 6", Some (Add 6 6)) ∷
    (bytes "A 9 10", Some (Add 9 10)) ∷
    (bytes "E", Some Estimate) ∷
    (bytes "C 1 1 10", Some (Count 1 1 10)) ∷
    (bytes "N 1 4", Some (Next 1 4)) ∷
    (bytes "N 2 4", Some (Next 2 4)) ∷
    (bytes "A 0 3", Some (Add 0 3)) ∷
    (bytes "A 4294967295 0", Some (Add 4294967295 0)) ∷
    (bytes "A 4294967295 4294967296", None) ∷
    (bytes "A 1 42949672950", None) ∷
    (bytes "", None) ∷
    (bytes " ", None) ∷
    (bytes "A", None) ∷
    (bytes "A 1", None) ∷
    (bytes "A 1 2 3", None) ∷
    (bytes "S 10 101 37 5", None) ∷
    (bytes "S 10 101 37 5 3 1", None) ∷
    (bytes "E 1", None) ∷
    (bytes "N 1 4 9", None) ∷
    (bytes "A  1 2", None) ∷
    (bytes "A 1  2", None) ∷
    (bytes "A 1 2 ", None) ∷
    (bytes " A 1 2", None) ∷
    (bytes "E ", None) ∷
    (bytes "A1 2", None) ∷
    (bytes "AA 1 2", None) ∷
    (bytes "A 01 2", None) ∷
    (bytes "A 00 2", None) ∷
    (bytes "A +1 2", None) ∷
    (bytes "A -1 2", None) ∷
    (bytes "A 1x 2", None) ∷
    (bytes "A 1\t2", None) ∷
    (bytes "A 1 2\r", None) ∷
    (bytes "A 1 2\0", None) ∷
    (bytes "A 1 2ÿ", None) ∷
    (bytes "a 1 2", None) ∷
    (bytes "Q", None) ∷
    (bytes "1 2", None) ∷
    -- 63 spaces after it, and 65 letters
    (bytes "E" ++ replicate 63 32, None) ∷
    (replicate 65 69, None) ∷ []

pub lines_right : map (λ r. command_of r.0) lines ≡ map (λ r. r.1) lines
unfolding command_of
lines_right = refl

pub line_right : (k : ℕ) → command_of (get_or lines k ([], None)).0 ≡ (get_or lines k ([], None)).1
unfolding command_of
line_right k =
    sym (get_or-map (λ (r : List ℕ × Option Command). command_of r.0) lines k ([], None))
    ∙ ap (λ (l : List (Option Command)). get_or l k None) lines_right
    ∙ get_or-map (λ (r : List ℕ × Option Command). r.1) lines k ([], None)

abbrev pub texts : List (List ℕ × List ℕ)
texts =
    (text_kept 0 0, bytes "K 0 0\n") ∷
    (text_kept 0 2, bytes "K 0 2\n") ∷
    (text_kept 1 2, bytes "K 1 2\n") ∷
    (text_kept 1 3, bytes "K 1 3\n") ∷
    (text_kept 2 1, bytes "K 2 1\n") ∷
    (text_about 4, bytes "E about 4\n") ∷
    (text_count 4, bytes "C 4\n") ∷
    (text_cell 6, bytes "N 6\n") ∷
    (text_none, bytes "N none\n") ∷
    (text_refusal 2, bytes "R 2\n") ∷
    (text_exact 7, bytes "E exact 7\n") ∷
    (text_refusal 10, bytes "R 10\n") ∷
    (text_count 200000000, bytes "C 200000000\n") ∷
    (text_about 18446744073709551615, bytes "E about 18446744073709551615\n") ∷ []

pub texts_right : map (λ r. r.0) texts ≡ map (λ r. r.1) texts
unfolding decimal
texts_right = refl

pub text-right : (k : ℕ) → (get_or texts k ([], [])).0 ≡ (get_or texts k ([], [])).1
text-right k =
    sym (get_or-map (λ (r : List ℕ × List ℕ). r.0) texts k ([], []))
    ∙ ap (λ (l : List (List ℕ)). get_or l k []) texts_right
    ∙ get_or-map (λ (r : List ℕ × List ℕ). r.1) texts k ([], [])
