-- The texts of the answers, and lines made of numbers.
--     kept_line, exact_line, about_line, count_line, cell_line, none_line, refusal_line    each text is one line of at most 40 bytes
--     line_bytes      each byte of such a text is below 128
--     spaced_back     numbers written with a space before each are read back
--     command_said    so is a letter with up to five numbers: each shape has its lines
-- Assumes nothing.
use mathlib.Core.Path.{◌≡◌, refl, sym, ap, ◌∙◌}
use mathlib.Core.Bool.{true, false, ◌&&◌, and-eq-true_iff}
use mathlib.Core.List.{List, [], ◌∷◌, ◌++◌, append_assoc}
use Rattle.std.specs.Prelude.{Some}
use Prim.Native.Nat.{ℕ, zero, suc, ◌*◌, ◌^◌, ◌≤◌, ◌<◌}
use native.Mathlib.Omega.{arith}
use lib.Dec.{leb, eqb}
use lib.ListN.{length, get_or, length-append}
use borrow.Author.Tests.{le-leb, leb-true, ne_eqb}
use Rattle.line.specs.Lines.{Word, digit, digits, shape, command_of}
use Rattle.line.specs.Reading.{first_word, after_word, numbers_after}
use Rattle.line.specs.Texts.{decimal_in, decimal, bytes, text_line, text_kept, text_exact, text_about, text_count, text_cell, text_none, text_refusal}
use Rattle.line.specs.Texts.{visible, OneLine, spaced, Small}
use Rattle.line.proofs.Words.{words-first}
use Rattle.line.proofs.Decimals.{decimal-digits, decimal-length, decimal_ten, number-text}
use Rattle.line.proofs.Shapes.{line_shape}

visible-append : (v w : List ℕ) → visible v ≡ true → visible w ≡ true → visible (v ++ w) ≡ true
visible-append [] w a b = b
visible-append (x ∷ v) w a b =
    let h = (and-eq-true_iff (leb 32 x && leb x 126) (visible v)).0 a in
    rw h.0 (visible-append v w h.1 b)

-- a digit is seen, and is no space
digit-range : (x : ℕ) → digit x ≡ true → (48 ≤ x) × (x ≤ 57)
digit-range x e = let h = (and-eq-true_iff (leb 48 x) (leb x 57)).0 e in (leb-true 48 x h.0, leb-true x 57 h.1)

digits-seen : (w : Word) → digits w ≡ true → visible w ≡ true
digits-seen [] e = refl
digits-seen (x ∷ w) e =
    let h = (and-eq-true_iff (digit x) (digits w)).0 e in
    let r = digit-range x h.0 in
    rw (le-leb 32 x (omega (arith, r.0)), le-leb x 126 (omega (arith, r.1))) (digits-seen w h.1)

decimal-seen : (x : ℕ) → visible (decimal x) ≡ true
unfolding decimal
decimal-seen x = digits-seen (decimal_in 20 x) (decimal-digits 20 x)

text_line_lem : (head : List ℕ) (v : ℕ) → visible head ≡ true → length head ≤ 19 → OneLine (text_line head v)
text_line_lem head v s h =
    record {
      body = head ++ decimal v;
      ended = sym (append_assoc head (decimal v) (10 ∷ []));
      seen = visible-append head (decimal v) s (decimal-seen v);
      short = omega (arith, length-append head (decimal v ++ (10 ∷ [])), length-append (decimal v) (10 ∷ []), decimal-length v);
    }

pub kept_line : (level cells : ℕ) → level < 2 ^ 32 → OneLine (text_kept level cells)
kept_line level cells h =
    let l : OneLine (text_line (bytes "K " ++ (decimal level ++ bytes " ")) cells) =
    text_line_lem (bytes "K " ++ (decimal level ++ bytes " ")) cells (visible-append (decimal level) (bytes " ") (decimal-seen level) refl)
    (omega (arith, length-append (decimal level) (bytes " "), decimal_ten level h)) in
    rw (append_assoc (decimal level) (bytes " ") (decimal cells ++ bytes "\n")) at l

pub exact_line : (v : ℕ) → OneLine (text_exact v)
exact_line v = text_line_lem (bytes "E exact ") v refl (omega arith)

pub about_line : (v : ℕ) → OneLine (text_about v)
about_line v = text_line_lem (bytes "E about ") v refl (omega arith)

pub count_line : (v : ℕ) → OneLine (text_count v)
count_line v = text_line_lem (bytes "C ") v refl (omega arith)

pub cell_line : (cell : ℕ) → OneLine (text_cell cell)
cell_line cell = text_line_lem (bytes "N ") cell refl (omega arith)

pub none_line : OneLine text_none
none_line = record { body = bytes "N none"; ended = refl; seen = refl; short = omega arith }

pub refusal_line : (v : ℕ) → OneLine (text_refusal v)
refusal_line v = text_line_lem (bytes "R ") v refl (omega arith)

pub line_bytes : (text : List ℕ) → OneLine text → (k : ℕ) → get_or text k 0 < 128
line_bytes text l k = rw l.ended (low l.body l.seen k)
  where
    low : (body : List ℕ) → visible body ≡ true → (k : ℕ) → get_or (body ++ (10 ∷ [])) k 0 < 128
    low [] e zero = omega arith
    low [] e (suc k) = omega arith
    low (x ∷ body) e zero =
        let h = (and-eq-true_iff (leb 32 x && leb x 126) (visible body)).0 e in
        omega (arith, leb-true x 126 ((and-eq-true_iff (leb 32 x) (leb x 126)).0 h.0).1)
    low (x ∷ body) e (suc k) = low body ((and-eq-true_iff (leb 32 x && leb x 126) (visible body)).0 e).1 k

-- a word of digits ends where spaced numbers begin
word_ends : (w : Word) (xs : List ℕ) → digits w ≡ true → (first_word (w ++ spaced xs) ≡ w) × (after_word (w ++ spaced xs) ≡ spaced xs)
word_ends [] [] e = (refl, refl)
word_ends [] (x ∷ xs) e = (refl, refl)
word_ends (d ∷ w) xs e =
    let h = (and-eq-true_iff (digit d) (digits w)).0 e in
    let n : eqb d 32 ≡ false = ne_eqb d 32 (λ q. omega (arith, (digit-range d h.0).0)) in
    let r = word_ends w xs h.1 in
    (rw (n, r.0), rw (n, r.1))

pub spaced_back : (xs : List ℕ) → Small xs → numbers_after (spaced xs) ≡ Some xs
unfolding decimal
spaced_back [] s = refl
spaced_back (x ∷ xs) s =
    let r = word_ends (decimal x) xs (decimal-digits 20 x) in
    words-first (decimal x ++ spaced xs) ∙ (rw (r.0, r.1, number-text x s.0, spaced_back xs s.1))

spaced-short : (xs : List ℕ) → Small xs → length (spaced xs) ≤ 11 * length xs
spaced-short [] s = omega arith
spaced-short (x ∷ xs) s = omega (arith, length-append (decimal x) (spaced xs), decimal_ten x (omega (arith, s.0)), spaced-short xs s.1)

pub command_said : (letter : ℕ) (xs : List ℕ) → Small xs → length xs ≤ 5 → command_of (letter ∷ spaced xs) ≡ shape letter (Some xs)
unfolding command_of
command_said letter xs s h =
    let l : length (letter ∷ spaced xs) ≤ 64 = omega (arith, spaced-short xs s) in
    rw (le-leb _ _ l) (line_shape letter (spaced xs) ∙ ap (shape letter) (spaced_back xs s))
