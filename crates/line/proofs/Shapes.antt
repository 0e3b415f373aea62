-- The numbers of a line, gathered in a row, and the shape that they have with its letter.
--     Gathered        the numbers of the first words are in the row, and the other words give the others
--     prepend         numbers before those of the rest
--     gathered_none, gathered_more, gathered_all     nothing gathered yet; one number more; every word
--     gathered_full, gathered_bad     a sixth number; a word that is no number
--     parts_road      the loop over the words takes them in their order
--     row_none, row_apart, row_words     nothing after the letter; no space; the words after it
--     line_shape      the words of a line have the shape of its letter and what stands after it
--     command_row, command_none     the letter and the row say what the line asks for; no row
--     command_empty, command_long      an empty line, an overlong line
-- Assumes nothing.
use mathlib.Core.Path.{◌≡◌, refl, sym, ap, ◌∙◌}
use mathlib.Core.Bool.{Bool, true, false}
use denote.Param.Members.{Mut}
use denote.Ref.{Bor}
use Rattle.std.specs.Fn.{CalledAt}
use Rattle.std.specs.declared.slice.Split.{Split}
use Rattle.std.specs.Slice.Iter.{split_rest, split_done, split_callee, split_steps}
use Rattle.std.proofs.lemmas.Iterator.{YieldsList}
use Rattle.std.proofs.lemmas.Iterator.Splits.{YieldsList-from_slice_split}
use Rattle.std.proofs.lemmas.Iterator.Consumers.{YieldsList-at}
use mathlib.Core.Logic.{⊎_elim}
use mathlib.Core.List.{List, [], ◌∷◌, ◌++◌, append_assoc, append-nil}
use Rattle.std.specs.Prelude.{Option, Some, None}
use Prim.Native.Nat.{ℕ, suc, ◌+◌, ◌-◌, ◌≤◌, ◌<◌}
use native.Mathlib.Omega.{arith}
use native.Mathlib.Numerals.{add-one}
use lib.Dec.{leb, eqb}
use lib.ListN.{length, drop, get_or, set, replicate, length-append, length-replicate, drop_of_length-le}
use lib.Seq.{drop-cons}
use borrow.Author.Tests.{le-leb, lt-leb, eqb-true, eq-eqb, ne_eqb}
use Rattle.lists.specs.Rows.{pad}
use Rattle.lists.proofs.Tests.{tested}
use Rattle.lists.proofs.Places.{placed_one, placed-after}
use Rattle.lists.proofs.Steps.{length_more}
use Rattle.line.specs.declared.commands.Command.{Command}
use Rattle.line.specs.declared.commands.Numbers.{Numbers}
use Rattle.line.specs.Lines.{Word, into, words, number, numbers, both, shape, spoken, command_of}
use Rattle.line.specs.Reading.{numbers_after, row_of, asked}
use Rattle.line.proofs.Words.{parts, words_split, split}

-- numbers before those of the rest
abbrev pub prepend : List ℕ → Option (List ℕ) → Option (List ℕ)
prepend xs None = None
prepend xs (Some ys) = Some (xs ++ ys)

-- one more to a row of five
push : (xs : List ℕ) (x : ℕ) → length xs < 5 → set (pad 5 xs) (length xs) x ≡ pad 5 (xs ++ (x ∷ []))
push xs x h =
    let n : length (pad 5 xs) ≡ 5 = omega (arith, length-append xs (replicate (5 - length xs) 0), length-replicate {A = ℕ} (5 - length xs) 0) in
    placed_one (pad 5 xs) (length xs) x (omega arith) ∙ placed-after 5 xs (x ∷ [])

-- of some words xs are the first, so many as `count` says
pub record Gathered (ws : List Word) (values : List ℕ) (count : ℕ) : Type 0 where
  pub xs : List ℕ
  pub short : count ≤ 5
  pub counted : count ≡ length xs
  pub row : values ≡ pad 5 xs
  pub whole : numbers ws ≡ prepend xs (numbers (drop count ws))

pub gathered_none : (ws : List Word) → Gathered ws (pad 5 []) 0
gathered_none ws = record { xs = []; short = omega arith; counted = refl; row = refl; whole = nothing (numbers ws) }
  where
    nothing : (o : Option (List ℕ)) → o ≡ prepend [] o
    nothing None = refl
    nothing (Some ys) = refl

prepend_both : (xs : List ℕ) (x : ℕ) (o : Option (List ℕ)) → prepend xs (both (Some x) o) ≡ prepend (xs ++ (x ∷ [])) o
prepend_both xs x None = refl
prepend_both xs x (Some ys) = ap Some (sym (append_assoc xs (x ∷ []) ys))

too_many : (xs : List ℕ) → 5 ≤ length xs → (o : Option ℕ) (p : Option (List ℕ)) → row_of (prepend xs (both o p)) ≡ None
too_many xs h None p = refl
too_many xs h (Some x) None = refl
too_many xs h (Some x) (Some ys) =
    let e : leb (length (xs ++ (x ∷ ys))) 5 ≡ false = lt-leb (length (xs ++ (x ∷ ys))) 5 (omega (arith, length-append xs (x ∷ ys))) in
    rw e

module _ {ws : List Word} {values : List ℕ} {count : ℕ} (g : Gathered ws values count) where
  pub gathered_all : count ≡ length ws → Some (record { count = count; values = values }) ≡ row_of (numbers ws)
  gathered_all h =
      let e : numbers ws ≡ Some g.xs = g.whole ∙ (rw (drop_of_length-le ws {i = count} (omega arith), append-nil)) in
      rw (e, le-leb (length g.xs) 5 (omega (arith, g.short, g.counted)), g.counted, g.row)

  -- at the next word
  module _ {k : ℕ} {w : Word} (n : count ≡ k) (t : (k < length ws) × (w ≡ get_or ws k w)) where
    turned : numbers ws ≡ prepend g.xs (both (number w) (numbers (drop (suc count) ws)))
    turned =
        g.whole
        ∙ ap (λ l. prepend g.xs (numbers l)) (drop-cons ws count w (omega (arith, n, t.0)))
        ∙ ap (λ v. prepend g.xs (both (number v) (numbers (drop (suc count) ws)))) (ap (λ j. get_or ws j w) n ∙ sym t.1)

    pub gathered_full : count ≡ 5 → None ≡ row_of (numbers ws)
    gathered_full five = sym (ap row_of turned ∙ too_many g.xs (omega (arith, five, g.counted)) (number w) (numbers (drop (suc count) ws)))

    pub gathered_bad : None ≡ number w → None ≡ row_of (numbers ws)
    gathered_bad e = sym (ap row_of (turned ∙ ap (λ o. prepend g.xs (both o (numbers (drop (suc count) ws)))) (sym e)))

    pub gathered_more : (count ≡ 5 → ⊥) → (x : ℕ) → Some x ≡ number w → Gathered ws (set values count x) (count + 1)
    gathered_more few x e =
        let o : Option (List ℕ) = numbers (drop (suc count) ws) in
        record {
          xs = g.xs ++ (x ∷ []);
          short = omega (arith, few, g.short);
          counted = omega (arith, length_more g.xs x, g.counted);
          row = rw (g.counted, g.row) (push g.xs x (omega (arith, few, g.short, g.counted)));
          whole = rw add-one (turned ∙ ap (λ v. prepend g.xs (both v o)) (sym e) ∙ prepend_both g.xs x o);
        }

-- the parts between spaces, as the loop over them takes them
pub parts_road : {F : Type 0} (g : Mut F (Bor ℕ × Unit {0}) Bool) {f : F} {s t : Split ℕ F} {rest text : List ℕ} {x : ℕ} → s ≡ t → rest ≡ x ∷ text
    → split_rest t ≡ text → split_done t ≡ false → split_callee t ≡ f
    → ((y : ℕ) (b : Bool) (q : F) → CalledAt g f y b q → (q ≡ f) × (b ≡ eqb y 32)) → YieldsList (split_steps g) (λ y. y.now) s (parts (drop 1 rest))
parts_road g {rest = rest} e whole r done callee pure =
    YieldsList-at e (YieldsList-from_slice_split g (λ y. eqb y 32) (drop 1 rest) (r ∙ sym (ap (drop 1) whole)) done callee pure)

-- what stands after the letter
pub row_none : (rest : List ℕ) → length rest ≡ 0 → Some (record { count = 0; values = pad 5 [] }) ≡ row_of (numbers_after rest)
row_none [] h = refl
row_none (x ∷ xs) h = absurd (omega arith)

pub row_apart : (rest : List ℕ) {x : ℕ} {text : List ℕ} → rest ≡ x ∷ text → (x ≡ 32 → ⊥) → None ≡ row_of (numbers_after rest)
row_apart rest e ne = rw (e, ne_eqb _ _ ne)

pub row_words : (rest : List ℕ) {x : ℕ} {text : List ℕ} → rest ≡ x ∷ text → x ≡ 32 → numbers (parts (drop 1 rest)) ≡ numbers_after rest
row_words rest {x} {text} e space = rw (e, eq-eqb _ _ space) (ap numbers (words_split text))

-- the shape of a row is that of its numbers
abbrev asked_row : ℕ → Option Numbers → Option Command
asked_row letter None = None
asked_row letter (Some m) = asked letter m

row-shape : (letter : ℕ) (o : Option (List ℕ)) → asked_row letter (row_of o) ≡ shape letter o
unfolding asked
row-shape letter None = refl
row-shape letter (Some []) = refl
row-shape letter (Some (x ∷ [])) = refl
row-shape letter (Some (x ∷ y ∷ [])) = refl
row-shape letter (Some (x ∷ y ∷ z ∷ [])) = refl
row-shape letter (Some (x ∷ y ∷ z ∷ u ∷ [])) = refl
row-shape letter (Some (n ∷ p ∷ a ∷ b ∷ c ∷ [])) = refl
row-shape letter (Some (n ∷ p ∷ a ∷ b ∷ c ∷ x ∷ xs)) =
    let e : leb (length (n ∷ p ∷ a ∷ b ∷ c ∷ x ∷ xs)) 5 ≡ false = lt-leb (length (n ∷ p ∷ a ∷ b ∷ c ∷ x ∷ xs)) 5 (omega arith) in
    rw e

-- a space is no letter
space_shape : (o : Option (List ℕ)) → shape 32 o ≡ None
space_shape None = refl
space_shape (Some []) = refl
space_shape (Some (x ∷ [])) = refl
space_shape (Some (x ∷ y ∷ [])) = refl
space_shape (Some (x ∷ y ∷ z ∷ [])) = refl
space_shape (Some (x ∷ y ∷ z ∷ u ∷ [])) = refl
space_shape (Some (n ∷ p ∷ a ∷ b ∷ c ∷ [])) = refl
space_shape (Some (n ∷ p ∷ a ∷ b ∷ c ∷ x ∷ xs)) = refl

-- the letter, and what stands after it
pub line_shape : (x : ℕ) (xs : List ℕ) → spoken (words (x ∷ xs)) ≡ shape x (numbers_after xs)
line_shape x xs =
    ⊎_elim
    (λ (e : eqb x 32 ≡ true). rw e (sym (space_shape (numbers_after xs)) ∙ ap (λ (l : ℕ). shape l (numbers_after xs)) (sym (eqb-true x 32 e))))
    (λ (e : eqb x 32 ≡ false). rw e (letter xs))
    (tested (eqb x 32))
  where
    letter : (xs : List ℕ) → spoken (into x (words xs)) ≡ shape x (numbers_after xs)
    letter [] = refl
    letter (y ∷ ys) = ⊎_elim (λ (e : eqb y 32 ≡ true). rw e) (λ (e : eqb y 32 ≡ false). rw (e, split ys)) (tested (eqb y 32))

-- a line by its letter and the rest
module _ (line : List ℕ) {x : ℕ} {xs : List ℕ} (e : line ≡ x ∷ xs) (l : length line ≤ 64) where
  spoken_row : asked_row x (row_of (numbers_after xs)) ≡ command_of line
  unfolding command_of
  spoken_row = row-shape x (numbers_after xs) ∙ sym (line_shape x xs) ∙ ap (λ l. spoken (words l)) (sym e) ∙ (rw (le-leb _ _ l))

  pub command_row : {m : Numbers} → Some m ≡ row_of (numbers_after xs) → asked x m ≡ command_of line
  command_row r = ap (asked_row x) r ∙ spoken_row

  pub command_none : None ≡ row_of (numbers_after xs) → None ≡ command_of line
  command_none r = ap (asked_row x) r ∙ spoken_row

pub command_empty : (line : List ℕ) → length line ≡ 0 → None ≡ command_of line
unfolding command_of
command_empty [] h = refl
command_empty (x ∷ xs) h = absurd (omega arith)

pub command_long : (line : List ℕ) → 64 < length line → None ≡ command_of line
unfolding command_of
command_long line h = rw (lt-leb _ _ h)
