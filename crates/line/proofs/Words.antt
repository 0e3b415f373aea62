-- The words of a line, and a word read as a number, byte by byte.
--     split, words-first     the first word of a line, and what stands after it
--     digits_append, onward-append, onward_grows    more digits
--     leading         a leading zero shows in the value of the digits so far
--     parts, words_split     the words are the parts that the library's split gives
--     Begun           the bytes of a word up to a place are digits, with their value
--     begun_none, begun_more, begun_all     no byte yet; one digit more; the whole word
--     begun_other, begun_large     a byte that is no digit; too large a value
--     empty_word, zero_first       an empty word; a 0 before another digit
-- Assumes nothing.
use mathlib.Core.Path.{◌≡◌, refl, sym, ap, ◌∙◌}
use mathlib.Core.Bool.{true, false, not, ◌&&◌, and-eq-true_iff, and-false}
use mathlib.Core.Logic.{⊎_elim}
use mathlib.Core.List.{List, [], ◌∷◌, ◌++◌}
use Rattle.std.specs.Prelude.{Some, None}
use Rattle.std.specs.List.{slice_split, onto_first}
use Prim.Native.Nat.{ℕ, ◌+◌, ◌*◌, ◌-◌, ◌≤◌, ◌<◌}
use native.Mathlib.Omega.{arith}
use lib.Dec.{leb, ltb, eqb}
use lib.ListN.{length, take, drop, get_or, take-append-drop}
use lib.Seq.{take_all}
use borrow.Author.Tests.{le-leb, lt-leb, leb-true, lt-ltb, eqb-true, eqb-false, eq-eqb, ne_eqb, not-true}
use Rattle.lists.proofs.Tests.{tested, same_test}
use Rattle.lists.proofs.Steps.{next, take_next}
use Rattle.line.specs.Lines.{Word, into, words, digit, digits, no_leading_zero, onward, value, is_number, number, both, numbers}
use Rattle.line.specs.Reading.{first_word, after_word, numbers_after}

-- the words after the first: none, or those after a space
unfoldable pub words_after : List ℕ → List Word
words_after [] = []
words_after (x ∷ xs) = words xs

pub split : (xs : List ℕ) → words xs ≡ first_word xs ∷ words_after (after_word xs)
unfolding words_after
split [] = refl
split (x ∷ xs) =
    let h : words xs ≡ first_word xs ∷ words_after (after_word xs) = split xs in
    ⊎_elim (λ (e : eqb x 32 ≡ true). cc) (λ (e : eqb x 32 ≡ false). rw (e, h) refl) (tested (eqb x 32))

after : (xs : List ℕ) → numbers (words_after (after_word xs)) ≡ numbers_after (after_word xs)
unfolding words_after
after [] = refl
after (x ∷ xs) = ⊎_elim (λ (e : eqb x 32 ≡ true). rw (e, e) refl) (λ (e : eqb x 32 ≡ false). rw (e, after xs) refl) (tested (eqb x 32))

pub words-first : (xs : List ℕ) → numbers (words xs) ≡ both (number (first_word xs)) (numbers_after (after_word xs))
words-first xs = rw (split xs, after xs)

-- the parts between spaces, as the library's split gives them
abbrev pub parts : List ℕ → List Word
parts = slice_split (λ x. eqb x 32)

pub words_split : (xs : List ℕ) → parts xs ≡ words xs
words_split [] = refl
words_split (x ∷ xs) =
    ⊎_elim
    (λ (e : eqb x 32 ≡ true). rw (e, words_split xs))
    (λ (e : eqb x 32 ≡ false). rw (e, words_split xs) (onto (words xs)))
    (tested (eqb x 32))
  where
    onto : (ws : List Word) → onto_first x ws ≡ into x ws
    onto [] = refl
    onto (w ∷ ws) = refl

pub digits_append : (v w : Word) → digits (v ++ w) ≡ (digits v && digits w)
digits_append [] w = refl
digits_append (x ∷ v) w = ⊎_elim (λ (e : digit x ≡ true). rw (e, digits_append v w)) (λ (e : digit x ≡ false). rw e) (tested (digit x))

pub onward-append : (v : ℕ) (a b : Word) → onward v (a ++ b) ≡ onward (onward v a) b
onward-append v [] b = refl
onward-append v (x ∷ a) b = onward-append (v * 10 + (x - 48)) a b

pub onward_grows : (v : ℕ) (w : Word) → v ≤ onward v w
onward_grows v [] = omega arith
onward_grows v (x ∷ w) = omega (arith, onward_grows (v * 10 + (x - 48)) w)

zero-digit : (d : ℕ) → digit d ≡ true → eqb d 48 ≡ eqb (0 * 10 + (d - 48)) 0
zero-digit d e =
    let h : 48 ≤ d = leb-true 48 d ((and-eq-true_iff (leb 48 d) (leb d 57)).0 e).0 in
    same_test (eqb d 48) (eqb (0 * 10 + (d - 48)) 0)
    (λ t. let q : 0 * 10 + (d - 48) ≡ 0 = omega (arith, eqb-true d 48 t) in eq-eqb _ _ q)
    (λ t. let q : d ≡ 48 = omega (arith, eqb-true (0 * 10 + (d - 48)) 0 t) in eq-eqb _ _ q)

pub leading : (d : ℕ) (ds : Word) (x : ℕ) (w : Word) → digits (d ∷ ds) ≡ true → no_leading_zero (d ∷ ds) ≡ true
    → no_leading_zero (d ∷ ds ++ (x ∷ w)) ≡ not (eqb (value (d ∷ ds)) 0)
leading d [] x w a b = ap not (zero-digit d ((and-eq-true_iff (digit d) true).0 a).0)
leading d (e ∷ ds) x w a b =
    let t : digit d ≡ true = ((and-eq-true_iff (digit d) (digits (e ∷ ds))).0 a).0 in
    let z : eqb (0 * 10 + (d - 48)) 0 ≡ false = sym (zero-digit d t) ∙ not-true (eqb d 48) b in
    let g : 0 * 10 + (d - 48) ≤ value (d ∷ e ∷ ds) = onward_grows (0 * 10 + (d - 48)) (e ∷ ds) in
    b ∙ ap not (sym (ne_eqb (value (d ∷ e ∷ ds)) 0 (λ q. eqb-false (0 * 10 + (d - 48)) 0 z (omega arith))))

-- the first k bytes of a word are digits, and v is their value
pub record Begun (w : Word) (k v : ℕ) : Type 0 where
  pub all : digits (take k w) ≡ true
  pub worth : value (take k w) ≡ v
  pub low : v ≤ 4294967295

pub begun_none : (w : Word) → Begun w 0 0
begun_none w = record { all = refl; worth = refl; low = omega arith }

-- a word by its byte at place k
cut : (w : Word) (k : ℕ) → k < length w → w ≡ take k w ++ (get_or w k 0 ∷ drop (k + 1) w)
cut w k h = sym (take-append-drop k w) ∙ ap (λ (l : Word). take k w ++ l) (next w k h)

refused : (w : Word) → is_number w ≡ false → None ≡ number w
refused w e = rw e

module _ {w : Word} {k v : ℕ} (b : Begun w k v) where
  pub begun_all : length w ≤ k → 0 < length w → no_leading_zero w ≡ true → Some v ≡ number w
  begun_all h l z =
      let t : take k w ≡ w = take_all k w h in
      let d : digits w ≡ true = ap digits (sym t) ∙ b.all in
      let e : value w ≡ v = ap value (sym t) ∙ b.worth in
      let s : leb v 4294967295 ≡ true = le-leb v 4294967295 b.low in
      rw (lt-ltb 0 (length w) l, d, z, e, s)

  module _ (h : k < length w) where
    onward_next : (r : Word) → onward 0 (take k w ++ (get_or w k 0 ∷ r)) ≡ onward (v * 10 + (get_or w k 0 - 48)) r
    onward_next r = rw (onward-append 0 (take k w) (get_or w k 0 ∷ r), b.worth)

    pub begun_more : digit (get_or w k 0) ≡ true → v * 10 + (get_or w k 0 - 48) ≤ 4294967295 → Begun w (k + 1) (v * 10 + (get_or w k 0 - 48))
    begun_more d l =
        let t : take (k + 1) w ≡ take k w ++ (get_or w k 0 ∷ []) = take_next w k h in
        record { all = rw (t, digits_append (take k w) (get_or w k 0 ∷ []), b.all, d); worth = ap value t ∙ onward_next []; low = l }

    pub begun_other : digit (get_or w k 0) ≡ false → None ≡ number w
    begun_other d =
        let e : digits w ≡ false =
        ap digits (cut w k h) ∙ digits_append (take k w) (get_or w k 0 ∷ drop (k + 1) w) ∙ (rw (d, and-false (digits (take k w)))) in
        refused w (rw (e, and-false (ltb 0 (length w))))

    pub begun_large : 4294967295 < v * 10 + (get_or w k 0 - 48) → None ≡ number w
    begun_large l =
        let g : v * 10 + (get_or w k 0 - 48) ≤ value w =
        rw (← cut w k h) at (rw (← onward_next (drop (k + 1) w)) at (onward_grows (v * 10 + (get_or w k 0 - 48)) (drop (k + 1) w))) in
        let e : leb (value w) 4294967295 ≡ false = lt-leb (value w) 4294967295 (omega arith) in
        refused w (rw (e, and-false (no_leading_zero w), and-false (digits w), and-false (ltb 0 (length w))))

pub empty_word : (w : Word) → length w ≡ 0 → None ≡ number w
empty_word [] h = refl
empty_word (x ∷ w) h = absurd (omega arith)

pub zero_first : (w : Word) → get_or w 0 0 ≡ 48 → 1 < length w → None ≡ number w
zero_first [] e h = absurd (omega arith)
zero_first (x ∷ []) e h = absurd (omega arith)
zero_first (x ∷ y ∷ w) e h =
    let z : no_leading_zero (x ∷ y ∷ w) ≡ false = rw e in
    refused (x ∷ y ∷ w) (rw (z, and-false (digits (x ∷ y ∷ w)), and-false (ltb 0 (length (x ∷ y ∷ w)))))

-- a lone digit, or a first one that is not 0
pub no_zero : (w : Word) → (get_or w 0 0 ≡ 48 → length w ≤ 1) → no_leading_zero w ≡ true
no_zero [] f = refl
no_zero (x ∷ []) f = refl
no_zero (x ∷ y ∷ w) f = ap not (ne_eqb x 48 (λ e. omega (arith, f e)))
