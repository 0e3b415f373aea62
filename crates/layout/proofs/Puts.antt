-- Stores one after the other, and the content of the block that they leave.
--     word-placed, number_over     a word, and a number of four bytes, stored in a row
--     put_next        a store right after what was stored
--     put_cell        one cell more
--     content         the first places of zeros, after a store at their start
--     fields_filled    the fields of block 0, after their stores
--     head_filled, body_filled     the content of block 0 and of a cell block, after all stores
-- Assumes nothing.
use Prim.Native.Nat.{ℕ, ◌+◌, ◌*◌, ◌-◌, ◌/◌, ◌%◌, ◌<◌, ◌≤◌}
use mathlib.Core.Path.{◌≡◌, sym, ap, ◌∙◌}
use mathlib.Core.List.{List, [], ◌∷◌, ◌++◌, append_assoc, append-nil}
use native.Mathlib.Omega.{arith}
use lib.ListN.{length, take, drop, get_or, replicate, length-append, length-replicate, replicate-append-replicate}
use lib.Seq.{length-take-le, take_at, drop-drop, take-append-add}
use borrow.Rule.Slice.PartMut.{put_mid}
use Rattle.lists.specs.Rows.{pad, placed}
use Rattle.lists.proofs.Places.{placed_twice, placed-pad}
use Rattle.lists.proofs.Steps.{take_next}
use Rattle.rule.specs.declared.Settings.{Settings}
use Rattle.block.specs.Little.{bytes_of}
use Rattle.block.proofs.Numbers.{bytes-length}
use Rattle.layout.specs.Images.{settings_bytes, fields_of, fields_end, head_with, cell_bytes, body_of}
use Rattle.layout.proofs.Fields.{four_bytes, cell_bytes-length, cell_bytes_more}
use Rattle.layout.proofs.Bodies.{fields_length}

pub word-placed : (s : List ℕ) (at x : ℕ) → take at s ++ bytes_of 2 x ++ drop (at + 2) s ≡ placed s at (bytes_of 2 x)
word-placed s at x = rw (append_assoc, bytes-length)

pub put_next : (row : List ℕ) {t u : List ℕ} (k at : ℕ) (xs ys : List ℕ) → k ≤ length row → at ≡ k + length xs
    → t ≡ placed row k xs → u ≡ placed t at ys → u ≡ placed row k (xs ++ ys)
put_next row k at xs ys h e f g = rw (g, f, e) (placed_twice row k xs ys h)

-- a number written over four bytes
pub number_over : (i x : ℕ) (s w : List ℕ) → w ≡ x % 256 ∷ x / 256 % 256 ∷ x / 65536 % 256 ∷ x / 16777216 % 256 ∷ []
    → put_mid i (i + 4 - i) s w ≡ placed s i (bytes_of 4 x)
number_over i x s w h =
    let e : i + 4 - i ≡ 4 = omega arith in
    rw (h, e, four_bytes, drop-drop)

pub put_cell : (row : List ℕ) {t u : List ℕ} (cells : List ℕ) (j : ℕ) → j < length cells → 4 ≤ length row
    → t ≡ placed row 4 (cell_bytes (take j cells)) → u ≡ placed t (4 + 4 * j) (bytes_of 4 (get_or cells j 0)) → u ≡ placed row 4 (cell_bytes (take (j + 1) cells))
unfolding cell_bytes
put_cell row cells j h l f g =
    let one_more : cell_bytes (take j cells) ++ bytes_of 4 (get_or cells j 0) ≡ cell_bytes (take (j + 1) cells) =
    rw (take_next cells j h, cell_bytes_more, append-nil) in
    let at : 4 + 4 * j ≡ 4 + length (cell_bytes (take j cells)) = omega (arith, cell_bytes-length (take j cells), length-take-le j cells (omega arith)) in
    put_next row 4 (4 + 4 * j) (cell_bytes (take j cells)) (bytes_of 4 (get_or cells j 0)) l at f g
    ∙ ap (placed row 4) one_more

front_zeros : (n m : ℕ) → n ≤ m → take {A = ℕ} n (replicate m 0) ≡ replicate n 0
front_zeros n m h =
    let e : m ≡ n + (m - n) = omega arith in
    ap (λ k. take n (replicate k 0)) e ∙ ap (take n) (sym (replicate-append-replicate n (m - n) 0)) ∙ take_at (replicate n 0) _ n (length-replicate n 0)

pub content : (n m : ℕ) (xs : List ℕ) → length xs ≤ n → n ≤ m → take n (placed (replicate m 0) 0 xs) ≡ pad n xs
content n m xs h l =
    let e : n ≡ length xs + (n - length xs) = omega arith in
    ap (take n) (placed-pad m xs)
    ∙ ap (λ k. take k (pad m xs)) e
    ∙ take-append-add xs _ (n - length xs)
    ∙ ap (λ t. xs ++ t) (front_zeros (n - length xs) (m - length xs) (omega arith))

settings-length : (s : Settings) → length (settings_bytes s) ≡ 18
unfolding settings_bytes
settings-length s = simp (length-append, bytes-length)

-- n zeros, and what is stored in them
module _ (n : ℕ) (wide : 508 ≤ n) {z : List ℕ} (cleared : z ≡ replicate n 0) where
  said : (xs : List ℕ) {t : List ℕ} → length xs ≤ 508 → t ≡ placed z 0 xs → take 508 t ≡ pad 508 xs
  said xs h e = ap (take 508) e ∙ ap (λ r. take 508 (placed r 0 xs)) cleared ∙ content 508 n xs h wide

  pub head_filled : (m : ℕ) (tail : List ℕ) (s : Settings) (level count : ℕ) {t : List ℕ} → fields_end + length tail ≤ 508
      → t ≡ placed z 0 (fields_of m s level count ++ tail) → take 508 t ≡ head_with m tail s level count
  unfolding head_with
  head_filled m tail s level count h e =
      let X : List ℕ = fields_of m s level count ++ tail in
      let l : length X ≤ 508 = omega (arith, length-append (fields_of m s level count) tail, fields_length m s level count) in
      said X l e

  module _ {s1 s2 s3 : List ℕ} where
    pub fields_filled : (m : ℕ) (s : Settings) (level count : ℕ) {s4 : List ℕ} → s1 ≡ placed z 0 (bytes_of 4 m) → s2 ≡ placed s1 4 (settings_bytes s)
        → s3 ≡ take 22 s2 ++ bytes_of 2 level ++ drop 24 s2 → s4 ≡ take 24 s3 ++ bytes_of 2 count ++ drop 26 s3 → s4 ≡ placed z 0 (fields_of m s level count)
    unfolding fields_of
    fields_filled m s level count {s4} e1 e2 e3 e4 =
        let M = bytes_of 4 m in
        let S = settings_bytes s in
        let L = bytes_of 2 level in
        let C = bytes_of 2 count in
        let l0 : length M ≡ 4 = bytes-length 4 m in
        let l1 : length (M ++ S) ≡ 22 = simp (length-append, settings-length, bytes-length) in
        let l2 : length (M ++ S ++ L) ≡ 24 = simp (length-append, settings-length, bytes-length) in
        let f2 = put_next z 0 4 M S (omega arith) (omega arith) e1 e2 in
        let f3 = put_next z 0 22 (M ++ S) L (omega arith) (omega arith) f2 (e3 ∙ word-placed s2 22 level) in
        put_next z 0 24 (M ++ S ++ L) C (omega arith) (omega arith) f3 (e4 ∙ word-placed s3 24 count)
        ∙ ap (placed z 0) (append_assoc (M ++ S) L C ∙ append_assoc M S (L ++ C))

    pub body_filled : (number : ℕ) (cells : List ℕ) → length cells ≤ 126 → s1 ≡ bytes_of 2 number ++ drop 2 z
        → s2 ≡ take 2 s1 ++ bytes_of 2 (length cells) ++ drop 4 s1 → s3 ≡ placed s2 4 (cell_bytes cells) → take 508 s3 ≡ body_of number cells
    unfolding body_of
    body_filled number cells h e1 e2 e3 =
        let N = bytes_of 2 number in
        let M = bytes_of 2 (length cells) in
        let X : List ℕ = N ++ M ++ cell_bytes cells in
        let l1 : length N ≡ 2 = bytes-length 2 number in
        let l2 : length (N ++ M) ≡ 4 = simp (length-append, bytes-length) in
        let l3 : length X ≡ 4 + 4 * length cells = simp (length-append, bytes-length, cell_bytes-length) in
        let f1 = e1 ∙ word-placed z 0 number in
        let f2 = put_next z 0 2 N M (omega arith) (omega arith) f1 (e2 ∙ word-placed s1 2 (length cells)) in
        let f3 : s3 ≡ placed z 0 X = put_next z 0 4 (N ++ M) (cell_bytes cells) (omega arith) (omega arith) f2 e3 in
        said X (omega arith) f3 ∙ ap (pad 508) (append_assoc N M (cell_bytes cells))
