-- Numbers in bytes: what is written is read, and what is read is written.
--     there, field    the number at a place, and the bytes after it
--     four_bytes, number_four     a number of four bytes, byte by byte
--     cell_bytes-length, cell_bytes-small, cell_bytes_more      cells of four bytes each
--     numbers-length, numbers_more      numbers read one after the other
--     numbers-bytes, bytes-numbers      the one undoes the other
-- Assumes nothing.
use Prim.Native.Nat.{ℕ, zero, suc, ◌+◌, ◌*◌, ◌/◌, ◌%◌, ◌<◌, ◌≤◌}
use Prim.{tt}
use mathlib.Core.Path.{◌≡◌, refl, sym, ap, ap₂, ◌∙◌}
use mathlib.Core.List.{List, [], ◌∷◌, ◌++◌, append_assoc}
use native.Mathlib.Nat.{add-zero}
use native.Mathlib.Omega.{arith}
use lib.Dec.{lit<}
use lib.ListN.{length, take, drop, get_or, length-append, length-drop}
use lib.Seq.{take_at, drop_at, take-add, drop-drop, length-take-le, get_or-drop}
use Rattle.block.specs.Little.{Bytes, bytes_of, number_of, number_at}
use Rattle.block.proofs.Numbers.{bytes-length, bytes_small, number-bytes, bytes-number, append-small, take-small, drop-small}
use Rattle.layout.specs.Images.{cell_bytes, numbers_in}

-- the bytes at a place are those of the number there
pub there : (k i : ℕ) (s : List ℕ) → i + k ≤ length s → Bytes s → take k (drop i s) ≡ bytes_of k (number_at k i s)
there k i s h b =
    let l : length (take k (drop i s)) ≡ k = length-take-le k (drop i s) (rw length-drop (omega arith)) in
    sym (rw l at (bytes-number (take k (drop i s)) (take-small k (drop i s) (drop-small i s b))))

-- so are the first of more bytes
pub field : (k r i : ℕ) (s : List ℕ) → i + k ≤ length s → Bytes s → take (k + r) (drop i s) ≡ bytes_of k (number_at k i s) ++ take r (drop (i + k) s)
field k r i s h b = take-add k r (drop i s) ∙ ap₂ ◌++◌ (there k i s h b) (ap (take r) (drop-drop k i s))

-- a number's four bytes
pub four_bytes : (x : ℕ) → bytes_of 4 x ≡ x % 256 ∷ x / 256 % 256 ∷ x / 65536 % 256 ∷ x / 16777216 % 256 ∷ []
unfolding bytes_of
four_bytes x =
    let two : x / 256 / 256 ≡ x / 65536 = omega arith in
    let three : x / 65536 / 256 ≡ x / 16777216 = omega arith in
    rw (two, three)

four_front : (s : List ℕ) → number_of (take 4 s) ≡ get_or s 0 0 + 256 * get_or s 1 0 + 65536 * get_or s 2 0 + 16777216 * get_or s 3 0
unfolding number_of
four_front [] = refl
four_front (x ∷ []) = omega arith
four_front (x ∷ y ∷ []) = omega arith
four_front (x ∷ y ∷ z ∷ []) = omega arith
four_front (x ∷ y ∷ z ∷ w ∷ s) = omega arith

-- a number by its four bytes
pub number_four : (i : ℕ) (s : List ℕ) → number_at 4 i s ≡ get_or s i 0 + 256 * get_or s (i + 1) 0 + 65536 * get_or s (i + 2) 0 + 16777216 * get_or s (i + 3) 0
number_four i s = simp (four_front, get_or-drop, add-zero)

pub cell_bytes-length : (xs : List ℕ) → length (cell_bytes xs) ≡ 4 * length xs
unfolding cell_bytes
cell_bytes-length [] = refl
cell_bytes-length (x ∷ xs) = rw (length-append, bytes-length) (omega (arith, cell_bytes-length xs))

pub cell_bytes-small : (xs : List ℕ) → Bytes (cell_bytes xs)
unfolding cell_bytes
cell_bytes-small [] i = lit< tt
cell_bytes-small (x ∷ xs) i = append-small (bytes_of 4 x) (cell_bytes xs) (bytes_small 4 x) (cell_bytes-small xs) i

pub cell_bytes_more : (xs ys : List ℕ) → cell_bytes (xs ++ ys) ≡ cell_bytes xs ++ cell_bytes ys
unfolding cell_bytes
cell_bytes_more [] ys = refl
cell_bytes_more (x ∷ xs) ys = rw (cell_bytes_more xs ys, append_assoc)

pub numbers-length : (m : ℕ) (s : List ℕ) → length (numbers_in m s) ≡ m
unfolding numbers_in
numbers-length zero s = refl
numbers-length (suc m) s = ap suc (numbers-length m (drop 4 s))

-- one number more
pub numbers_more : (m : ℕ) (s : List ℕ) → numbers_in (m + 1) s ≡ numbers_in m s ++ (number_at 4 (4 * m) s ∷ [])
unfolding numbers_in
numbers_more zero s = refl
numbers_more (suc m) s =
    let e : suc m + 1 ≡ suc (m + 1) = omega arith in
    let f : 4 + 4 * m ≡ 4 * suc m = omega arith in
    rw (e, numbers_more m (drop 4 s), drop-drop (4 * m) 4 s, f)

-- every number fits four bytes
abbrev pub Fours : List ℕ → Type 0
Fours xs = (i : ℕ) → get_or xs i 0 < 4294967296

pub numbers-bytes : (xs t : List ℕ) → Fours xs → numbers_in (length xs) (cell_bytes xs ++ t) ≡ xs
unfolding numbers_in cell_bytes
numbers-bytes [] t h = refl
numbers-bytes (x ∷ xs) t h =
    let split : cell_bytes (x ∷ xs) ++ t ≡ bytes_of 4 x ++ (cell_bytes xs ++ t) = append_assoc (bytes_of 4 x) (cell_bytes xs) t in
    let one : number_of (take 4 (cell_bytes (x ∷ xs) ++ t)) ≡ x =
    ap (λ l. number_of (take 4 l)) split ∙ ap number_of (take_at (bytes_of 4 x) _ 4 (bytes-length 4 x)) ∙ number-bytes 4 x (h 0) in
    let rest : drop 4 (cell_bytes (x ∷ xs) ++ t) ≡ cell_bytes xs ++ t = ap (drop 4) split ∙ drop_at (bytes_of 4 x) _ 4 (bytes-length 4 x) in
    ap₂ ◌∷◌ one (ap (numbers_in (length xs)) rest ∙ numbers-bytes xs t (λ i. h (suc i)))

pub bytes-numbers : (m : ℕ) (s : List ℕ) → 4 * m ≤ length s → Bytes s → cell_bytes (numbers_in m s) ≡ take (4 * m) s
unfolding numbers_in cell_bytes
bytes-numbers zero s h b = refl
bytes-numbers (suc m) s h b =
    let e : 4 * suc m ≡ 4 + 4 * m = omega arith in
    let ih : cell_bytes (numbers_in m (drop 4 s)) ≡ take (4 * m) (drop 4 s) = bytes-numbers m (drop 4 s) (rw length-drop (omega arith)) (drop-small 4 s b) in
    rw (e, ih) (sym (field 4 (4 * m) 0 s (omega arith) b))
