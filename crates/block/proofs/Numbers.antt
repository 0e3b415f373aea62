-- Numbers as bytes: a number is its bytes, and bytes are their number. Assumes nothing.
use Prim.Native.Nat.{ℕ, zero, suc, ◌+◌, ◌*◌, ◌-◌, ◌/◌, ◌%◌, ◌^◌, ◌<◌, ◌≤◌}
use Prim.{tt}
use mathlib.Core.Path.{◌≡◌, refl, ap, ◌∙◌}
use mathlib.Core.List.{List, [], ◌∷◌, ◌++◌, append_assoc}
use native.Mathlib.Nat.{mod-lt, div-add-mod', div-lt_iff_lt-mul, add-zero, pow-zero, pow-suc}
use native.Mathlib.Omega.{arith}
use lib.Dec.{lit<}
use lib.ListN.{length, get_or, take, drop, length-drop}
use lib.Seq.{get_or-drop, take-append-le, drop-append-le, take_at, drop_at, drop-drop}
use borrow.Rule.Slice.PartMut.{put_mid}
use Rattle.block.specs.Little.{Bytes, bytes_of, number_of, number_at}

pub bytes-length : (k x : ℕ) → length (bytes_of k x) ≡ k
unfolding bytes_of
bytes-length zero x = refl
bytes-length (suc k) x = ap suc (bytes-length k (x / 256))

pub bytes_small : (k x : ℕ) → Bytes (bytes_of k x)
unfolding bytes_of
bytes_small zero x i = lit< tt
bytes_small (suc k) x zero = mod-lt x (lit< tt)
bytes_small (suc k) x (suc i) = bytes_small k (x / 256) i

pub number-bytes : (k x : ℕ) → x < 256 ^ k → number_of (bytes_of k x) ≡ x
unfolding bytes_of number_of
number-bytes zero x h = omega (arith, pow-zero 256)
number-bytes (suc k) x h =
    let l : x / 256 < 256 ^ k = (div-lt_iff_lt-mul (lit< tt)).1 (rw pow-suc at h) in
    let e : number_of (bytes_of k (x / 256)) ≡ x / 256 = number-bytes k (x / 256) l in
    omega (arith, div-add-mod' x 256)

pub bytes-number : (bs : List ℕ) → Bytes bs → bytes_of (length bs) (number_of bs) ≡ bs
unfolding bytes_of number_of
bytes-number [] h = refl
bytes-number (b ∷ bs) h =
    let low : (b + 256 * number_of bs) % 256 ≡ b = omega (arith, h 0) in
    let high : (b + 256 * number_of bs) / 256 ≡ number_of bs = omega (arith, h 0) in
    rw (low, high, bytes-number bs (λ i. h (suc i)))

pub number_below : (bs : List ℕ) → Bytes bs → number_of bs < 256 ^ length bs
unfolding number_of
number_below [] h = lit< tt
number_below (b ∷ bs) h = rw pow-suc (omega (arith, h 0, number_below bs (λ i. h (suc i))))

pub append-small : (s t : List ℕ) → Bytes s → Bytes t → Bytes (s ++ t)
append-small [] t h k i = k i
append-small (x ∷ s) t h k zero = h 0
append-small (x ∷ s) t h k (suc i) = append-small s t (λ j. h (suc j)) k i

pub take-small : (n : ℕ) (s : List ℕ) → Bytes s → Bytes (take n s)
take-small zero s h i = lit< tt
take-small (suc n) [] h i = lit< tt
take-small (suc n) (x ∷ s) h zero = h 0
take-small (suc n) (x ∷ s) h (suc i) = take-small n s (λ j. h (suc j)) i

pub drop-small : (n : ℕ) (s : List ℕ) → Bytes s → Bytes (drop n s)
drop-small n s h i = rw get_or-drop (h (n + i))

-- what stands after the bytes doesn't matter
pub number_front : (k i : ℕ) (s t : List ℕ) → i + k ≤ length s → number_at k i (s ++ t) ≡ number_at k i s
number_front k i s t h =
    let a : i ≤ length s = omega arith in
    let b : k ≤ length (drop i s) = rw length-drop (omega arith) in
    rw (drop-append-le, take-append-le)

-- bytes written at a place are read there
pub number_seam : (k i x : ℕ) (s t : List ℕ) → length s ≡ i → x < 256 ^ k → number_at k i (s ++ (bytes_of k x ++ t)) ≡ x
number_seam k i x s t h l =
    ap number_of (ap (take k) (drop_at s (bytes_of k x ++ t) i h) ∙ take_at (bytes_of k x) t k (bytes-length k x)) ∙ number-bytes k x l

two_front : (s : List ℕ) → number_of (take 2 s) ≡ get_or s 0 0 + 256 * get_or s 1 0
unfolding number_of
two_front [] = refl
two_front (x ∷ []) = refl
two_front (x ∷ y ∷ s) = omega arith

-- the same of the two bytes alone
pub two_bytes : (s : List ℕ) → number_of (take 2 s) ≡ get_or (take 2 s) 0 0 + 256 * get_or (take 2 s) 1 0
unfolding number_of
two_bytes [] = refl
two_bytes (x ∷ []) = refl
two_bytes (x ∷ y ∷ s) = omega arith

-- a word by its two bytes
pub number_two : (i : ℕ) (s : List ℕ) → number_at 2 i s ≡ get_or s i 0 + 256 * get_or s (i + 1) 0
number_two i s = simp (two_front, get_or-drop, add-zero)

-- a word written over two bytes
pub word_over : (i x : ℕ) (s w : List ℕ) → w ≡ x % 256 ∷ x / 256 % 256 ∷ [] → put_mid i (i + 2 - i) s w ≡ take i s ++ bytes_of 2 x ++ drop (i + 2) s
unfolding bytes_of
word_over i x s w h =
    let e : i + 2 - i ≡ 2 = omega arith in
    rw (h, e, drop-drop) (simp append_assoc)
