-- A sealed block is good, and a good block is the sealed one of its content. Assumes nothing.
use Prim.Native.Nat.{ℕ, ◌<◌, ◌≤◌}
use Prim.{tt}
use mathlib.Core.Path.{◌≡◌, sym, ap, ap₂, ◌∙◌}
use mathlib.Core.Bool.{true, ◌&&◌, and-eq-true_iff}
use mathlib.Core.List.{List, [], ◌++◌, append_assoc, append-nil}
use native.Mathlib.Nat.{mod-lt}
use native.Mathlib.Omega.{arith}
use lib.Dec.{lit<}
use lib.ListN.{length, take, drop, length-append, length-drop, take-append-drop, drop_of_length-le}
use lib.Seq.{take_all, drop-drop, take_at, length-take-le}
use borrow.Author.Tests.{eq-eqb, eqb-true}
use Rattle.block.specs.Little.{Bytes, bytes_of, number_at}
use Rattle.block.specs.Sums.{plain_of, weighted_of, block_good, sealed}
use Rattle.block.proofs.Numbers.{bytes-length, bytes_small, number_seam, bytes-number, append-small, take-small, drop-small}
use Rattle.block.proofs.Totals.{plain_front, weighted_front, plain_take, weighted_take}

pub plain_small : (s : List ℕ) → plain_of s < 65535
unfolding plain_of
plain_small s = mod-lt _ (lit< tt)

pub weighted_small : (s : List ℕ) → weighted_of s < 65535
unfolding weighted_of
weighted_small s = mod-lt _ (lit< tt)

pub sealed-length : (body : List ℕ) → length body ≡ 508 → length (sealed body) ≡ 512
unfolding sealed
sealed-length body h = simp (length-append, bytes-length) (omega arith)

pub sealed-small : (body : List ℕ) → Bytes body → Bytes (sealed body)
unfolding sealed
sealed-small body h = append-small body _ h (append-small (bytes_of 2 (plain_of body)) _ (bytes_small 2 _) (bytes_small 2 _))

-- the content stands in front
pub sealed-body : (body : List ℕ) → length body ≡ 508 → take 508 (sealed body) ≡ body
unfolding sealed
sealed-body body h = take_at body _ 508 h

pub sealed-good : (body : List ℕ) → length body ≡ 508 → block_good (sealed body) ≡ true
unfolding block_good sealed
sealed-good body h =
    let p = bytes_of 2 (plain_of body) in
    let w = bytes_of 2 (weighted_of body) in
    let seam : length (body ++ p) ≡ 510 = rw (length-append, bytes-length) (omega arith) in
    let first = number_seam 2 508 (plain_of body) body w h (omega (arith, plain_small body)) in
    let second = rw (append-nil, append_assoc) at (number_seam 2 510 (weighted_of body) (body ++ p) [] seam (omega (arith, weighted_small body))) in
    ap₂ ◌&&◌ (eq-eqb _ _ (first ∙ sym (plain_front body (p ++ w) h))) (eq-eqb _ _ (second ∙ sym (weighted_front body (p ++ w) h)))

-- the two bytes at a place, from their number
word_there : (s : List ℕ) (i x : ℕ) → length s ≡ 512 → Bytes s → i ≤ 510 → number_at 2 i s ≡ x → bytes_of 2 x ≡ take 2 (drop i s)
word_there s i x len small h e =
    let two : length (take 2 (drop i s)) ≡ 2 = length-take-le 2 (drop i s) (rw length-drop (omega arith)) in
    ap (bytes_of 2) (sym e) ∙ (rw two at (bytes-number (take 2 (drop i s)) (take-small 2 (drop i s) (drop-small i s small))))

pub good-sealed : (s : List ℕ) → length s ≡ 512 → Bytes s → block_good s ≡ true → s ≡ sealed (take 508 s)
unfolding block_good sealed
good-sealed s len small good =
    let ok = (and-eq-true_iff _ _).0 good in
    let p = word_there s 508 _ len small (omega arith) (eqb-true _ _ ok.0 ∙ sym (plain_take s (omega arith))) in
    let w = word_there s 510 _ len small (omega arith) (eqb-true _ _ ok.1 ∙ sym (weighted_take s (omega arith))) in
    let last : take 2 (drop 510 s) ≡ drop 2 (drop 508 s) = take_all 2 _ (rw length-drop (omega arith)) ∙ sym (drop-drop 2 508 s) in
    rw (p, w, last, take-append-drop, take-append-drop)

-- what two stored words leave
pub sealing : (s t u : List ℕ) (p w : ℕ) → length s ≡ 512 → p ≡ plain_of s → w ≡ weighted_of s
    → t ≡ take 508 s ++ bytes_of 2 p ++ drop 510 s → u ≡ take 510 t ++ bytes_of 2 w ++ drop 512 t → u ≡ sealed (take 508 s)
unfolding sealed
sealing s t u p w len hp hw ht hu =
    let room : 508 ≤ length s = omega arith in
    let front : length (take 508 s ++ bytes_of 2 p) ≡ 510 = simp (length-append, bytes-length) (omega (arith, length-take-le 508 s room)) in
    let kept : take 510 t ≡ take 508 s ++ bytes_of 2 p = ap (take 510) ht ∙ take_at _ (drop 510 s) 510 front in
    let whole : length t ≤ 512 = rw (ht, length-append) (omega (arith, length-drop 510 s)) in
    rw (hu, kept, drop_of_length-le t whole, append-nil, append_assoc, plain_take s room, weighted_take s room, hp, hw)
