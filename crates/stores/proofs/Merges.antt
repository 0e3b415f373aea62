-- The laws of a merge of a rising row with the rising cells of another, stored in that other: what a turn does to the union that is left.
--     Merging, merge-start    a merge under way
--     stepped         a test as a number
--     Turn, union_next    what a turn stores is the next cell of the union that is left
--     merge_on_lem        so a turn leads to the next
--     merge-room      what is left of the row that is merged in has room before what is left of the other
--     merge_end       where one side is walked to its end, what is left of both is stored
-- Assumes nothing.
use Prim.Native.Nat.{ℕ, ◌+◌, ◌-◌, ◌<◌, ◌≤◌, min}
use mathlib.Core.Path.{◌≡◌, refl, sym, ap, ◌∙◌}
use mathlib.Core.Logic.{◌⊎◌, ⊎_elim}
use mathlib.Core.List.{List, [], ◌∷◌, ◌++◌, append-nil, append_assoc}
use native.Mathlib.Omega.{arith}
use native.Mathlib.Nat.{add-zero}
use lib.ListN.{length, take, drop, get_or, set, length-set, length-drop, drop_of_length-le}
use lib.Seq.{append_snoc, slice, length-take-le, get_or-take}
use lib.Dec.{leb}
use borrow.Author.Tests.{lt-ltb, le-ltb, le-leb, lt-leb}
use Rattle.std.specs.Int.{from_bool}
use Rattle.lists.specs.Rows.{union, Stored}
use Rattle.lists.proofs.Tests.{by_order}
use Rattle.lists.proofs.Steps.{next}
use Rattle.lists.proofs.Stores.{stored-none, stored_more, stored_then, stored_beyond, stored-slice}

pub stepped : (x y : ℕ) → from_bool (leb x y) ≡ min 1 (y + 1 - x)
stepped x y =
    ⊎_elim
    (λ (h : y < x). rw (lt-leb x y h) (omega arith))
    (λ (h : x ≤ y). rw (le-leb x y h) (omega arith))
    (by_order y x)

-- what a turn makes of the next cells x and y of the two rows: the lesser of them, and by how much each row moves on
pub record Turn (x y m s t : ℕ) : Type 0 where
  pub stores : m ≡ min x y
  pub moves_a : s ≡ min 1 (y + 1 - x)
  pub moves_b : t ≡ min 1 (x + 1 - y)

union_next : (a b : List ℕ) (i j : ℕ) → i < length a → j < length b → {m s t : ℕ} → Turn (get_or a i 0) (get_or b j 0) m s t
    → union (drop i a) (drop j b) ≡ m ∷ union (drop (i + s) a) (drop (j + t) b)
unfolding union
union_next a b i j h k {m} {s} {t} g =
    let x = get_or a i 0 in
    let y = get_or b j 0 in
    ⊎_elim
    (λ (l : x < y).
    let em : m ≡ x = omega arith in
    let es : s ≡ 1 = omega arith in
    let et : t ≡ 0 = omega arith in
    rw (em, es, et, add-zero, next a i h, next b j k, lt-ltb _ _ l))
    (λ (f : y ≤ x).
    ⊎_elim
    (λ (l : y < x).
    let em : m ≡ y = omega arith in
    let es : s ≡ 0 = omega arith in
    let et : t ≡ 1 = omega arith in
    rw (em, es, et, add-zero, next a i h, next b j k, le-ltb _ _ f, lt-ltb _ _ l))
    (λ (l : x ≤ y).
    let em : m ≡ x = omega arith in
    let es : s ≡ 1 = omega arith in
    let et : t ≡ 1 = omega arith in
    rw (em, es, et, next a i h, next b j k, le-ltb _ _ f, le-ltb _ _ l))
    (by_order y x))
    (by_order x y)

union-none : (xs ys : List ℕ) → ys ≡ [] → union xs ys ≡ xs ++ ys
unfolding union
union-none [] ys e = refl
union-none (x ∷ xs) ys e = rw e (sym (append-nil (x ∷ xs)))

-- where one row has no cell left, the union that is left is what the other has
union-rest : (a b : List ℕ) (i j : ℕ) → (length a ≤ i) ⊎ (length b ≤ j) → union (drop i a) (drop j b) ≡ drop i a ++ drop j b
unfolding union
union-rest a b i j =
    ⊎_elim (λ (h : length a ≤ i). rw (drop_of_length-le a {i = i} h)) (λ (h : length b ≤ j). union-none (drop i a) (drop j b) (drop_of_length-le b {i = j} h))

-- `done` is stored at the start of the row, which is now `out`; after it comes the union of what is left of a and of the row's cells from `at` up to `end`
pub record Merging (row a : List ℕ) (at end : ℕ) (out : List ℕ) (next i j : ℕ) : Type 0 where
  pub in_a : i ≤ length a
  pub to_end : j ≤ end
  pub few : next + at ≤ i + j
  pub long : length out ≡ length row
  pub done : List ℕ
  pub stored : Stored row 0 done next out
  pub left : done ++ union (drop i a) (slice j end row) ≡ union a (slice at end row)

pub merge-start : (row a : List ℕ) (at end : ℕ) → at ≤ end → Merging row a at end row 0 0 at
merge-start row a at end h =
    record { in_a = omega arith; to_end = h; few = omega arith; long = refl; done = []; stored = stored-none row 0; left = refl }

module _ {row a : List ℕ} {at end : ℕ} {out : List ℕ} {next i j : ℕ} (g : Merging row a at end out next i j) (few-a : length a ≤ at)
    (room : end ≤ length row) where
  in_row : length (take end row) ≡ end
  in_row = length-take-le end row room

  pub merge_on_lem : i < length a → j < end → {m s t : ℕ} → Turn (get_or a i 0) (get_or out j 0) m s t
      → Merging row a at end (set out next m) (next + 1) (i + s) (j + t)
  merge_on_lem h k {m} {s} {t} w =
      let read : get_or out j 0 ≡ get_or (take end row) j 0 =
      stored_beyond g.stored (omega arith) j (omega (arith, g.few)) ∙ sym (get_or-take end row j 0 k) in
      record {
        in_a = omega arith;
        to_end = omega arith;
        few = omega (arith, g.few);
        long = length-set out next m ∙ g.long;
        done = g.done ++ (m ∷ []);
        stored = stored_more g.stored m (omega (arith, g.few));
        left = append_snoc g.done m _ ∙ (rw (union_next a (take end row) i j h (omega (arith, in_row)) (rw read at w)) at g.left);
      }

  -- what is left of a is stored before the cells that are left in the row
  module _ {m : ℕ} {mid : List ℕ} (s : Stored out next (drop i a) m mid) where
    pub merge-room : m ≤ j
    merge-room = omega (arith, s.next_place, length-drop i a, g.few, g.in_a)

    pub merge_end : (length a ≤ i) ⊎ (end ≤ j) → {last : ℕ} {after : List ℕ} → Stored mid m (slice j end mid) last after
        → Stored row 0 (union a (slice at end row)) last after
    merge_end one t =
        let u = stored_then g.stored (drop i a) s (omega arith) in
        let rest = union-rest a (take end row) i j (rw in_row one) in
        let e : (g.done ++ drop i a) ++ slice j end row ≡ union a (slice at end row) =
        append_assoc g.done (drop i a) (slice j end row) ∙ ap (λ (r : List ℕ). g.done ++ r) (sym rest) ∙ g.left in
        rw e at (stored_then u (slice j end row) (rw (stored-slice u (omega arith) j end merge-room) at t) (omega arith))
