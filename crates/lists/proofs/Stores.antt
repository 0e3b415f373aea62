-- The laws of a row that a list is being stored in.
--     stored-none     at the start nothing is stored
--     stored_more     a turn stores one element more
--     stored_then     two lists, one after the other
--     stored_beyond, stored-slice     what stands after it is as it was: an element, a part
--     stored_part, stored_front    what is stored stands there; from the first place on, in front
--     stored-own      a row's first elements stand in it
--     stored-whole    a list that fills the row is the row
--     stored_cleared  with nothing but zeros stored after its first elements, the row is those
--     stored_same     what is stored is fixed: the contents and the place after it
--     stored_as       a list under another name
--     stored-room     what is stored has had its room
-- Assumes nothing.
use Prim.Native.Nat.{ℕ, ◌+◌, ◌-◌, ◌<◌, ◌≤◌}
use mathlib.Core.Path.{◌≡◌, sym, ap, ◌∙◌, subst}
use mathlib.Core.List.{List, [], ◌∷◌, ◌++◌, append-nil}
use native.Mathlib.Omega.{arith}
use native.Mathlib.Nat.{add-zero}
use lib.ListN.{length, take, drop, get_or, set, replicate, length-append, take-append-drop, drop_of_length-le}
use lib.Seq.{take-append_seam, length-take-le, get_or-drop, drop-drop, drop_at, slice}
use Rattle.lists.proofs.Places.{placed-none, placed_more, placed_front, placed_back, placed_twice}
use Rattle.lists.proofs.Steps.{slice_part}
use Rattle.lists.specs.Rows.{pad, Stored}

pub stored-none : (row : List ℕ) (k : ℕ) → Stored row k [] k row
stored-none row k = record { next_place = omega arith; contents = sym (placed-none row k) }

module _ {row : List ℕ} {k : ℕ} {xs : List ℕ} {next : ℕ} {after : List ℕ} (g : Stored row k xs next after) where
  pub stored_then : (ys : List ℕ) {m : ℕ} {last : List ℕ} → Stored after next ys m last → k ≤ length row → Stored row k (xs ++ ys) m last
  stored_then ys w h =
      record {
        next_place = omega (arith, g.next_place, w.next_place, length-append xs ys);
        contents = w.contents ∙ (rw (g.contents, g.next_place) (placed_twice row k xs ys h));
      }

  pub stored_as : {ys : List ℕ} → xs ≡ ys → Stored row k ys next after
  stored_as e = subst (λ (l : List ℕ). Stored row k l next after) e g

  pub stored-room : k ≤ length row → length after ≡ length row → next ≤ length row
  stored-room h l =
      let t : length (take k row) ≡ k = length-take-le k row h in
      let rest = drop (k + length xs) row in
      omega (arith, g.next_place, ap length g.contents, length-append (take k row) (xs ++ rest), length-append xs rest)

  stored_back : k ≤ length row → (i : ℕ) → next ≤ i → drop i after ≡ drop i row
  stored_back h i l =
      let e : next + (i - next) ≡ i = omega arith in
      let back : drop next after ≡ drop next row = rw (g.contents, g.next_place) (placed_back row k xs h) in
      rw e at (sym (drop-drop (i - next) next after) ∙ ap (drop (i - next)) back ∙ drop-drop (i - next) next row)

  pub stored_beyond : k ≤ length row → (i : ℕ) → next ≤ i → get_or after i 0 ≡ get_or row i 0
  stored_beyond h i l = rw add-zero at (sym (get_or-drop i after 0 0) ∙ ap (λ (r : List ℕ). get_or r 0 0) (stored_back h i l) ∙ get_or-drop i row 0 0)

  pub stored-slice : k ≤ length row → (f t : ℕ) → next ≤ f → slice f t after ≡ slice f t row
  stored-slice h f t l = slice_part f t after ∙ ap (take (t - f)) (stored_back h f l) ∙ sym (slice_part f t row)

  pub stored_part : k ≤ length row → slice k next after ≡ xs
  stored_part h =
      let t : length (take k row) ≡ k = length-take-le k row h in
      rw (g.contents, g.next_place) (ap (drop k) (placed_front row k xs h) ∙ drop_at (take k row) xs k t)

  pub stored_more : (x : ℕ) → next < length row → Stored row k (xs ++ (x ∷ [])) (next + 1) (set after next x)
  stored_more x h =
      record {
        next_place = omega (arith, g.next_place, length-append xs (x ∷ []));
        contents = rw (g.contents, g.next_place) (placed_more row k xs x (omega arith));
      }

pub stored_front : {row xs : List ℕ} {next : ℕ} {after : List ℕ} → Stored row 0 xs next after
    → (take next after ≡ xs) × (next ≤ length after) × (next ≡ length xs)
stored_front {row} {xs} {next} {after} g =
    let n : next ≡ length xs = omega (arith, g.next_place) in
    let rest = drop (0 + length xs) row in (
      rw (n, g.contents) (take-append_seam xs rest),
      omega (arith, ap length g.contents, length-append xs rest),
      n,
    )

pub stored-own : (row : List ℕ) (n : ℕ) → n ≤ length row → Stored row 0 (take n row) n row
stored-own row n h =
    let e : length (take n row) ≡ n = length-take-le n row h in
    let f : 0 + length (take n row) ≡ n = omega arith in
    record { next_place = sym f; contents = sym (rw f (take-append-drop n row)) }

pub stored-whole : {row xs : List ℕ} {next : ℕ} {after : List ℕ} → length row ≤ length xs → Stored row 0 xs next after → after ≡ xs
stored-whole {row} {xs} h g =
    let none : drop (0 + length xs) row ≡ [] = drop_of_length-le row {i = 0 + length xs} (omega arith) in
    g.contents ∙ (rw (none, append-nil))

pub stored_cleared : {row after : List ℕ} {k n : ℕ} (xs : List ℕ) → length row ≡ n → k ≡ length xs → take k row ≡ xs
    → Stored row k (replicate (n - k) 0) n after → after ≡ pad n xs
stored_cleared {row} {after} {k} {n} xs l e f g =
    let end : ℕ = k + length (replicate {A = ℕ} (n - k) 0) in
    let none : drop end row ≡ [] = drop_of_length-le row {i = end} (omega (arith, g.next_place)) in
    g.contents ∙ (rw (none, append-nil, f, e))

pub stored_same : {row : List ℕ} {k : ℕ} {xs : List ℕ} {next next' : ℕ} {after after' : List ℕ} → Stored row k xs next after → Stored row k xs next' after'
    → (after ≡ after') × (next ≡ next')
stored_same a b = (a.contents ∙ sym b.contents, a.next_place ∙ sym b.next_place)
