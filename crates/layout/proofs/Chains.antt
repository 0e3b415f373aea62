-- Several cell blocks, written and read.
--     one, one-length, blocks-length, blocks-small     512 bytes each
--     cells-length    as many cells as are asked for
--     made_shaped, made_cells, made-good     what was written has its shape, is read, and has right checks
--     blocks_back     blocks with that shape and right checks are those of their cells
--     block_next      a block, counted from the second
--     cells_front, cells_rest     the cells of the first cell block, and of those after it
--     shaped_turn, blocks_on, cells_at      block i and the blocks after it, as loops walk them
-- Assumes nothing.
use Prim.Native.Nat.{ℕ, zero, suc, ◌+◌, ◌*◌, ◌-◌, ◌<◌, ◌≤◌, min}
use mathlib.Core.Path.{◌≡◌, refl, sym, ap, ap₂, ◌∙◌}
use mathlib.Core.Bool.{true, ◌&&◌, and-eq-true_iff}
use mathlib.Core.Logic.{⊎_elim}
use mathlib.Core.List.{List, [], ◌∷◌, ◌++◌, append-nil}
use native.Mathlib.Numerals.{add-one}
use native.Mathlib.Omega.{arith}
use lib.Dec.{lit<, leb}
use lib.ListN.{length, take, drop, length-append, length-drop, length-take, take-append-drop, drop_of_length-le}
use lib.Seq.{take_at, drop_at, take_all, drop-drop, length-take-le, get_or-drop}
use borrow.Author.Tests.{leb-true, leb-false}
use Rattle.lists.proofs.Tests.{tested}
use Rattle.block.specs.Little.{Bytes}
use Rattle.block.specs.Sums.{block_good, sealed}
use Rattle.block.proofs.Numbers.{append-small, take-small, drop-small}
use Rattle.block.proofs.Blocks.{sealed-length, sealed-small, sealed-good}
use Rattle.layout.specs.Images.{body_of, cell_blocks, numbers_in, cells_in}
use Rattle.layout.specs.Shapes.{block_at, block_shaped, blocks_shaped}
use Rattle.layout.proofs.Fields.{Fours, numbers-length}
use Rattle.layout.proofs.Bodies.{body-length, body-small, body-shaped, body-cells, body_back}

-- the first 126 cells, and how many they are
abbrev front : List ℕ → List ℕ
front xs = take 126 xs

few : (xs : List ℕ) → length (front xs) ≤ 126
few xs = rw (length-take 126 xs) (omega arith)

-- one block as it is written
abbrev pub one : ℕ → List ℕ → List ℕ
one i xs = sealed (body_of i (front xs))

pub one-length : (i : ℕ) (xs : List ℕ) → length (one i xs) ≡ 512
one-length i xs = sealed-length (body_of i (front xs)) (body-length i (front xs) (few xs))

pub blocks-length : (m i : ℕ) (xs : List ℕ) → length (cell_blocks m i xs) ≡ 512 * m
unfolding cell_blocks
blocks-length zero i xs = refl
blocks-length (suc m) i xs = rw (length-append, one-length i xs, blocks-length m (suc i) (drop 126 xs)) (omega arith)

pub blocks-small : (m i : ℕ) (xs : List ℕ) → Bytes (cell_blocks m i xs)
unfolding cell_blocks
blocks-small zero i xs j = lit< tt
blocks-small (suc m) i xs j =
    append-small (one i xs) (cell_blocks m (suc i) (drop 126 xs)) (sealed-small (body_of i (front xs)) (body-small i (front xs)))
    (blocks-small m (suc i) (drop 126 xs)) j

none : (m : ℕ) (s : List ℕ) → cells_in m 0 s ≡ []
unfolding cells_in numbers_in
none zero s = refl
none (suc m) s = none m (drop 512 s)

pub cells-length : (m count : ℕ) (s : List ℕ) → count ≤ 126 * m → length (cells_in m count s) ≡ count
unfolding cells_in
cells-length zero count s h = omega arith
cells-length (suc m) count s h =
    rw (length-append, numbers-length (min 126 count) (drop 4 (take 512 s)), cells-length m (count - 126) (drop 512 s) (omega arith)) (omega arith)

-- what was written

module _ (i m : ℕ) (xs : List ℕ) where
  made_front : take 512 (cell_blocks (suc m) i xs) ≡ one i xs
  unfolding cell_blocks
  made_front = take_at (one i xs) _ 512 (one-length i xs)

  made-rest : drop 512 (cell_blocks (suc m) i xs) ≡ cell_blocks m (suc i) (drop 126 xs)
  unfolding cell_blocks
  made-rest = drop_at (one i xs) _ 512 (one-length i xs)

pub made_shaped : (m i count : ℕ) (xs : List ℕ) → length xs ≡ count → m + i ≤ 65536 → blocks_shaped m i count (cell_blocks m i xs) ≡ true
unfolding blocks_shaped
made_shaped zero i count xs e h = refl
made_shaped (suc m) i count xs e h =
    let n : min 126 count ≡ length (front xs) = sym (length-take 126 xs ∙ ap (min 126) e) in
    let l : length (drop 126 xs) ≡ count - 126 = length-drop 126 xs ∙ ap (λ k. k - 126) e in
    rw (made_front i m xs, made-rest i m xs, n)
    (ap₂ ◌&&◌ (body-shaped i (front xs) (omega arith) (few xs)) (made_shaped m (suc i) (count - 126) (drop 126 xs) l (omega arith)))

take_fours : (n : ℕ) (xs : List ℕ) → Fours xs → Fours (take n xs)
take_fours zero xs f i = lit< tt
take_fours (suc n) [] f i = lit< tt
take_fours (suc n) (x ∷ xs) f zero = f 0
take_fours (suc n) (x ∷ xs) f (suc i) = take_fours n xs (λ j. f (suc j)) i

drop_fours : (n : ℕ) (xs : List ℕ) → Fours xs → Fours (drop n xs)
drop_fours n xs f i = rw get_or-drop (f (n + i))

pub made_cells : (m i count : ℕ) (xs : List ℕ) → length xs ≡ count → count ≤ 126 * m → Fours xs → cells_in m count (cell_blocks m i xs) ≡ xs
unfolding cells_in
made_cells zero i count [] e h f = refl
made_cells zero i count (x ∷ xs) e h f = absurd (omega arith)
made_cells (suc m) i count xs e h f =
    let n : min 126 count ≡ length (front xs) = sym (length-take 126 xs ∙ ap (min 126) e) in
    let l : length (drop 126 xs) ≡ count - 126 = length-drop 126 xs ∙ ap (λ k. k - 126) e in
    rw (made_front i m xs, made-rest i m xs, n)
    (ap₂ ◌++◌ (body-cells i (front xs) (take_fours 126 xs f))
    (made_cells m (suc i) (count - 126) (drop 126 xs) l (omega arith) (drop_fours 126 xs f)) ∙ take-append-drop 126 xs)

-- block j + 1 is block j of what follows the first
pub block_next : (j : ℕ) (s : List ℕ) → block_at j (drop 512 s) ≡ block_at (suc j) s
block_next j s = let e : 512 + 512 * j ≡ 512 * suc j = omega arith in rw (drop-drop (512 * j) 512 s, e)

pub made-good : (m i j : ℕ) (xs : List ℕ) → j < m → block_good (block_at j (cell_blocks m i xs)) ≡ true
made-good zero i j xs h = absurd (omega arith)
made-good (suc m) i zero xs h = rw (made_front i m xs) (sealed-good (body_of i (front xs)) (body-length i (front xs) (few xs)))
made-good (suc m) i (suc j) xs h = rw (← block_next j (cell_blocks (suc m) i xs), made-rest i m xs) (made-good m (suc i) j (drop 126 xs) (omega arith))

-- what is read

-- full, or the last one
either : (P : Type 0) (count : ℕ) → (126 ≤ count → P) → (count < 126 → P) → P
either P count f g = ⊎_elim (λ e. f (leb-true 126 count e)) (λ e. g (leb-false 126 count e)) (tested (leb 126 count))

module _ (m count : ℕ) (s : List ℕ) where
  abbrev first : List ℕ
  first = numbers_in (min 126 count) (drop 4 (take 512 s))

  first-length : length first ≡ min 126 count
  first-length = numbers-length (min 126 count) (drop 4 (take 512 s))

  last_none : count < 126 → cells_in m (count - 126) (drop 512 s) ≡ []
  last_none h = let e : count - 126 ≡ 0 = omega arith in rw e (none m (drop 512 s))

  pub cells_front : take 126 (cells_in (suc m) count s) ≡ first
  unfolding cells_in
  cells_front =
      either _ count
      (λ h. take_at first _ 126 (omega (arith, first-length)))
      (λ h. rw (last_none h, append-nil) (take_all 126 first (omega (arith, first-length))))

  pub cells_rest : drop 126 (cells_in (suc m) count s) ≡ cells_in m (count - 126) (drop 512 s)
  unfolding cells_in
  cells_rest =
      either _ count
      (λ h. drop_at first _ 126 (omega (arith, first-length)))
      (λ h. rw (last_none h, append-nil) (drop_of_length-le first {i = 126} (omega (arith, first-length))))

pub blocks_back : (m i count : ℕ) (s : List ℕ) → length s ≡ 512 * m → Bytes s → ((j : ℕ) → j < m → block_good (block_at j s) ≡ true)
    → blocks_shaped m i count s ≡ true → s ≡ cell_blocks m i (cells_in m count s)
unfolding blocks_shaped cell_blocks
blocks_back zero i count [] l small good e = refl
blocks_back zero i count (x ∷ s) l small good e = absurd (omega arith)
blocks_back (suc m) i count s l small good e =
    let ok = (and-eq-true_iff _ _).0 e in
    let n : length (take 512 s) ≡ 512 = length-take-le 512 s (omega arith) in
    let here = body_back (take 512 s) n (take-small 512 s small) (good 0 (omega arith)) i (min 126 count) (omega arith) ok.0 in
    let rest = blocks_back m (suc i) (count - 126) (drop 512 s) (rw length-drop (omega arith)) (drop-small 512 s small)
    (λ j h. rw (block_next j s) (good (suc j) (omega arith))) ok.1 in
    sym (take-append-drop 512 s)
    ∙ ap₂ ◌++◌ (here ∙ ap (λ xs. sealed (body_of i xs)) (sym (cells_front m count s))) (rest ∙ ap (cell_blocks m (suc i)) (sym (cells_rest m count s)))

-- block i and the blocks after it, as loops walk them

further : (k i : ℕ) (s : List ℕ) → drop k (drop (k * i) s) ≡ drop (k * (i + 1)) s
further k i s = let e : k * i + k ≡ k * (i + 1) = omega arith in drop-drop k (k * i) s ∙ ap (λ j. drop j s) e

module _ (m i : ℕ) (h : i < m) where
  left : m - i ≡ suc (m - (i + 1))
  left = omega arith

  pub shaped_turn : (count : ℕ) (s : List ℕ) → blocks_shaped (m - i) (i + 1) (count - 126 * i) (drop (512 * i) s)
      ≡ (block_shaped (i + 1) (min 126 (count - 126 * i)) (block_at i s)
      && blocks_shaped (m - (i + 1)) (i + 1 + 1) (count - 126 * (i + 1)) (drop (512 * (i + 1)) s))
  unfolding blocks_shaped
  shaped_turn count s =
      let c : count - 126 * i - 126 ≡ count - 126 * (i + 1) = omega arith in
      rw (left, further 512 i s, c, add-one (i + 1))

  pub blocks_on : (xs : List ℕ) → cell_blocks (m - i) (i + 1) (drop (126 * i) xs)
      ≡ one (i + 1) (drop (126 * i) xs) ++ cell_blocks (m - (i + 1)) (i + 1 + 1) (drop (126 * (i + 1)) xs)
  unfolding cell_blocks
  blocks_on xs = rw (left, further 126 i xs, add-one (i + 1))

-- the cells from block i on
pub cells_at : (i m count : ℕ) (s : List ℕ) → i ≤ m → drop (126 * i) (cells_in m count s) ≡ cells_in (m - i) (count - 126 * i) (drop (512 * i) s)
cells_at zero m count s h = let a : m - 0 ≡ m = omega arith in let b : count - 126 * 0 ≡ count = omega arith in rw (a, b)
cells_at (suc i) zero count s h = absurd (omega arith)
cells_at (suc i) (suc m) count s h =
    let all : List ℕ = cells_in (suc m) count s in
    let a : 126 * suc i ≡ 126 + 126 * i = omega arith in
    let b : suc m - suc i ≡ m - i = omega arith in
    let c : count - 126 * suc i ≡ count - 126 - 126 * i = omega arith in
    let d : 512 * suc i ≡ 512 + 512 * i = omega arith in
    let e : drop (126 * suc i) all ≡ drop (126 * i) (cells_in m (count - 126) (drop 512 s)) =
    ap (λ n. drop n all) a ∙ sym (drop-drop (126 * i) 126 all) ∙ ap (drop (126 * i)) (cells_rest m count s) in
    let f : drop (512 * suc i) s ≡ drop (512 * i) (drop 512 s) = ap (λ n. drop n s) d ∙ sym (drop-drop (512 * i) 512 s) in
    let g = cells_at i m (count - 126) (drop 512 s) (omega arith) in
    e ∙ g ∙ sym (ap₂ (λ n k. cells_in n k (drop (512 * suc i) s)) b c ∙ ap (cells_in (m - i) (count - 126 - 126 * i)) f)
