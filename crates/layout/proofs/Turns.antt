-- One turn of each loop over bytes.
--     copy_more       one cell more is copied
--     cuts_end, cuts_turn, wrong_found     the search for a block whose check is wrong
--     block_length     a block as a part of the bytes
--     block_next, part_next     the next chunk, and what is left after it
--     mid_placed      what a lent part leaves
--     shaped_off, shaped_on, shaped_end     one cell block more is tested
--     row-length, cells_part, cells_turn, cells_end      the cells of one cell block more are copied
--     blocks_turn, blocks_end       one cell block more is written
-- Assumes nothing.
use Prim.Native.Nat.{ℕ, zero, suc, ◌+◌, ◌*◌, ◌-◌, ◌/◌, ◌<◌, ◌≤◌, min}
use mathlib.Core.Path.{◌≡◌, refl, sym, ap, ap₂, ◌∙◌}
use mathlib.Core.Bool.{Bool, true, false, cond, not, ◌&&◌}
use mathlib.Core.List.{List, [], ◌∷◌, ◌++◌, append_assoc, append-nil}
use native.Mathlib.Numerals.{add-one}
use native.Mathlib.Omega.{arith}
use lib.ListN.{length, take, drop, set, length-drop, length-append, length-take}
use lib.Seq.{take-suc-set, drop-drop, length-take-le, take-add, take_all, take_at, drop_at}
use Rattle.std.specs.Simd.{first_chunks}
use Rattle.std.specs.List.{position_or_len}
use Rattle.std.proofs.Common.{Option, Some, None, MatchOption}
use lib.Dec.{ltb}
use borrow.Author.Tests.{ltb-true, ltb-false}
use Rattle.std.proofs.lemmas.List.{take_min, drop_min}
use Rattle.lists.specs.Searches.{least}
use Rattle.lists.specs.Rows.{pad, placed}
use Rattle.lists.proofs.Searches.{least_to}
use Rattle.lists.proofs.Places.{pad-length, placed-after}
use Rattle.block.specs.Little.{number_at}
use Rattle.block.specs.Sums.{block_good, sealed}
use Rattle.layout.specs.Images.{blocks_for, numbers_in, cells_in, body_of, cell_blocks}
use Rattle.layout.specs.Shapes.{block_at, blocks_in, first_wrong, block_shaped, blocks_shaped}
use Rattle.layout.proofs.Fields.{numbers_more, numbers-length}
use Rattle.layout.proofs.Chains.{one-length, shaped_turn, blocks_on, cells_at, cells_front, cells-length}

-- the first i + 1 places after a store at i
stored : (s : List ℕ) (i x : ℕ) → i < length s → take (i + 1) (set s i x) ≡ take i s ++ (x ∷ [])
stored s i x h = rw (add-one, take-suc-set s i x h)

pub copy_more : (row s : List ℕ) (j x : ℕ) → j < length row → x ≡ number_at 4 (4 + 4 * j) s → take j row ≡ numbers_in j (drop 4 s)
    → take (j + 1) (set row j x) ≡ numbers_in (j + 1) (drop 4 s)
copy_more row s j x h v e =
    let n : x ≡ number_at 4 (4 * j) (drop 4 s) = v ∙ rw (drop-drop (4 * j) 4 s) in
    stored row j x h ∙ ap₂ (λ l y. l ++ (y ∷ [])) e n ∙ sym (numbers_more j (drop 4 s))

pub block_length : (i : ℕ) (s : List ℕ) → 512 * i + 512 ≤ length s → length (take (512 * i + 512 - 512 * i) (drop (512 * i) s)) ≡ 512
block_length i s h =
    let e : 512 * i + 512 - 512 * i ≡ 512 = omega arith in
    rw e (length-take-le 512 (drop (512 * i) s) (rw length-drop (omega arith)))

-- the next of the whole blocks
module _ (i : ℕ) (s x rest : List ℕ) (e : drop (512 * i) s ≡ x ++ rest) (l : length x ≡ 512) where
  pub block_here : x ≡ block_at i s
  block_here = sym (ap (take 512) e ∙ take_at x rest 512 l)

  pub block_next : rest ≡ drop (512 * (i + 1)) s
  block_next =
      let n : 512 * (i + 1) ≡ 512 * i + 512 = omega arith in
      rw n (sym (sym (drop-drop 512 (512 * i) s) ∙ ap (drop 512) e ∙ drop_at x rest 512 l))

  pub block_within : 512 * i + 512 ≤ length s
  block_within = omega (arith, length-append x rest, ap length e, length-drop (512 * i) s)

-- the next n elements, or as many as are left
module _ (n : ℕ) (t x rest : List ℕ) (e : t ≡ x ++ rest) (l : length x ≡ min n (length t)) where
  pub part_here : x ≡ take n t
  part_here = sym (sym (take_min n t) ∙ ap (take (min n (length t))) e ∙ take_at x rest _ l)

  pub part_next : rest ≡ drop n t
  part_next = sym (sym (drop_min n t) ∙ ap (drop (min n (length t))) e ∙ drop_at x rest _ l)

-- the search for a block whose check is wrong, over the blocks as a list
abbrev pub bad : List ℕ → Bool
bad b = not (block_good b)

pub blocks-length : (k : ℕ) (s : List ℕ) → length (first_chunks 512 k s) ≡ k
blocks-length zero s = refl
blocks-length (suc k) s = ap suc (blocks-length k (drop 512 s))

-- all whole blocks are cut off
pub cuts_end : (t : List ℕ) → length t < 512 → length (first_chunks 512 (length t / 512) t) ≡ 0
cuts_end t h = blocks-length (length t / 512) t ∙ omega arith

pub cuts_turn : (t x u : List ℕ) → t ≡ x ++ u → length x ≡ 512 → first_chunks 512 (length t / 512) t ≡ x ∷ first_chunks 512 (length u / 512) u
cuts_turn t x u e l =
    let n : length t / 512 ≡ suc (length u / 512) = omega (arith, ap length e, length-append x u) in
    let here : take 512 t ≡ x = ap (take 512) e ∙ take_at x u 512 l in
    let later : drop 512 t ≡ u = ap (drop 512) e ∙ drop_at x u 512 l in
    ap (λ k. first_chunks 512 k t) n ∙ ap₂ (λ b r. b ∷ first_chunks 512 (length u / 512) r) here later

wrong_turn : (t : Bool) (m a p : ℕ) → a ≡ suc m + p → cond t m a ≡ m + cond (not t) (1 + p) 0
wrong_turn true m a p h = omega arith
wrong_turn false m a p h = omega arith

wrong_at : (k m : ℕ) (s : List ℕ) → least (λ i. bad (block_at i s)) k m ≡ m + position_or_len bad (first_chunks 512 k (drop (512 * m) s))
wrong_at zero m s = omega arith
wrong_at (suc k) m s =
    let e : 512 * suc m ≡ 512 * m + 512 = omega arith in
    let later = wrong_at k (suc m) s ∙ rw (e, ← drop-drop 512 (512 * m) s) in
    wrong_turn (bad (block_at m s)) m _ _ later

within : (p n : ℕ) (r : Option ℕ) → r ≡ cond (ltb p n) (Some p) None → p ≤ n → MatchOption r (p ≡ n) (λ i. (i ≡ p) × (i < n))
within p n r e h = rw e (at (ltb p n) refl)
  where
    at : (t : Bool) → ltb p n ≡ t → MatchOption (cond t (Some p) None) (p ≡ n) (λ i. (i ≡ p) × (i < n))
    at true q = (refl, ltb-true p n q)
    at false q = let l : n ≤ p = ltb-false p n q in omega arith

-- the place that `position` gives
pub wrong_found : (s : List ℕ) (r : Option ℕ) → let bs = first_chunks 512 (blocks_in s) s in let p = position_or_len bad bs in
    r ≡ cond (ltb p (length bs)) (Some p) None → MatchOption r (first_wrong s ≡ blocks_in s) (λ i. (i ≡ first_wrong s) × (i < blocks_in s))
unfolding first_wrong
wrong_found s r e =
    let first : position_or_len bad (first_chunks 512 (blocks_in s) s) ≡ least (λ i. bad (block_at i s)) (blocks_in s) 0 = omega (arith, wrong_at (blocks_in s) 0 s) in
    within _ _ r (rw (first, blocks-length) at e) (omega (arith, least_to (λ i. bad (block_at i s)) (blocks_in s) 0))

pub mid_placed : (row ys : List ℕ) (a k : ℕ) → length ys ≡ k → take a row ++ (ys ++ drop k (drop a row)) ≡ placed row a ys
mid_placed row ys a k e = rw (← e, drop-drop (length ys) a row)

-- the tests of the cell blocks
module _ (m i count : ℕ) (s : List ℕ) (r : Bool) (h : i < m) (e : blocks_shaped (m - i) (i + 1) (count - 126 * i) (drop (512 * i) s) ≡ r)
    (t : Bool) (many : ℕ) (few : many ≡ min 126 (count - 126 * i))
    (b : List ℕ) (at : b ≡ block_at i s) (this : t ≡ block_shaped (i + 1) many b) where
  shaped_here : (t && blocks_shaped (m - (i + 1)) (i + 1 + 1) (count - 126 * (i + 1)) (drop (512 * (i + 1)) s)) ≡ r
  shaped_here = rw (this, few, at) (sym (shaped_turn m i h count s) ∙ e)

  pub shaped_off : t ≡ false → false ≡ r
  shaped_off f = sym (ap (λ b. b && blocks_shaped (m - (i + 1)) (i + 1 + 1) (count - 126 * (i + 1)) (drop (512 * (i + 1)) s)) f) ∙ shaped_here

  pub shaped_on : t ≡ true → blocks_shaped (m - (i + 1)) (i + 1 + 1) (count - 126 * (i + 1)) (drop (512 * (i + 1)) s) ≡ r
  shaped_on f = sym (ap (λ b. b && blocks_shaped (m - (i + 1)) (i + 1 + 1) (count - 126 * (i + 1)) (drop (512 * (i + 1)) s)) f) ∙ shaped_here

pub shaped_end : (m i a b : ℕ) (s : List ℕ) → m ≤ i → blocks_shaped (m - i) a b s ≡ true
unfolding blocks_shaped
shaped_end m i a b s h = let e : m - i ≡ 0 = omega arith in rw e

pub row-length : (k count : ℕ) (s row : List ℕ) → count ≤ 504 → row ≡ pad 504 (take k (cells_in (blocks_for count) count s)) → length row ≡ 504
row-length k count s row h e =
    let all : List ℕ = cells_in (blocks_for count) count s in
    ap length e ∙ pad-length 504 (take k all) (omega (arith, length-take k all, cells-length (blocks_for count) count s (omega arith)))

-- the cells of the cell blocks
module _ (i count : ℕ) (s row : List ℕ) (h : i < blocks_for count) (c : count ≤ 504)
    (e : row ≡ pad 504 (take (126 * i) (cells_in (blocks_for count) count s))) (to : ℕ) (last : to ≡ min (126 * i + 126) count) where
  wide : length row ≡ 504
  wide = row-length (126 * i) count s row c e

  abbrev part : List ℕ
  part = take (to - 126 * i) (drop (126 * i) row)

  part_length : length part ≡ min 126 (count - 126 * i)
  part_length = length-take-le (to - 126 * i) (drop (126 * i) row) (rw length-drop (omega (arith, wide))) ∙ omega arith

  pub cells_part : 4 + 4 * length part ≤ 512
  cells_part = rw part_length (omega arith)

  pub cells_turn : (b ys : List ℕ) → b ≡ block_at i s → ys ≡ numbers_in (length part) (drop 4 b)
      → take (126 * i) row ++ (ys ++ drop (to - 126 * i) (drop (126 * i) row)) ≡ pad 504 (take (126 * (i + 1)) (cells_in (blocks_for count) count s))
  cells_turn b ys at q =
      let m : ℕ = blocks_for count in
      let all : List ℕ = cells_in m count s in
      let n : ℕ = min 126 (count - 126 * i) in
      let before : length (take (126 * i) all) ≡ 126 * i = length-take-le (126 * i) all (omega (arith, cells-length m count s (omega arith))) in
      let left : m - i ≡ suc (m - (i + 1)) = omega arith in
      let here : take 126 (drop (126 * i) all) ≡ numbers_in n (drop 4 (block_at i s)) =
      ap (take 126) (cells_at i m count s (omega arith) ∙ ap (λ k. cells_in k (count - 126 * i) (drop (512 * i) s)) left)
      ∙ cells_front (m - (i + 1)) (count - 126 * i) (drop (512 * i) s) in
      let is : ys ≡ take 126 (drop (126 * i) all) = q ∙ ap₂ (λ k l. numbers_in k (drop 4 l)) part_length at ∙ sym here in
      let many : length ys ≡ to - 126 * i = ap length (is ∙ here) ∙ numbers-length n (drop 4 (block_at i s)) ∙ omega arith in
      let next : 126 * (i + 1) ≡ 126 * i + 126 = omega arith in
      mid_placed row ys (126 * i) (to - 126 * i) many
      ∙ ap₂ (λ r k. placed r k ys) e (sym before)
      ∙ placed-after 504 (take (126 * i) all) ys
      ∙ ap (λ l. pad 504 (take (126 * i) all ++ l)) is
      ∙ ap (pad 504) (sym (ap (λ k. take k all) next ∙ take-add (126 * i) 126 all))

pub cells_end : (i count : ℕ) (s : List ℕ) → blocks_for count ≤ i
    → pad 504 (take (126 * i) (cells_in (blocks_for count) count s)) ≡ pad 504 (cells_in (blocks_for count) count s)
cells_end i count s h =
    ap (pad 504) (take_all (126 * i) (cells_in (blocks_for count) count s) (omega (arith, cells-length (blocks_for count) count s (omega arith))))

-- the cell blocks as they are written
module _ (i : ℕ) (xs room w : List ℕ) (m : ℕ) (h : i < m) (l : 512 * i + 512 ≤ length room)
    (e : take (512 * i) room ++ cell_blocks (m - i) (i + 1) (drop (126 * i) xs) ≡ w) where
  pub blocks_turn : (part ys : List ℕ) → part ≡ take 126 (drop (126 * i) xs) → ys ≡ sealed (body_of (i + 1) part)
      → take (512 * (i + 1)) (take (512 * i) room ++ (ys ++ drop (512 * i + 512 - 512 * i) (drop (512 * i) room)))
      ++ cell_blocks (m - (i + 1)) (i + 1 + 1) (drop (126 * (i + 1)) xs) ≡ w
  blocks_turn part ys f q =
      let tail : List ℕ = cell_blocks (m - (i + 1)) (i + 1 + 1) (drop (126 * (i + 1)) xs) in
      let xs' : List ℕ = drop (126 * i) xs in
      let is : ys ≡ sealed (body_of (i + 1) (take 126 xs')) = q ∙ ap (λ t. sealed (body_of (i + 1) t)) f in
      let size : length ys ≡ 512 = ap length is ∙ one-length (i + 1) xs' in
      let front : length (take (512 * i) room ++ ys) ≡ 512 * (i + 1) = rw (length-append, length-take-le (512 * i) room (omega arith), size) (omega arith) in
      let after : List ℕ = drop (512 * i + 512 - 512 * i) (drop (512 * i) room) in
      ap (λ t. t ++ tail)
      (ap (take (512 * (i + 1))) (sym (append_assoc (take (512 * i) room) ys after)) ∙ take_at (take (512 * i) room ++ ys) after (512 * (i + 1)) front)
      ∙ append_assoc (take (512 * i) room) ys tail
      ∙ ap (λ t. take (512 * i) room ++ (t ++ tail)) is
      ∙ ap (λ t. take (512 * i) room ++ t) (sym (blocks_on m i h xs))
      ∙ e

pub blocks_end : (i m a : ℕ) (xs room w : List ℕ) → m ≤ i → length room ≤ 512 * i → take (512 * i) room ++ cell_blocks (m - i) a xs ≡ w → room ≡ w
unfolding cell_blocks
blocks_end i m a xs room w h l e =
    let z : m - i ≡ 0 = omega arith in
    sym (append-nil room) ∙ ap (λ t. t ++ []) (sym (take_all (512 * i) room l)) ∙ (rw z at e)
