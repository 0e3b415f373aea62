-- Images as lists: their length, and bytes with the shape of one.
--     image-small, image-length     an image is bytes, and how many
--     image_front, image-rest, image_zeros     its block 0, its cell blocks, and the zeros of block 0
--     all-length, spelled-parts, spelled-image     the sketch that bytes spell, and its image
--     rights          no check is wrong
--     shaped_back, shaped-made    bytes with right checks have the shape just when they are the image of what they say
--     mark-bytes      the mark as four bytes, and as a number
-- Assumes nothing.
use Prim.Native.Nat.{ℕ, suc, ◌+◌, ◌*◌, ◌-◌, ◌^◌, ◌<◌, ◌≤◌}
use mathlib.Core.Path.{◌≡◌, sym, ap, ap₂, ◌∙◌}
use mathlib.Core.Bool.{Bool, true, not, ◌&&◌, and-eq-true_iff}
use mathlib.Core.Logic.{⊎_elim}
use mathlib.Core.List.{List, ◌++◌}
use native.Mathlib.Omega.{arith}
use lib.ListN.{length, take, drop, replicate, length-append, length-drop, take-append-drop}
use lib.Dec.{eqb, lit≤, lit<}
use Prim.{tt}
use lib.Seq.{take_at, drop_at, length-take-le, take_all, take-append_seam, take-append-le, drop-append-le}
use borrow.Author.Tests.{eqb-true, eq-eqb, not-false}
use Rattle.lists.specs.Lists.{same}
use Rattle.lists.specs.Rows.{pad, all_zero}
use Rattle.lists.proofs.Tests.{same_test, tested}
use Rattle.lists.proofs.Searches.{least-least}
use Rattle.lists.proofs.Same.{same_true, same_self}
use Rattle.rule.specs.declared.Settings.{Settings}
use Rattle.block.specs.Little.{Bytes, bytes_of, number_of, number_at}
use Rattle.block.specs.Sums.{block_good, sealed}
use Rattle.block.proofs.Numbers.{append-small, take-small, drop-small, number-bytes, bytes-number, number_front}
use Rattle.block.proofs.Blocks.{sealed-length, sealed-small}
use Rattle.sketch.specs.Sketches.{held, sketch_at, cells_of}
use Rattle.layout.specs.Images.{mark, fields_end, head_with, blocks_for, cell_blocks, image_with, image_as}
use Rattle.layout.specs.Images.{image_of, said_settings, said_level, said_count, cells_in, all_cells, spelled}
use Rattle.layout.specs.Shapes.{span, Blocks, block_at, blocks_in, first_wrong, blocks_shaped, shaped}
use Rattle.layout.proofs.Bodies.{head_length, head_small, head_zeros, head_back}
use Rattle.layout.proofs.Chains.{blocks-length, blocks-small, cells-length, made_shaped, block_next, blocks_back}

-- an image with any mark, and whatever follows the fields
module _ (m : ℕ) (tail : List ℕ) (s : Settings) (level : ℕ) (xs : List ℕ) where
  abbrev head : List ℕ
  head = head_with m tail s level (length xs)

  abbrev blocks : List ℕ
  blocks = cell_blocks (blocks_for (length xs)) 1 xs

  pub image-small : Bytes tail → Bytes (image_with m tail s level xs)
  unfolding image_with
  image-small b = append-small (sealed head) blocks (sealed-small head (head_small m s level (length xs) tail b)) (blocks-small (blocks_for (length xs)) 1 xs)

  module _ (h : fields_end + length tail ≤ 508) where
    head_size : length (sealed head) ≡ 512
    head_size = sealed-length head (head_length m s level (length xs) tail h)

    pub image-length : length (image_with m tail s level xs) ≡ 512 * (1 + blocks_for (length xs))
    unfolding image_with
    image-length = rw (length-append, head_size, blocks-length (blocks_for (length xs)) 1 xs) (omega arith)

    pub image_front : take 512 (image_with m tail s level xs) ≡ sealed head
    unfolding image_with
    image_front = take_at (sealed head) blocks 512 head_size

    pub image-rest : drop 512 (image_with m tail s level xs) ≡ blocks
    unfolding image_with
    image-rest = drop_at (sealed head) blocks 512 head_size

    pub image_zeros : all_zero (span (fields_end + length tail) 508 (image_with m tail s level xs)) ≡ true
    unfolding image_with
    image_zeros = head_zeros m tail s level (length xs) blocks h

-- the sketch that bytes spell

module _ (s : List ℕ) where
  pub all-length : length (all_cells s) ≡ said_count s
  unfolding all_cells
  all-length = cells-length (blocks_for (said_count s)) (said_count s) (drop 512 s) (omega arith)

  spelled_is : spelled s ≡ held (said_settings s) (said_level s) (said_count s) (pad 504 (all_cells s))
  unfolding spelled sketch_at
  spelled_is = ap (λ n. held (said_settings s) (said_level s) n (pad 504 (all_cells s))) all-length

  -- read part by part
  pub spelled-parts : (f : Settings) (level count : ℕ) (row : List ℕ) → f ≡ said_settings s → level ≡ said_level s → count ≡ said_count s
      → row ≡ pad 504 (cells_in (blocks_for count) count (take (length s - 512) (drop 512 s))) → held f level count row ≡ spelled s
  unfolding all_cells
  spelled-parts f level count row a b c e =
      let rest : take (length s - 512) (drop 512 s) ≡ drop 512 s = take_all (length s - 512) (drop 512 s) (rw length-drop (omega arith)) in
      let cells = rw (rest, c) at e in
      rw (a, b, cells, c) (sym spelled_is)

  pub spelled-image : image_of (spelled s) ≡ image_as (said_settings s) (said_level s) (all_cells s)
  unfolding image_of spelled sketch_at cells_of
  spelled-image = ap (image_as (said_settings s) (said_level s)) (take-append_seam (all_cells s) (replicate (504 - length (all_cells s)) 0))

-- no check is wrong
pub rights : (s : List ℕ) → first_wrong s ≡ blocks_in s → (j : ℕ) → j < blocks_in s → block_good (block_at j s) ≡ true
unfolding first_wrong
rights s e j h =
    let q : ℕ → Bool = λ i. not (block_good (block_at i s)) in
    ⊎_elim
    (λ t. absurd (omega (arith, least-least q (blocks_in s) 0 j (omega arith) t)))
    (λ t. not-false (block_good (block_at j s)) t)
    (tested (q j))

-- the fields of block 0 don't depend on the blocks after it
module _ (a t : List ℕ) (len : length a ≡ 512) where
  settings_front : said_settings (a ++ t) ≡ said_settings a
  unfolding said_settings
  settings_front =
      let four : (i : ℕ) → i + 4 ≤ 512 → number_at 4 i (a ++ t) ≡ number_at 4 i a = λ i h. number_front 4 i a t (omega arith) in
      rw (four 4 (lit≤ tt), four 8 (lit≤ tt), four 12 (lit≤ tt), four 16 (lit≤ tt), number_front 2 20 a t (omega arith))

  level_front : said_level (a ++ t) ≡ said_level a
  unfolding said_level
  level_front = number_front 2 22 a t (omega arith)

  count_front : said_count (a ++ t) ≡ said_count a
  unfolding said_count
  count_front = number_front 2 24 a t (omega arith)

  mark_front : number_at 4 0 (a ++ t) ≡ number_at 4 0 a
  mark_front = number_front 4 0 a t (omega arith)

  span_front : (i e : ℕ) → i ≤ e → e ≤ 508 → span i e (a ++ t) ≡ span i e a
  span_front i e h l = ap (take (e - i)) (drop-append-le i a t (omega arith)) ∙ take-append-le (e - i) (drop i a) t (rw length-drop (omega arith))

  front_back : Bytes a → block_good a ≡ true → (tail : List ℕ) → fields_end + length tail ≤ 508 → take (length tail) (drop fields_end (a ++ t)) ≡ tail
      → all_zero (span (fields_end + length tail) 508 (a ++ t)) ≡ true
      → a ≡ sealed (head_with (number_at 4 0 (a ++ t)) tail (said_settings (a ++ t)) (said_level (a ++ t)) (said_count (a ++ t)))
  front_back small good tail h e z =
      let n : fields_end + length tail - fields_end ≡ length tail = omega arith in
      let follows : take (length tail) (drop fields_end a) ≡ tail = sym (rw n at (span_front fields_end (fields_end + length tail) (omega arith) h)) ∙ e in
      rw (mark_front, settings_front, level_front, count_front)
      (head_back a len small good tail h follows (ap all_zero (sym (span_front (fields_end + length tail) 508 h (omega arith))) ∙ z))

-- bytes with right checks, and the bytes that follow the fields
module _ (s : List ℕ) (b : Blocks s) (small : Bytes s) (right : first_wrong s ≡ blocks_in s) (tail : List ℕ) (fits : fields_end + length tail ≤ 508) where
  split : take 512 s ++ drop 512 s ≡ s
  split = take-append-drop 512 s

  abbrev whole : List ℕ
  whole = image_with (number_at 4 0 s) tail (said_settings s) (said_level s) (all_cells s)

  -- with the shape of an image they are the one of what they say
  pub shaped_back : take (length tail) (drop fields_end s) ≡ tail → shaped (fields_end + length tail) s ≡ true → s ≡ whole
  unfolding shaped image_with all_cells
  shaped_back f e =
      let ok = (and-eq-true_iff _ _).0 e in
      let more = (and-eq-true_iff _ _).0 ok.1 in
      let m : ℕ = blocks_for (said_count s) in
      let n : blocks_in s ≡ 1 + m = eqb-true _ _ ok.0 in
      let good : (j : ℕ) → j < blocks_in s → block_good (block_at j s) ≡ true = rights s right in
      let len : length (take 512 s) ≡ 512 = length-take-le 512 s b.some in
      let head : take 512 s ≡ sealed (head_with (number_at 4 0 s) tail (said_settings s) (said_level s) (said_count s)) =
      rw split at (front_back (take 512 s) (drop 512 s) len (take-small 512 s small) (good 0 (omega arith)) tail fits (rw split f) (rw split more.0)) in
      let rest : drop 512 s ≡ cell_blocks m 1 (cells_in m (said_count s) (drop 512 s)) =
      blocks_back m 1 (said_count s) (drop 512 s) (rw length-drop (omega arith)) (drop-small 512 s small)
      (λ j h. rw (block_next j s) (good (suc j) (omega arith))) more.1 in
      rw (all-length s) (sym split ∙ ap₂ ◌++◌ head rest)

  -- and the image has the shape
  pub shaped-made : s ≡ whole → shaped (fields_end + length tail) s ≡ true
  unfolding shaped
  shaped-made e =
      let m : ℕ = blocks_for (said_count s) in
      let l : length s ≡ 512 * (1 + m) = ap length e ∙ image-length _ tail _ _ (all_cells s) fits ∙ ap (λ k. 512 * (1 + blocks_for k)) (all-length s) in
      let rest : drop 512 s ≡ cell_blocks m 1 (all_cells s) =
      ap (drop 512) e ∙ image-rest _ tail _ _ (all_cells s) fits ∙ ap (λ k. cell_blocks (blocks_for k) 1 (all_cells s)) (all-length s) in
      ap₂ ◌&&◌ (eq-eqb (blocks_in s) (1 + m) (omega arith))
      (ap₂ ◌&&◌ (ap (λ x. all_zero (span (fields_end + length tail) 508 x)) e ∙ image_zeros _ tail _ _ (all_cells s) fits)
      (ap (blocks_shaped m 1 (said_count s)) rest ∙ made_shaped m 1 (said_count s) (all_cells s) (all-length s) (omega (arith, b.few))))

mark-small : mark < 256 ^ 4
unfolding mark number_of
mark-small = lit< tt

-- bytes begin with those of the mark just where they begin with its number
pub mark-bytes : (s : List ℕ) → Bytes s → 4 ≤ length s → eqb (number_at 4 0 s) mark ≡ same (take 4 s) (bytes_of 4 mark)
mark-bytes s b l =
    let n : length (take 4 s) ≡ 4 = length-take-le 4 s l in
    let back : bytes_of 4 (number_at 4 0 s) ≡ take 4 s =
    ap (λ k. bytes_of k (number_at 4 0 s)) (sym n) ∙ bytes-number (take 4 s) (take-small 4 s b) in
    same_test _ _
    (λ e. ap (λ t. same t (bytes_of 4 mark)) (sym back ∙ ap (bytes_of 4) (eqb-true (number_at 4 0 s) mark e)) ∙ same_self (bytes_of 4 mark))
    (λ e. eq-eqb (number_at 4 0 s) mark (ap number_of (same_true (take 4 s) (bytes_of 4 mark) e) ∙ number-bytes 4 mark mark-small))
