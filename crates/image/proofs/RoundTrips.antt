-- The round trips of images, and that the promises are tight.
--     image-bytes     an image is bytes; `sketch-length` in `layout`, Limits, says how many
--     read_back       reading the image of a sketch gives that sketch
--     write_back      an accepted image, written out again, gives the same bytes
--     one-image       no two sketches have the same image
--     write_tight, read_tight     two outcomes that a promise allows coincide
-- Assumes nothing.
use Prim.Native.Nat.{ℕ, zero, suc, ◌+◌, ◌*◌, ◌%◌, ◌<◌, ◌≤◌}
use mathlib.Core.Path.{◌≡◌, refl, sym, ap, ap₂, ◌∙◌}
use mathlib.Core.Bool.{Bool, true, false, not, cond, ◌&&◌, and-eq-true_iff}
use mathlib.Core.List.{List, []}
use native.Mathlib.Omega.{arith}
use lib.Dec.{ltb, lit<, lit≤}
use Prim.{tt}
use lib.ListN.{length, drop}
use borrow.Author.Tests.{le-leb, eq-eqb, le-ltb}
use Rattle.lists.specs.Lists.{same}
use Rattle.lists.specs.Searches.{least}
use Rattle.lists.proofs.Same.{same_true, same_self}
use Rattle.std.specs.Prelude.{Result}
use Rattle.rule.specs.declared.refusals.Refusal.{Refusal}
use Rattle.rule.specs.declared.refusals.ReadError.{ReadError}
use Rattle.rule.specs.Rule.{is_good}
use Rattle.rule.specs.Refusals.{Paper, answered, refused, unless, bad_settings, bad_check, bad_image}
use Rattle.rule.proofs.Facts.{facts_good}
use Rattle.rule.proofs.Readings.{written_one, taken-one}
use Rattle.find.proofs.Checks.{unless-told}
use Rattle.block.specs.Little.{Bytes, number_of, number_at}
use Rattle.block.specs.Sums.{block_good}
use Rattle.block.proofs.Blocks.{sealed-good}
use Rattle.sketch.specs.declared.Sketch.{Sketch}
use Rattle.sketch.specs.Sketches.{cells_of, is_sketch, Sound}
use Rattle.sketch.proofs.Facts.{sketch_facts, facts_sketch}
use Rattle.sketch.specs.declared.Changed.{Changed}
use Rattle.layout.specs.Images.{mark, head_with, blocks_for, cell_blocks, image_with, image_of, said_settings, said_level, said_count, all_cells, spelled}
use Rattle.layout.specs.Shapes.{block_at, blocks_in, first_wrong}
use Rattle.image.specs.Calls.{right_length, marked, is_image, read_marked, read_on, Writes, Reads}
use Rattle.layout.proofs.Bodies.{head_length, head_mark, head_settings, head_level, head_count}
use Rattle.layout.proofs.Chains.{made_cells, made-good, block_next}
use Rattle.layout.proofs.Limits.{few, narrow, low, fours}
use Rattle.layout.proofs.Spelling.{mark-bytes, image-length, image-small, image_front, image-rest}

-- a search that finds nothing
least-none : (q : ℕ → Bool) (k m : ℕ) → ((j : ℕ) → m ≤ j → j < m + k → q j ≡ false) → least q k m ≡ m + k
least-none q zero m f = omega arith
least-none q (suc k) m f =
    let h : q m ≡ false = f m (omega arith) (omega arith) in
    ap (λ t. cond t m (least q k (suc m))) h ∙ least-none q k (suc m) (λ j a b. f j (omega arith) (omega arith)) ∙ omega arith

pub image-bytes : (k : Sketch) → Bytes (image_of k)
unfolding image_of
image-bytes k = image-small mark [] k.settings k.level (cells_of k) (λ i. lit< tt)

module _ (k : Sketch) (w : Sound k) where
  abbrev xs : List ℕ
  xs = cells_of k

  whole : length (image_of k) ≡ 512 * (1 + blocks_for (length xs))
  unfolding image_of
  whole = image-length mark [] k.settings k.level xs (lit≤ tt)

  rest : drop 512 (image_of k) ≡ cell_blocks (blocks_for (length xs)) 1 xs
  unfolding image_of
  rest = image-rest mark [] k.settings k.level xs (lit≤ tt)

  said_settings_lem : said_settings (image_of k) ≡ k.settings
  unfolding image_of image_with
  said_settings_lem = head_settings mark [] k.settings k.level (length xs) (cell_blocks (blocks_for (length xs)) 1 xs) (narrow k w)

  said_level_lem : said_level (image_of k) ≡ k.level
  unfolding image_of image_with
  said_level_lem = head_level mark [] k.settings k.level (length xs) (cell_blocks (blocks_for (length xs)) 1 xs) (low k w)

  said_count_lem : said_count (image_of k) ≡ length xs
  unfolding image_of image_with
  said_count_lem = head_count mark [] k.settings k.level (length xs) (cell_blocks (blocks_for (length xs)) 1 xs) (omega (arith, few k w))

  said_cells : all_cells (image_of k) ≡ xs
  unfolding all_cells
  said_cells =
      rw (said_count_lem, rest)
      (made_cells (blocks_for (length xs)) 1 (length xs) xs refl (omega arith) (fours k w))

  spells : spelled (image_of k) ≡ k
  unfolding spelled
  spells = rw (said_settings_lem, said_level_lem, said_cells) (sym w.made)

  lengths : right_length (length (image_of k)) ≡ true
  unfolding right_length
  lengths =
      let n : length (image_of k) ≡ 512 * (1 + blocks_for (length xs)) = whole in
      ap₂ ◌&&◌ (le-leb 1 (length (image_of k)) (omega arith))
      (ap₂ ◌&&◌ (le-leb (length (image_of k)) 2560 (omega (arith, few k w))) (eq-eqb (length (image_of k) % 512) 0 (omega arith)))

  blocks : blocks_in (image_of k) ≡ 1 + blocks_for (length xs)
  blocks = let n : length (image_of k) ≡ 512 * (1 + blocks_for (length xs)) = whole in omega arith

  first_good : block_good (block_at 0 (image_of k)) ≡ true
  unfolding image_of
  first_good =
      ap block_good (image_front mark [] k.settings k.level xs (lit≤ tt))
      ∙ sealed-good (head_with mark [] k.settings k.level (length xs)) (head_length mark k.settings k.level (length xs) [] (lit≤ tt))

  all-good : (j : ℕ) → j < blocks_in (image_of k) → block_good (block_at j (image_of k)) ≡ true
  all-good zero h = first_good
  all-good (suc j) h = rw (← block_next j (image_of k), rest) (made-good (blocks_for (length xs)) 1 j xs (omega (arith, blocks)))

  none_wrong : first_wrong (image_of k) ≡ blocks_in (image_of k)
  unfolding first_wrong
  none_wrong = least-none (λ i. not (block_good (block_at i (image_of k)))) (blocks_in (image_of k)) 0 (λ j a b. ap not (all-good j (omega arith))) ∙ omega arith

  says-mark : number_at 4 0 (image_of k) ≡ mark
  unfolding mark number_of image_of image_with
  says-mark = head_mark mark [] k.settings k.level (length xs) (cell_blocks (blocks_for (length xs)) 1 xs) (lit< tt)

  begins : marked (image_of k) ≡ true
  unfolding marked image_of
  begins =
      let n : length (image_of k) ≡ 512 * (1 + blocks_for (length xs)) = whole in
      sym (mark-bytes (image_of k) (image-bytes k) (omega arith)) ∙ eq-eqb (number_at 4 0 (image_of k)) mark says-mark

  is_image_lem : is_image (image_of k) ≡ true
  unfolding is_image
  is_image_lem = rw spells (ap₂ ◌&&◌ (facts_sketch k w) (same_self (image_of k)))

  accepted : read_on (image_of k) ≡ answered []
  unfolding read_on read_marked
  accepted =
      let right = le-ltb (first_wrong (image_of k)) (blocks_in (image_of k)) (omega (arith, none_wrong)) in
      rw (lengths, right, begins, said_settings_lem, facts_good k.settings w.settings, is_image_lem)

pub read_back : (k : Sketch) → is_sketch k ≡ true → (read_on (image_of k) ≡ answered []) × (spelled (image_of k) ≡ k)
read_back k e = (accepted k (sketch_facts k e), spells k (sketch_facts k e))

pub one-image : (j k : Sketch) → is_sketch j ≡ true → is_sketch k ≡ true → image_of j ≡ image_of k → j ≡ k
one-image j k a b e = sym (read_back j a).1 ∙ ap spelled e ∙ (read_back k b).1

-- an answer isn't a refusal
cond_done : (t : Bool) (number place : ℕ) (p : Paper) → cond t (refused number place) p ≡ answered [] → p ≡ answered []
cond_done true number place p e = let z : ◌≡◌ {A = ℕ} 0 1 = cc in absurd (omega arith)
cond_done false number place p e = e

pub write_back : (s : List ℕ) → read_on s ≡ answered [] → (image_of (spelled s) ≡ s) × (is_sketch (spelled s) ≡ true)
unfolding read_on read_marked is_image
write_back s e =
    let p : Paper = unless (marked s) bad_image (read_marked s) in
    let wrong : Bool = ltb (first_wrong s) (blocks_in s) in
    let a = (unless-told (right_length (length s)) bad_image (cond wrong (refused bad_check (first_wrong s)) p) [] e).1 in
    let b = (unless-told (marked s) bad_image (read_marked s) [] (cond_done wrong bad_check (first_wrong s) p a)).1 in
    let g = (unless-told (is_good (said_settings s)) bad_settings (unless (is_image s) bad_image (answered [])) [] b).1 in
    let c = (unless-told (is_image s) bad_image (answered []) [] g).0 in
    let h = (and-eq-true_iff (is_sketch (spelled s)) (same s (image_of (spelled s)))).0 c in
    (sym (same_true s (image_of (spelled s)) h.1), h.0)

pub write_tight : (k : Sketch) (room : List ℕ) (q r : Result ℕ Refusal) (a b : List ℕ) → Writes k room q a → Writes k room r b → (q ≡ r) × (a ≡ b)
write_tight k room q r a b f g = (written_one q r (f.answer ∙ sym g.answer), f.contents ∙ sym g.contents)

pub read_tight : (s : List ℕ) (q r : Changed ReadError) → Reads s q → Reads s r → q ≡ r
read_tight s q r f g =
    ap₂ (λ t k. record { answer = t; sketch = k }) (taken-one q.answer r.answer (f.answer ∙ sym g.answer)) (f.sketch ∙ sym g.sketch)
