-- What the calls answer, case by case.
--     write_not, write_short, write_done      writing
--     read_length, read_check, read_mark, read_on_lem     reading: the refusals in order
--     marked-shape, marked-sketch, marked_done     reading, once the checks and the mark are right
--     shaped-same     bytes with right checks and the mark have the shape just when they are the image of the sketch that they spell
--     length_facts     what the test on the length says
--     shape_count, shape_zeros, shape-all, shaped-size     the tests of the shape, as code makes them, and what they say of the length
--     fault_image, fault_settings     which refusal it is
--     room_put     the image, put at the start of the room
-- Assumes nothing.
use Prim.Native.Nat.{ℕ, ◌+◌, ◌*◌, ◌-◌, ◌%◌, ◌<◌, ◌≤◌}
use mathlib.Core.Path.{◌≡◌, refl, sym, ap, ◌∙◌}
use mathlib.Core.Bool.{Bool, true, false, cond, ◌&&◌, and-eq-true_iff, and-false}
use mathlib.Core.List.{List, [], ◌∷◌, ◌++◌}
use native.Mathlib.Omega.{arith}
use Prim.{tt}
use lib.Dec.{eqb, lit≤}
use lib.ListN.{length, take, drop, replicate, length-drop}
use lib.Seq.{take_all, length-take-le}
use borrow.Author.Tests.{leb-true, eqb-true, eq-eqb, ne_eqb, le-leb, lt-leb, lt-ltb, le-ltb}
use Rattle.lists.specs.Lists.{same}
use Rattle.lists.specs.Rows.{placed, all_zero}
use Rattle.lists.proofs.Tests.{same_test}
use Rattle.lists.proofs.Same.{same_true, same_self}
use Rattle.std.specs.Prelude.{Result, Ok, Err}
use Rattle.rule.specs.declared.refusals.Refusal.{Refusal}
use Rattle.rule.specs.declared.refusals.Refusal.TheVariants.{NotOne, NoRoom}
use Rattle.rule.specs.declared.refusals.ReadError.{ReadError}
use Rattle.rule.specs.declared.refusals.ReadError.TheVariants.{Check, Image}
use Rattle.rule.specs.Rule.{is_good}
use Rattle.rule.specs.Refusals.{Paper, answered, refused, unless, bad_settings, bad_image, of_written, of_taken}
use Rattle.rule.proofs.Facts.{facts_good}
use Rattle.block.specs.Little.{number_at}
use Rattle.sketch.specs.declared.Sketch.{Sketch}
use Rattle.sketch.specs.Sketches.{sketch_at, is_sketch}
use Rattle.sketch.proofs.Facts.{sketch_facts}
use Rattle.sketch.specs.declared.Changed.{Changed}
use Rattle.layout.specs.Images.{mark, fields_end, blocks_for, image_with, image_of, said_settings, said_level, said_count, all_cells, spelled}
use Rattle.layout.specs.Shapes.{Blocks, span, blocks_in, first_wrong, blocks_shaped, shaped}
use Rattle.image.specs.Calls.{write_on, room_after, Writes, right_length, marked, Checked}
use Rattle.image.specs.Calls.{is_image, read_marked, read_on, fault_in, loaded_with, HandsOver, Reads}
use Rattle.layout.proofs.Spelling.{spelled-image, shaped_back, shaped-made, mark-bytes}

module _ (k : Sketch) (room : List ℕ) where
  writes : (p : Paper) (r : Result ℕ Refusal) (after : List ℕ) → write_on k (length room) ≡ p → of_written r ≡ p → after ≡ room_after p k room → Writes k room r after
  writes p r after e f g = record { answer = f ∙ sym e; contents = g ∙ ap (λ q. room_after q k room) (sym e) }

  pub write_not : is_sketch k ≡ false → Writes k room (Err NotOne) room
  unfolding write_on
  write_not e = writes (refused 4 0) (Err NotOne) room (rw e) refl refl

  pub write_short : is_sketch k ≡ true → length room < length (image_of k) → Writes k room (Err NoRoom) room
  unfolding write_on
  write_short e h = writes (refused 6 0) (Err NoRoom) room (rw (e, lt-leb (length (image_of k)) (length room) h)) refl refl

  pub write_done : (n : ℕ) (after : List ℕ) → is_sketch k ≡ true → n ≡ length (image_of k) → n ≤ length room → after ≡ placed room 0 (image_of k)
      → Writes k room (Ok n) after
  unfolding write_on
  write_done n after e l h f = writes (answered (n ∷ [])) (Ok n) after (rw (e, ← l, le-leb n (length room) h)) refl f

-- the right lengths
pub length_facts : (s : List ℕ) → right_length (length s) ≡ true → Blocks s
unfolding right_length
length_facts s e =
    let a = (and-eq-true_iff _ _).0 e in
    let b = (and-eq-true_iff _ _).0 a.1 in
    let one : 1 ≤ length s = leb-true _ _ a.0 in
    let most : length s ≤ 2560 = leb-true _ _ b.0 in
    let whole : length s % 512 ≡ 0 = eqb-true _ _ b.1 in
    record { some = omega arith; few = most; whole = omega arith }

-- a refusal, and a row of zeros
module _ (p : Paper) (s : List ℕ) (row : List ℕ) (zeros : row ≡ replicate 504 0) where
  hands : (error : ReadError) → of_taken (Err error) ≡ p → HandsOver p s (loaded_with (Err error) row)
  unfolding sketch_at
  hands error e = rw (← e, zeros) (record { answer = refl; sketch = refl })

module _ (s : List ℕ) (right : right_length (length s) ≡ true) (good : first_wrong s ≡ blocks_in s) (e : marked s ≡ true) where
  pub read_on_lem : (r : Changed ReadError) → HandsOver (read_marked s) s r → Reads s r
  unfolding read_on
  read_on_lem r q = rw (right, le-ltb (first_wrong s) (blocks_in s) (omega arith), e) q

module _ (s : List ℕ) (row : List ℕ) (zeros : row ≡ replicate 504 0) where
  pub read_length : right_length (length s) ≡ false → Reads s (loaded_with (Err Image) row)
  unfolding read_on
  read_length e = hands (read_on s) s row zeros Image (rw e)

  module _ (right : right_length (length s) ≡ true) where
    pub read_check : (i : ℕ) → i ≡ first_wrong s → i < blocks_in s → Reads s (loaded_with (Err (Check i)) row)
    unfolding read_on
    read_check i e l = hands (read_on s) s row zeros (Check i) (rw (right, ← e, lt-ltb i (blocks_in s) l))

    pub read_mark : first_wrong s ≡ blocks_in s → marked s ≡ false → Reads s (loaded_with (Err Image) row)
    unfolding read_on
    read_mark good e = hands (read_on s) s row zeros Image (rw (right, le-ltb (first_wrong s) (blocks_in s) (omega arith), e))

-- with the mark, and nothing after the fields: they are the image of the sketch that they spell
pub shaped-same : (s : List ℕ) → Checked s → shaped fields_end s ≡ same s (image_of (spelled s))
unfolding marked
shaped-same s c =
    let begins : number_at 4 0 s ≡ mark = eqb-true (number_at 4 0 s) mark (mark-bytes s c.bytes (omega (arith, c.blocks.some)) ∙ c.mark) in
    let is : image_with (number_at 4 0 s) [] (said_settings s) (said_level s) (all_cells s) ≡ image_of (spelled s) =
    ap (λ m. image_with m [] (said_settings s) (said_level s) (all_cells s)) begins ∙ sym (spelled-image s) in
    same_test _ _
    (λ e. ap (same s) (sym (shaped_back s c.blocks c.bytes c.right [] (lit≤ tt) refl e ∙ is)) ∙ same_self s)
    (λ e. shaped-made s c.blocks c.bytes c.right [] (lit≤ tt) (same_true s (image_of (spelled s)) e ∙ sym is))

-- no image: the fault decides
fault : (s : List ℕ) → is_image s ≡ false → read_marked s ≡ refused (fault_in s) 0
unfolding read_marked fault_in
fault s e = rw e (each (is_good (said_settings s)))
  where
    each : (t : Bool) → ◌≡◌ {A = Paper} (unless t bad_settings (refused bad_image 0)) (refused (cond t bad_image bad_settings) 0)
    each true = refl
    each false = refl

spelled-good : (s : List ℕ) → is_sketch (spelled s) ≡ true → is_good (said_settings s) ≡ true
unfolding spelled sketch_at
spelled-good s e = facts_good (said_settings s) (sketch_facts (spelled s) e).settings

module _ (s : List ℕ) (c : Checked s) (row : List ℕ) (zeros : row ≡ replicate 504 0) (error : ReadError) (q : of_taken (Err error) ≡ refused (fault_in s) 0) where
  pub marked-shape : shaped fields_end s ≡ false → HandsOver (read_marked s) s (loaded_with (Err error) row)
  unfolding is_image
  marked-shape e =
      hands (read_marked s) s row zeros error (q ∙ sym (fault s (ap (λ t. is_sketch (spelled s) && t) (sym (shaped-same s c) ∙ e) ∙ and-false (is_sketch (spelled s)))))

  pub marked-sketch : (k : Sketch) → k ≡ spelled s → is_sketch k ≡ false → HandsOver (read_marked s) s (loaded_with (Err error) row)
  unfolding is_image
  marked-sketch k f e = hands (read_marked s) s row zeros error (q ∙ sym (fault s (ap (λ t. t && same s (image_of (spelled s))) (ap is_sketch (sym f) ∙ e))))

pub marked_done : (s : List ℕ) → Checked s → (k : Sketch) → k ≡ spelled s → shaped fields_end s ≡ true → is_sketch k ≡ true
    → HandsOver (read_marked s) s (record { answer = Ok record {}; sketch = k })
unfolding read_marked is_image
marked_done s c k q e i =
    let g : is_sketch (spelled s) ≡ true = ap is_sketch (sym q) ∙ i in
    let good : is_good (said_settings s) ≡ true = spelled-good s g in
    let p : read_marked s ≡ answered [] = rw (good, g, ← shaped-same s c, e) in
    record { answer = cc; sketch = cc }

-- the tests of the shape, as code makes them
module _ (s : List ℕ) (from n : ℕ) (said : n ≡ said_count s) (m : ℕ) (blocks : m ≡ blocks_for n) where
  pub shape_count : (blocks_in s ≡ 1 + m → ⊥) → false ≡ shaped from s
  unfolding shaped
  shape_count h = rw (← said, ← blocks, ne_eqb (blocks_in s) (1 + m) h)

  module _ (right : blocks_in s ≡ 1 + m) (z : Bool) (zeros : z ≡ all_zero (span from 508 s)) where
    pub shape_zeros : z ≡ false → false ≡ shaped from s
    unfolding shaped
    shape_zeros e = rw (← said, ← blocks, eq-eqb (blocks_in s) (1 + m) right, ← zeros, e)

    pub shape-all : (r : Bool) → z ≡ true → r ≡ blocks_shaped (blocks_for n) 1 n (take (length s - 512) (drop 512 s)) → r ≡ shaped from s
    unfolding shaped
    shape-all r e q =
        let rest : take (length s - 512) (drop 512 s) ≡ drop 512 s = take_all (length s - 512) (drop 512 s) (rw length-drop (omega arith)) in
        let all : blocks_in s ≡ 1 + blocks_for n = right ∙ ap (λ k. 1 + k) blocks in
        rw (← said, eq-eqb (blocks_in s) (1 + blocks_for n) all, ← zeros, e, ← rest) q

-- the right number of blocks after block 0, which hold 504 cells at most
pub shaped-size : (s : List ℕ) (from : ℕ) → Blocks s → shaped from s ≡ true → (n : ℕ) → n ≡ said_count s
    → (length (take (length s - 512) (drop 512 s)) ≡ 512 * blocks_for n) × (n ≤ 504)
unfolding shaped
shaped-size s from b e n said =
    let m : blocks_in s ≡ 1 + blocks_for (said_count s) =
    eqb-true (blocks_in s) (1 + blocks_for (said_count s)) ((and-eq-true_iff (eqb (blocks_in s) (1 + blocks_for (said_count s))) _).0 e).0 in
    let w : length s ≡ 512 * blocks_in s = b.whole in
    let h : length s ≤ 2560 = b.few in
    (length-take-le (length s - 512) (drop 512 s) (rw length-drop (omega arith)) ∙ omega arith, omega arith)

module _ (s : List ℕ) where
  pub fault_image : is_good (said_settings s) ≡ true → fault_in s ≡ 8
  unfolding fault_in
  fault_image e = rw e

  pub fault_settings : is_good (said_settings s) ≡ false → fault_in s ≡ 1
  unfolding fault_in
  fault_settings e = rw e

-- the image at the start of the room
pub room_put : (img room : List ℕ) (n : ℕ) → n ≡ length img → img ++ drop (n - 0) room ≡ placed room 0 img
room_put img room n e = let d : n - 0 ≡ 0 + length img = omega arith in ap (λ j. img ++ drop j room) d
