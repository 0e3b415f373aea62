-- What writing and reading answer, and what they leave and hand back. Assumes nothing: these are definitions.
use Rattle.std.specs.Prelude.{ℕ, ◌%◌, ◌≡◌, Bool, true, cond, ◌&&◌, List, [], ◌∷◌, Result, Ok, Err, leb, ltb, eqb, length, take}
use Rattle.lists.specs.Lists.{same}
use Rattle.lists.specs.Rows.{placed}
use Rattle.rule.specs.declared.refusals.Refusal.{Refusal}
use Rattle.rule.specs.declared.refusals.ReadError.{ReadError}
use Rattle.rule.specs.Rule.{is_good, no_settings}
use Rattle.rule.specs.Refusals.{Paper, answered, refused, unless, bad_settings, not_one, no_room, bad_check, bad_image, of_written, of_taken}
use Rattle.block.specs.Little.{Bytes, bytes_of}
use Rattle.sketch.specs.declared.Sketch.{Sketch}
use Rattle.sketch.specs.Sketches.{held, is_sketch}
use Rattle.sketch.specs.Calls.{no_sketch, handed}
use Rattle.sketch.specs.declared.Changed.{Changed}
use Rattle.image.specs.declared.Header.{Header}
use Rattle.layout.specs.Images.{mark, image_of, said_settings, spelled}
use Rattle.layout.specs.Shapes.{Blocks, blocks_in, first_wrong}

-- what writing answers to a room of so many bytes: 4, 6, or the image's length (RULES: Refusals)
unfoldable pub write_on : Sketch → ℕ → Paper
write_on k room = unless (is_sketch k) not_one (unless (leb (length (image_of k)) room) no_room (answered (length (image_of k) ∷ [])))

-- the room after a call: the image at its start, or untouched with a refusal
abbrev pub room_after : Paper → Sketch → List ℕ → List ℕ
room_after (answered values) k room = placed room 0 (image_of k)
room_after (refused number place) k room = room

-- what writing promises
pub record Writes (k : Sketch) (room : List ℕ) (r : Result ℕ Refusal) (after : List ℕ) : Type 0 where
  pub answer : of_written r ≡ write_on k (length room)
  pub contents : after ≡ room_after (write_on k (length room)) k room

-- not zero, not over 2560, a multiple of 512
unfoldable pub right_length : ℕ → Bool
right_length n = leb 1 n && (leb n 2560 && eqb (n % 512) 0)

-- the image begins with the four bytes of the mark
unfoldable pub marked : List ℕ → Bool
marked s = same (take 4 s) (bytes_of 4 mark)

-- what is known of bytes once the checks and the mark are right
pub record Checked (s : List ℕ) : Type 0 where
  pub blocks : Blocks s
  pub bytes : Bytes s
  pub right : first_wrong s ≡ blocks_in s
  pub mark : marked s ≡ true

-- bytes are the image of a sketch: of the one that they spell
unfoldable pub is_image : List ℕ → Bool
is_image s = is_sketch (spelled s) && same s (image_of (spelled s))

-- once the checks and the mark are right
unfoldable pub read_marked : List ℕ → Paper
read_marked s = unless (is_good (said_settings s)) bad_settings (unless (is_image s) bad_image (answered []))

-- what reading answers: 8 for the length, 7 with its block, 8 for the mark, 1, 8 for all else (RULES: Refusals)
unfoldable pub read_on : List ℕ → Paper
read_on s =
    unless (right_length (length s)) bad_image
    (cond (ltb (first_wrong s) (blocks_in s)) (refused bad_check (first_wrong s)) (unless (marked s) bad_image (read_marked s)))

-- an answer, and the sketch of the header's parts and a row of cells, with zeros for the header of a refusal
abbrev pub loaded_with : Result Header ReadError → List ℕ → Changed ReadError
loaded_with (Ok h) cells = record { answer = Ok record {}; sketch = held h.settings h.level h.count cells }
loaded_with (Err error) cells = record { answer = Err error; sketch = held no_settings 0 0 cells }

-- the number of the refusal of bytes with right checks and mark: 1 comes before 8
unfoldable pub fault_in : List ℕ → ℕ
fault_in s = cond (is_good (said_settings s)) bad_image bad_settings

-- an answer, and the sketch beside it: the one that the bytes spell, or the all-zero one with a refusal
pub record HandsOver (paper : Paper) (s : List ℕ) (r : Changed ReadError) : Type 0 where
  pub answer : of_taken r.answer ≡ paper
  pub sketch : r.sketch ≡ handed paper (spelled s) no_sketch

-- what reading promises
abbrev pub Reads : List ℕ → Changed ReadError → Type 0
Reads s r = HandsOver (read_on s) s r
