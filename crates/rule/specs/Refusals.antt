-- The numbers of the refusals, and what a call answers, in their terms (RULES: Refusals). Assumes nothing: these are definitions.
use Rattle.std.specs.Prelude.{ℕ, Bool, true, false, List, [], ◌∷◌, Option, None, Some, Result, Ok, Err}
use Rattle.rule.specs.declared.refusals.Refusal.{Refusal}
use Rattle.rule.specs.declared.refusals.Refusal.TheVariants.{Settings, Range, Level, NotOne, Unequal, NoRoom, Check, Image, Line}
use Rattle.rule.specs.declared.refusals.ReadError.{ReadError}
use Rattle.rule.specs.declared.refusals.ReadError.TheVariants as read
use Rattle.rule.specs.declared.refusals.RowError.{RowError}
use Rattle.rule.specs.declared.refusals.RowError.TheVariants as row

-- a setting outside its rule
abbrev pub bad_settings : ℕ
bad_settings = 1

-- lo or from below 1, hi or from above n, or lo above hi
abbrev pub bad_range : ℕ
bad_range = 2

-- a level above the top
abbrev pub bad_level : ℕ
bad_level = 3

-- not a sketch or not a walker, or none opened yet
abbrev pub not_one : ℕ
not_one = 4

-- two sketches with a setting unequal
abbrev pub unequal : ℕ
unequal = 5

-- room shorter than the image
abbrev pub no_room : ℕ
no_room = 6

-- a block's check is wrong
abbrev pub bad_check : ℕ
bad_check = 7

-- any other fault of an image
abbrev pub bad_image : ℕ
bad_image = 8

-- a program line of no known shape
abbrev pub bad_line : ℕ
bad_line = 9

-- A call is answered, with what it tells, or refused, with its number and its place: the block for 7, the first bad stretch for a row's 2,
-- zero elsewhere.
pub data Outcome (Told : Type 0) : Type 0 where
  answered : Told → Outcome Told
  refused : ℕ → ℕ → Outcome Told

-- most calls tell whole numbers
abbrev pub Paper : Type 0
Paper = Outcome (List ℕ)

-- the number of each cause
abbrev pub number_of : Refusal → ℕ
number_of Settings = bad_settings
number_of Range = bad_range
number_of Level = bad_level
number_of NotOne = not_one
number_of Unequal = unequal
number_of NoRoom = no_room
number_of Check = bad_check
number_of Image = bad_image
number_of Line = bad_line

-- the cause that the image reader names, and its block
abbrev pub of_read : ReadError → Refusal
of_read read.Settings = Settings
of_read (read.Check block) = Check
of_read read.Image = Image

abbrev pub block_of : ReadError → ℕ
block_of read.Settings = 0
block_of (read.Check block) = block
block_of read.Image = 0

-- the cause that a row of stretches names, and its place
abbrev pub of_stretch : RowError → Refusal
of_stretch row.NotOne = NotOne
of_stretch (row.Range place) = Range

abbrev pub place_of : RowError → ℕ
place_of row.NotOne = 0
place_of (row.Range place) = place

-- Each case of each call's answer. The promises are put through these.

-- what a call tells by its value, or its refusal, which has no place
abbrev pub told_by : {Value : Type 0} → (Value → List ℕ) → Result Value Refusal → Paper
told_by tells (Ok value) = answered (tells value)
told_by tells (Err refusal) = refused (number_of refusal) 0

-- opening, adding, merging: done
abbrev pub of_answer : Result (Unit {0}) Refusal → Paper
of_answer r = told_by (λ done. []) r

-- the range count
abbrev pub of_counted : Result ℕ Refusal → Paper
of_counted r = told_by (λ count. count ∷ []) r

-- a hit as the values of an answer
abbrev pub hits : Option ℕ → List ℕ
hits None = []
hits (Some x) = x ∷ []

-- the next hit, and a step of the walker
abbrev pub of_found : Result (Option ℕ) Refusal → Paper
of_found r = told_by hits r

-- the image writer: the image's length
abbrev pub of_written : Result ℕ Refusal → Paper
of_written r = told_by (λ length. length ∷ []) r

-- the image reader
abbrev pub of_taken : Result (Unit {0}) ReadError → Paper
of_taken (Ok done) = answered []
of_taken (Err error) = refused (number_of (of_read error)) (block_of error)

-- a row of stretches
abbrev pub of_row : Result (Unit {0}) RowError → Paper
of_row (Ok done) = answered []
of_row (Err error) = refused (number_of (of_stretch error)) (place_of error)

-- the answer where the test holds, and otherwise the refusal of this number with this place
abbrev pub unless_at : {Told : Type 0} → Bool → ℕ → ℕ → Outcome Told → Outcome Told
unless_at true number place answer = answer
unless_at false number place answer = refused number place

-- the same with no place
abbrev pub unless : {Told : Type 0} → Bool → ℕ → Outcome Told → Outcome Told
unless test number answer = unless_at test number 0 answer
