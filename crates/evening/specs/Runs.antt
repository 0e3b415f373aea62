-- The run over the bytes of an input, in pieces and whole. Assumes nothing: these are definitions.
use Rattle.std.specs.Prelude.{ℕ, suc, ◌+◌, ◌-◌, ◌≤◌, ◌≡◌, cond, List, [], ◌∷◌, ◌++◌, eqb, leb, ltb, length, take, set, replicate}
use Prim.Native.Char.{code}
use Rattle.lists.specs.Rows.{Stored}
use Rattle.evening.specs.declared.Evening.{Evening}
use Rattle.evening.specs.declared.Fed.{Fed}
use Rattle.evening.specs.Replies.{Pot, no_pot, Sits, reply_of}

-- before the first byte
abbrev pub beginning : Evening
beginning = record { pot = no_pot; length = 0; line = replicate 65 0 }

-- the line so far: its first 65 bytes, which tell an overlong line from any other
abbrev pub line_of : Evening → List ℕ
line_of s = take s.length s.line

-- an evening that came from the beginning: what is open is a sketch, and the line is in its places
pub record Sitting (s : Evening) : Type 0 where
  pub pot : Sits s.pot
  pub short : s.length ≤ 65

-- an evening, and what was written on the way to it
pub record Run : Type 0 where
  pub evening : Evening
  pub output : List ℕ

-- a byte of the line
abbrev pub lengthened : Evening → ℕ → Evening
lengthened s x = record { pot = s.pot; length = s.length + 1; line = set s.line s.length x }

abbrev pub noted : Evening → ℕ → Evening
noted s x = cond (ltb s.length 65) (lengthened s x) s

-- the line's end: it is answered, and the next begins
abbrev pub line_ended : Evening → Run
line_ended s = record { evening = record { pot = (reply_of s.pot (line_of s)).pot; length = 0; line = s.line }; output = (reply_of s.pot (line_of s)).text }

-- a byte: the newline, or one of the line
unfoldable pub step : Evening → ℕ → Run
step s x = cond (eqb x (code "\n")) (line_ended s) (record { evening = noted s x; output = [] })

-- one run after another
abbrev pub after : Run → Run → Run
after a b = record { evening = b.evening; output = a.output ++ b.output }

-- the run over some bytes
unfoldable pub fed : Evening → List ℕ → Run
fed s [] = record { evening = s; output = [] }
fed s (x ∷ xs) = after (step s x) (fed (step s x).evening xs)

-- how many bytes are taken where there is so much room: it ends before the byte at which an answer might not have room
unfoldable pub takes : ℕ → Evening → List ℕ → ℕ
takes room s [] = 0
takes room s (x ∷ xs) = cond (leb 40 room) (suc (takes (room - length (step s x).output) (step s x).evening xs)) 0

-- what `feed` promises
pub record Feeds (s : Evening) (input row out : List ℕ) (r : Fed) : Type 0 where
  pub taken : r.taken ≡ takes (length row) s input
  pub evening : r.evening ≡ (fed s (take r.taken input)).evening
  pub stored : Stored row 0 (fed s (take r.taken input)).output r.written out

-- the answer to a last line without a newline; an empty rest is no line
unfoldable pub rest : Evening → List ℕ
rest s = cond (eqb s.length 0) [] (reply_of s.pot (line_of s)).text

-- the lines of an input after the bytes of a first one: each ends before a newline, and a last line without one counts
abbrev pub lines_from : List ℕ → List ℕ → List (List ℕ)
lines_from line [] = cond (eqb (length line) 0) [] (line ∷ [])
lines_from line (x ∷ xs) = cond (eqb x (code "\n")) (line ∷ lines_from [] xs) (lines_from (line ++ (x ∷ [])) xs)

-- their answers, one after the other
abbrev pub answers : Pot → List (List ℕ) → List ℕ
answers pot [] = []
answers pot (line ∷ lines) = (reply_of pot line).text ++ answers (reply_of pot line).pot lines

-- what the program writes (RULES: Program)
unfoldable pub output_of : List ℕ → List ℕ
output_of input = answers no_pot (lines_from [] input)
