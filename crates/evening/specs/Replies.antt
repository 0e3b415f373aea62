-- What a line is answered, and the pot after it. Assumes nothing: these are definitions.
use Rattle.std.specs.Prelude.{ℕ, ◌+◌, ◌≤◌, ◌≡◌, cond, List, [], ◌∷◌, eqb, length, get_or, Option, Some, None, IfSome, Result}
use Rattle.lists.specs.Rows.{Stored}
use Rattle.rule.specs.declared.Settings.{Settings}
use Rattle.rule.specs.declared.refusals.Refusal.{Refusal}
use Rattle.rule.specs.Refusals.{Paper, answered, refused, not_one, bad_line}
use Rattle.find.specs.Finding.{count_on, next_on}
use Rattle.sketch.specs.declared.Sketch.{Sketch}
use Rattle.sketch.specs.Sketches.{Sound, opened, add}
use Rattle.sketch.specs.Calls.{open_on, add_on}
use Rattle.sketch.specs.Estimates.{stands_at}
use Rattle.line.specs.declared.commands.Answer.{Answer}
use Rattle.line.specs.declared.commands.Command.{Command}
use Rattle.line.specs.declared.commands.Command.TheVariants as command
use Rattle.line.specs.Lines.{command_of}
use Rattle.line.specs.Texts.{text_kept, text_exact, text_about, text_count, text_cell, text_none, text_refusal, text_of}

-- the open sketch, once one has been opened
abbrev pub Pot : Type 0
Pot = Option Sketch

-- no sketch is open yet
abbrev pub no_pot : Pot
no_pot = None

-- a sketch is open
abbrev pub pot_of : Sketch → Pot
pot_of k = Some k

-- what is open is a sketch
abbrev pub Sits : Pot → Type 0
Sits pot = IfSome pot Sound

-- an answer's text, with its newline, and the pot after it
pub record Reply : Type 0 where
  pub text : List ℕ
  pub pot : Pot

-- `R number`; the pot stays
abbrev pub refusal : Pot → ℕ → Reply
refusal pot number = record { text = text_refusal number; pot = pot }

-- `K level cells`, of the sketch that is open from now on
abbrev pub kept : Sketch → Reply
kept k = record { text = text_kept k.level k.count; pot = pot_of k }

-- any text; the pot stays
abbrev pub says : Pot → List ℕ → Reply
says pot text = record { text = text; pot = pot }

-- `E exact v` at level 0, and `E about v` above it, in whole numbers
abbrev pub estimate_text : Settings → ℕ → ℕ → List ℕ
estimate_text settings level count = cond (eqb level 0) (text_exact count) (text_about (stands_at settings level count))

-- `C v`
abbrev pub count_text : List ℕ → List ℕ
count_text values = text_count (get_or values 0 0)

-- `N cell`, or `N none`
abbrev pub cell_text : List ℕ → List ℕ
cell_text [] = text_none
cell_text (x ∷ xs) = text_cell x

-- what is told of the open sketch; the number 4 before any other where none is open
abbrev pub when_open : Pot → (Sketch → List ℕ) → List ℕ
when_open None text = text_refusal not_one
when_open (Some k) text = text k

-- a paper's text: that of the values, or `R number`
abbrev pub paper_text : Paper → (List ℕ → List ℕ) → List ℕ
paper_text (answered values) text = text values
paper_text (refused number place) text = text_refusal number

-- a paper's reply: the sketch is kept, or the refusal
abbrev pub kept_if : Pot → Paper → Sketch → Reply
kept_if pot (answered values) k = kept k
kept_if pot (refused number place) k = refusal pot number

-- S opens and replaces the sketch if its settings are good
abbrev pub open_reply : Pot → Settings → Reply
open_reply pot s = kept_if pot (open_on s) (opened s)

-- A adds
abbrev pub add_reply : Pot → ℕ → ℕ → Reply
add_reply None lo hi = refusal None not_one
add_reply (Some k) lo hi = kept_if (Some k) (add_on k lo hi) (add k lo hi)

-- E estimates; what it tells, and its reply
abbrev pub estimate_told : Pot → List ℕ
estimate_told pot = when_open pot (λ k. estimate_text k.settings k.level k.count)

abbrev pub estimate_reply : Pot → Reply
estimate_reply pot = says pot (estimate_told pot)

-- C counts and N finds, both with the open settings; what they tell, and their replies
abbrev pub count_told : Pot → ℕ → ℕ → ℕ → List ℕ
count_told pot level lo hi = when_open pot (λ k. paper_text (count_on k.settings level lo hi) count_text)

abbrev pub count_reply : Pot → ℕ → ℕ → ℕ → Reply
count_reply pot level lo hi = says pot (count_told pot level lo hi)

abbrev pub next_told : Pot → ℕ → ℕ → List ℕ
next_told pot level from = when_open pot (λ k. paper_text (next_on k.settings level from) cell_text)

abbrev pub next_reply : Pot → ℕ → ℕ → Reply
next_reply pot level from = says pot (next_told pot level from)

-- the reply to each command, and to a line of no known shape (RULES: Program)
unfoldable pub reply_to : Pot → Option Command → Reply
reply_to pot (Some (command.Settings s)) = open_reply pot s
reply_to pot (Some (command.Add lo hi)) = add_reply pot lo hi
reply_to pot (Some command.Estimate) = estimate_reply pot
reply_to pot (Some (command.Count level lo hi)) = count_reply pot level lo hi
reply_to pot (Some (command.Next level from)) = next_reply pot level from
reply_to pot None = refusal pot bad_line

-- the reply to a line without its newline
unfoldable pub reply_of : Pot → List ℕ → Reply
reply_of pot line = reply_to pot (command_of line)

-- an answer or a refusal has a reply's text, and the pot is the reply's
pub record Replies (reply : Reply) (answer : Result Answer Refusal) (after : Pot) : Type 0 where
  pub text : text_of answer ≡ reply.text
  pub pot : after ≡ reply.pot

-- what a call that answers takes: room for any answer
abbrev pub Room : List ℕ → ℕ → Type 0
Room row at = at + 40 ≤ length row

-- what it promises: the text is stored from a place on, and the pot is the next one
pub record Tells (row : List ℕ) (at : ℕ) (reply : Reply) (out : List ℕ) (after : Pot) (next : ℕ) : Type 0 where
  pub stored : Stored row at reply.text next out
  pub pot : after ≡ reply.pot
