-- The replies to the commands, by what the calls answer.
--     add_known       what is known to be a sketch isn't tested again
--     tells_line      the answer to a line's command, stored as text, is what the line is told
-- Assumes nothing.
use mathlib.Core.Path.{◌≡◌, ap, ◌∙◌}
use mathlib.Core.Bool.{true}
use mathlib.Core.List.{List}
use Prim.Native.Nat.{ℕ}
use Rattle.std.specs.Prelude.{Option, Result}
use Rattle.lists.specs.Rows.{Stored}
use Rattle.lists.proofs.Stores.{stored_as}
use Rattle.rule.specs.declared.refusals.Refusal.{Refusal}
use Rattle.sketch.specs.declared.Sketch.{Sketch}
use Rattle.sketch.specs.Sketches.{Sound}
use Rattle.sketch.specs.Calls.{add_when, add_on}
use Rattle.sketch.proofs.Facts.{facts_sketch}
use Rattle.line.specs.declared.commands.Answer.{Answer}
use Rattle.line.specs.declared.commands.Command.{Command}
use Rattle.line.specs.Lines.{command_of}
use Rattle.line.specs.Texts.{text_of}
use Rattle.evening.specs.Replies.{Pot, Replies, Tells, reply_to, reply_of}

pub add_known : (k : Sketch) (lo hi : ℕ) → Sound k → add_when true k.settings lo hi ≡ add_on k lo hi
unfolding add_on
add_known k lo hi w = rw (facts_sketch k w)

pub tells_line : (pot : Pot) (line : List ℕ) {row out : List ℕ} {at next : ℕ} {after : Pot} {command : Option Command} {answer : Result Answer Refusal}
    → command ≡ command_of line → Replies (reply_to pot command) answer after → Stored row at (text_of answer) next out
    → Tells row at (reply_of pot line) out after next
unfolding reply_of
tells_line pot line e r s =
    let same = ap (reply_to pot) e in
    record { stored = stored_as s (r.text ∙ ap (λ x. x.text) same); pot = r.pot ∙ ap (λ x. x.pot) same }
