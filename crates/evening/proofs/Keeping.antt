-- What a line does to the pot: nothing, unless it is an S or an A that is answered.
--     changed         the sketch that a command opens or adds to, if any
--     ReplyLeaves     a reply where there is such a sketch, and where there is none
--     reply_leaves    every reply is so, whatever the pot and the line
--     reply_keeps     any answer but `K level cells` leaves the pot as it was
-- Assumes nothing.
use mathlib.Core.Path.{◌≡◌, refl, sym, ap, ◌∙◌}
use mathlib.Core.Bool.{Bool, true, false, cond, ◌&&◌, false≢true}
use mathlib.Core.Logic.{⊎_elim}
use mathlib.Core.List.{List, [], ◌∷◌}
use Rattle.std.specs.Prelude.{Option, Some, None}
use Prim.Native.Nat.{ℕ}
use Prim.Native.Char.{code}
use lib.Dec.{eqb}
use lib.ListN.{get_or}
use Rattle.lists.proofs.Tests.{tested}
use Rattle.rule.specs.declared.Settings.{Settings}
use Rattle.rule.specs.Rule.{is_good}
use Rattle.rule.specs.Refusals.{Paper, answered, refused}
use Rattle.find.specs.Finding.{in_range, count_on, next_on}
use Rattle.sketch.specs.declared.Sketch.{Sketch}
use Rattle.sketch.specs.Sketches.{is_sketch, opened, add}
use Rattle.sketch.specs.Calls.{open_on, add_on}
use Rattle.line.specs.declared.commands.Command.{Command}
use Rattle.line.specs.declared.commands.Command.TheVariants as command
use Rattle.line.specs.Lines.{command_of}
use Rattle.line.specs.Texts.{text_kept}
use Rattle.evening.specs.Replies.{Pot, pot_of, Reply, estimate_text, count_text, cell_text, when_open, paper_text, open_reply, add_reply, reply_to, reply_of}

abbrev pub changed : Pot → Option Command → Option Sketch
-- S with good settings
changed pot (Some (command.Settings s)) = cond (is_good s) (Some (opened s)) None
-- A of cells in range, where a sketch is open
changed None (Some (command.Add lo hi)) = None
changed (Some k) (Some (command.Add lo hi)) = cond (is_sketch k && in_range k.settings lo hi) (Some (add k lo hi)) None
-- no other
changed pot (Some command.Estimate) = None
changed pot (Some (command.Count level lo hi)) = None
changed pot (Some (command.Next level from)) = None
changed pot None = None

-- an answer begins with the letter K
abbrev pub begins_k : List ℕ → Bool
begins_k text = eqb (get_or text 0 0) (code "K")

-- with a sketch the answer is `K level cells`, and the pot holds it; with none the answer is another, and the pot is what it was
abbrev pub ReplyLeaves : Pot → Option Sketch → Reply → Type 0
ReplyLeaves pot (Some k) reply = (reply.text ≡ text_kept k.level k.count) × (reply.pot ≡ pot_of k)
ReplyLeaves pot None reply = (begins_k reply.text ≡ false) × (reply.pot ≡ pot)

open_leaves : (pot : Pot) (s : Settings) → ReplyLeaves pot (cond (is_good s) (Some (opened s)) None) (open_reply pot s)
unfolding open_on
open_leaves pot s =
    ⊎_elim (λ (e : is_good s ≡ true). rw e (refl, refl)) (λ (e : is_good s ≡ false). rw e (refl, refl)) (tested (is_good s))

add_leaves : (pot : Pot) (lo hi : ℕ) → ReplyLeaves pot (changed pot (Some (command.Add lo hi))) (add_reply pot lo hi)
unfolding add_on
add_leaves None lo hi = (refl, refl)
add_leaves (Some k) lo hi =
    ⊎_elim
    (λ (s : is_sketch k ≡ true).
    ⊎_elim
    (λ (r : in_range k.settings lo hi ≡ true). rw (s, r) (refl, refl))
    (λ (r : in_range k.settings lo hi ≡ false). rw (s, r) (refl, refl))
    (tested (in_range k.settings lo hi)))
    (λ (s : is_sketch k ≡ false). rw s (refl, refl))
    (tested (is_sketch k))

-- E, C and N: whatever the paper, no answer is `K level cells`
told_other : (paper : Paper) (text : List ℕ → List ℕ) → ((values : List ℕ) → begins_k (text values) ≡ false) → begins_k (paper_text paper text) ≡ false
told_other (answered values) text other = other values
told_other (refused number place) text other = refl

open_other : (pot : Pot) (text : Sketch → List ℕ) → ((k : Sketch) → begins_k (text k) ≡ false) → begins_k (when_open pot text) ≡ false
open_other None text other = refl
open_other (Some k) text other = other k

estimate_other : (settings : Settings) (level count : ℕ) → begins_k (estimate_text settings level count) ≡ false
estimate_other settings level count = ⊎_elim (λ (e : eqb level 0 ≡ true). rw e) (λ (e : eqb level 0 ≡ false). rw e) (tested (eqb level 0))

cell_other : (values : List ℕ) → begins_k (cell_text values) ≡ false
cell_other [] = refl
cell_other (x ∷ xs) = refl

command_leaves : (pot : Pot) (c : Option Command) → ReplyLeaves pot (changed pot c) (reply_to pot c)
unfolding reply_to
command_leaves pot (Some (command.Settings s)) = open_leaves pot s
command_leaves pot (Some (command.Add lo hi)) = add_leaves pot lo hi
command_leaves pot (Some command.Estimate) = (open_other pot _ (λ k. estimate_other k.settings k.level k.count), refl)
command_leaves pot (Some (command.Count level lo hi)) =
    (open_other pot _ (λ k. told_other (count_on k.settings level lo hi) count_text (λ values. refl)), refl)
command_leaves pot (Some (command.Next level from)) = (open_other pot _ (λ k. told_other (next_on k.settings level from) cell_text cell_other), refl)
command_leaves pot None = (refl, refl)

pub reply_leaves : (pot : Pot) (line : List ℕ) → ReplyLeaves pot (changed pot (command_of line)) (reply_of pot line)
unfolding reply_of
reply_leaves pot line = command_leaves pot (command_of line)

other_keeps : (pot : Pot) (next : Option Sketch) (reply : Reply) → ReplyLeaves pot next reply → begins_k reply.text ≡ false → reply.pot ≡ pot
other_keeps pot (Some k) reply l e = absurd (false≢true (sym e ∙ ap begins_k l.0))
other_keeps pot None reply l e = l.1

pub reply_keeps : (pot : Pot) (line : List ℕ) → begins_k (reply_of pot line).text ≡ false → (reply_of pot line).pot ≡ pot
reply_keeps pot line = other_keeps pot (changed pot (command_of line)) (reply_of pot line) (reply_leaves pot line)
