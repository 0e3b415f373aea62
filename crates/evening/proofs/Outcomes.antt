-- What the calls answer is fixed, and each line gets one line.
--     tells_tight, feeds_tight, rest_tight     two outcomes that one promise allows coincide
--     reply_line      an answer is one line of at most 40 bytes
--     printed, estimate_printed    E prints what the estimate answers: the whole number, or the float's whole part
-- Assumes nothing.
use mathlib.Core.Path.{◌≡◌, refl, sym, ap, ◌∙◌}
use mathlib.Core.Bool.{true, false}
use mathlib.Core.Logic.{⊎_elim}
use mathlib.Core.List.{List, [], ◌∷◌}
use Rattle.std.specs.Prelude.{Option, Some, None}
use Prim.Native.Nat.{ℕ}
use native.Mathlib.Omega.{arith}
use lib.Dec.{eqb}
use lib.ListN.{take, get_or}
use lib.Ieee.{to_unsigned}
use borrow.Author.Tests.{eqb-true, eqb-false}
use Rattle.lists.specs.Rows.{Stored}
use Rattle.lists.proofs.Tests.{tested}
use Rattle.lists.proofs.Stores.{stored_same, stored_as}
use Rattle.rule.specs.declared.Settings.{Settings}
use Rattle.rule.specs.Refusals.{Outcome, Paper, answered, refused, not_one, bad_line}
use Rattle.find.specs.Finding.{count_on, next_on}
use Rattle.sketch.specs.declared.Sketch.{Sketch}
use Rattle.sketch.specs.Sketches.{Sound, is_sketch, opened, add}
use Rattle.sketch.specs.Calls.{open_on, add_on}
use Rattle.sketch.specs.declared.estimates.Estimate.{Estimate}
use Rattle.sketch.specs.Estimates.{Weight, exactly, about, of_estimate, stands_at, Estimates}
use Rattle.sketch.proofs.Facts.{facts_sketch}
use Rattle.sketch.proofs.Worth.{level-small, float-whole, weighs_exact, weighs_about}
use Rattle.line.specs.declared.commands.Command.{Command}
use Rattle.line.specs.declared.commands.Command.TheVariants as command
use Rattle.line.specs.Lines.{command_of}
use Rattle.line.specs.Texts.{OneLine, text_exact, text_about, text_refusal}
use Rattle.line.proofs.Answers.{kept_line, exact_line, about_line, count_line, cell_line, none_line, refusal_line}
use Rattle.evening.specs.declared.Evening.{Evening}
use Rattle.evening.specs.declared.Fed.{Fed}
use Rattle.evening.specs.Replies.{Pot, Reply, Tells, Sits, estimate_text, count_text, cell_text, when_open, paper_text, kept_if, reply_to, reply_of}
use Rattle.evening.specs.Runs.{Run, fed, Feeds, rest}
use Rattle.evening.proofs.Staying.{opened-sound, added-sound}

pub tells_tight : {row : List ℕ} {at : ℕ} {reply : Reply} {out out' : List ℕ} {pot pot' : Pot} {next next' : ℕ} → Tells row at reply out pot next
    → Tells row at reply out' pot' next' → (out ≡ out') × (pot ≡ pot') × (next ≡ next')
tells_tight a b = let t = stored_same a.stored b.stored in (t.0, a.pot ∙ sym b.pot, t.1)

pub feeds_tight : {s : Evening} {input row out out' : List ℕ} {r r' : Fed} → Feeds s input row out r → Feeds s input row out' r' → (out ≡ out') × (r ≡ r')
feeds_tight {s} {input} {row} {out} {out'} {r} {r'} a b =
    let t : r.taken ≡ r'.taken = a.taken ∙ sym b.taken in
    let same : fed s (take r.taken input) ≡ fed s (take r'.taken input) = ap (λ (n : ℕ). fed s (take n input)) t in
    let w = stored_same (stored_as a.stored (ap (λ (v : Run). v.output) same)) b.stored in
    let e : r.evening ≡ r'.evening = a.evening ∙ ap (λ (v : Run). v.evening) same ∙ sym b.evening in (
      w.0,
      ap (λ (v : Evening). record { evening = v; taken = r.taken; written = r.written }) e
          ∙ ap (λ (n : ℕ). record { evening = r'.evening; taken = n; written = r.written }) t
          ∙ ap (λ (n : ℕ). record { evening = r'.evening; taken = r'.taken; written = n }) w.1,
    )

pub rest_tight : (s : Evening) {row out out' : List ℕ} {n n' : ℕ} → Stored row 0 (rest s) n out → Stored row 0 (rest s) n' out' → (out ≡ out') × (n ≡ n')
rest_tight s a b = stored_same a b

told_line : (paper : Paper) (text : List ℕ → List ℕ) → ((values : List ℕ) → OneLine (text values)) → OneLine (paper_text paper text)
told_line (answered values) text f = f values
told_line (refused number place) text f = refusal_line number

kept-one : (pot : Pot) (paper : Paper) (k : Sketch) → ((values : List ℕ) → paper ≡ answered values → Sound k) → OneLine (kept_if pot paper k).text
kept-one pot (answered values) k f = kept_line k.level k.count (omega (arith, level-small k (f values refl)))
kept-one pot (refused number place) k f = refusal_line number

estimate_line : (settings : Settings) (level count : ℕ) → OneLine (estimate_text settings level count)
estimate_line settings level count =
    ⊎_elim
    (λ (e : eqb level 0 ≡ true). rw e (exact_line count))
    (λ (e : eqb level 0 ≡ false). rw e (about_line (stands_at settings level count)))
    (tested (eqb level 0))

cell_text_line : (values : List ℕ) → OneLine (cell_text values)
cell_text_line [] = none_line
cell_text_line (x ∷ xs) = cell_line x

open_line : (pot : Pot) (text : Sketch → List ℕ) → ((k : Sketch) → OneLine (text k)) → OneLine (when_open pot text)
open_line None text f = refusal_line not_one
open_line (Some k) text f = f k

command_line : (pot : Pot) (c : Option Command) → Sits pot → OneLine (reply_to pot c).text
unfolding reply_to
command_line pot (Some (command.Settings s)) w =
    kept-one pot (open_on s) (opened s) (opened-sound s)
command_line None (Some (command.Add lo hi)) w = refusal_line not_one
command_line (Some k) (Some (command.Add lo hi)) w = kept-one (Some k) (add_on k lo hi) (add k lo hi) (λ values e. added-sound k lo hi w)
command_line pot (Some command.Estimate) w = open_line pot _ (λ k. estimate_line k.settings k.level k.count)
command_line pot (Some (command.Count level lo hi)) w =
    open_line pot _ (λ k. told_line (count_on k.settings level lo hi) count_text (λ values. count_line (get_or values 0 0)))
command_line pot (Some (command.Next level from)) w = open_line pot _ (λ k. told_line (next_on k.settings level from) cell_text cell_text_line)
command_line pot None w = refusal_line bad_line

pub reply_line : (pot : Pot) (line : List ℕ) → Sits pot → OneLine (reply_of pot line).text
unfolding reply_of
reply_line pot line w = command_line pot (command_of line) w

-- what an estimate tells, in print: of a float its whole part
abbrev pub printed : Outcome Weight → List ℕ
printed (answered (exactly v)) = text_exact v
printed (answered (about x)) = text_about (to_unsigned 64 x)
printed (refused number place) = text_refusal number

pub estimate_printed : (k : Sketch) (r : Estimate) → Sound k → Estimates k r → estimate_text k.settings k.level k.count ≡ printed (of_estimate r)
estimate_printed k r w e =
    let s : is_sketch k ≡ true = facts_sketch k w in
    ⊎_elim
    (λ (l : eqb k.level 0 ≡ true). rw (l, e.answer ∙ weighs_exact k s (eqb-true k.level 0 l)))
    (λ (l : eqb k.level 0 ≡ false). rw (l, e.answer ∙ weighs_about k s (eqb-false k.level 0 l), float-whole k w))
    (tested (eqb k.level 0))
