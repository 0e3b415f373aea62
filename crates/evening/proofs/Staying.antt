-- What is open stays a sketch.
--     opened-sound, added-sound    what S opens and what A hands on, where they are answered
--     reply_sits, lengthened_sits, step_sits, fed_sits     after a line, a byte of it, any byte, some bytes
--     beginning_sits  at the beginning
-- Assumes nothing.
use mathlib.Core.Path.{◌≡◌, refl}
use mathlib.Core.Bool.{true, false}
use mathlib.Core.Logic.{⊎_elim}
use mathlib.Core.List.{List, [], ◌∷◌}
use Rattle.std.specs.Prelude.{Option, Some, None}
use Prim.Native.Nat.{ℕ}
use native.Mathlib.Omega.{arith}
use lib.Dec.{eqb, ltb}
use borrow.Author.Tests.{ltb-true}
use Rattle.lists.proofs.Tests.{tested}
use Rattle.rule.specs.declared.Settings.{Settings}
use Rattle.rule.specs.Rule.{is_good}
use Rattle.rule.specs.Refusals.{Paper, answered, refused, bad_settings}
use Rattle.find.proofs.Checks.{unless-told}
use Rattle.sketch.specs.declared.Sketch.{Sketch}
use Rattle.sketch.specs.Sketches.{Sound, opened, add}
use Rattle.sketch.specs.Calls.{open_on, add_on}
use Rattle.sketch.proofs.Facts.{sketch_facts, facts_sketch}
use Rattle.sketch.proofs.Results.{open_again, add_again}
use Rattle.line.specs.declared.commands.Command.{Command}
use Rattle.line.specs.declared.commands.Command.TheVariants as command
use Rattle.line.specs.Lines.{command_of}
use Rattle.evening.specs.declared.Evening.{Evening}
use Rattle.evening.specs.Replies.{Pot, Sits, kept_if, reply_to, reply_of}
use Rattle.evening.specs.Runs.{beginning, Sitting, lengthened, noted, step, fed}

kept_sits : (pot : Pot) (paper : Paper) (k : Sketch) → Sits pot → ((values : List ℕ) → paper ≡ answered values → Sound k) → Sits (kept_if pot paper k).pot
kept_sits pot (answered values) k w f = f values refl
kept_sits pot (refused number place) k w f = w

-- what S opens and what A hands on is a sketch
pub opened-sound : (s : Settings) (values : List ℕ) → open_on s ≡ answered values → Sound (opened s)
unfolding open_on
opened-sound s values e = sketch_facts (opened s) (open_again s (unless-told (is_good s) bad_settings (answered []) values e).0)

pub added-sound : (k : Sketch) (lo hi : ℕ) → Sound k → Sound (add k lo hi)
added-sound k lo hi w = sketch_facts (add k lo hi) (add_again k lo hi (facts_sketch k w))

command_sits : (pot : Pot) (c : Option Command) → Sits pot → Sits (reply_to pot c).pot
unfolding reply_to
command_sits pot (Some (command.Settings s)) w =
    kept_sits pot (open_on s) (opened s) w (opened-sound s)
command_sits None (Some (command.Add lo hi)) w = w
command_sits (Some k) (Some (command.Add lo hi)) w = kept_sits (Some k) (add_on k lo hi) (add k lo hi) w (λ values e. added-sound k lo hi w)
command_sits pot (Some command.Estimate) w = w
command_sits pot (Some (command.Count level lo hi)) w = w
command_sits pot (Some (command.Next level from)) w = w
command_sits pot None w = w

pub reply_sits : (pot : Pot) (line : List ℕ) → Sits pot → Sits (reply_of pot line).pot
unfolding reply_of
reply_sits pot line w = command_sits pot (command_of line) w

pub lengthened_sits : (s : Evening) (x : ℕ) → Sitting s → ltb s.length 65 ≡ true → Sitting (lengthened s x)
lengthened_sits s x w e = record { pot = w.pot; short = omega (arith, ltb-true s.length 65 e) }

noted_sits : (s : Evening) (x : ℕ) → Sitting s → Sitting (noted s x)
noted_sits s x w =
    ⊎_elim (λ (e : ltb s.length 65 ≡ true). rw e (lengthened_sits s x w e)) (λ (e : ltb s.length 65 ≡ false). rw e w) (tested (ltb s.length 65))

pub step_sits : (s : Evening) (x : ℕ) → Sitting s → Sitting (step s x).evening
unfolding step
step_sits s x w =
    ⊎_elim
    (λ (e : eqb x 10 ≡ true). rw e record { pot = reply_sits s.pot _ w.pot; short = omega arith })
    (λ (e : eqb x 10 ≡ false). rw e (noted_sits s x w))
    (tested (eqb x 10))

pub fed_sits : (s : Evening) (xs : List ℕ) → Sitting s → Sitting (fed s xs).evening
unfolding fed
fed_sits s [] w = w
fed_sits s (x ∷ xs) w = fed_sits (step s x).evening xs (step_sits s x w)

pub beginning_sits : Sitting beginning
beginning_sits = record { pot = tt; short = omega arith }
