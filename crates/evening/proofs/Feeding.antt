-- The run over bytes: pieces don't matter, and a turn of `feed` is a byte of it.
--     fed-append      feeding one piece and then another is feeding them joined
--     takes-some, takes_full   how many bytes are taken
--     Feeding         a turn of `feed`: what it was fed is done, and what it has still to take is what it takes
--     feeding_start, feeding_line, feeding_noted, feeding_long     the turns
--     feeding_done, feeding_full       the two ends
-- Assumes nothing.
use mathlib.Core.Path.{◌≡◌, refl, sym, ap, ◌∙◌, subst}
use mathlib.Core.List.{List, [], ◌∷◌, ◌++◌, append_assoc, append-nil}
use Prim.Native.Nat.{ℕ, suc, ◌+◌, ◌-◌, ◌≤◌, ◌<◌}
use native.Mathlib.Omega.{arith}
use lib.ListN.{length, take, drop, get_or, drop_of_length-le}
use borrow.Author.Tests.{le-leb, lt-leb, lt-ltb, le-ltb, eq-eqb, ne_eqb}
use Rattle.lists.specs.Rows.{Stored}
use Rattle.lists.proofs.Steps.{next, take_next}
use Rattle.lists.proofs.Stores.{stored-none, stored_then, stored_as, stored-room}
use Rattle.evening.specs.declared.Evening.{Evening}
use Rattle.evening.specs.Replies.{Pot, Tells, Sits, reply_of}
use Rattle.evening.specs.Runs.{Run, Sitting, line_of, lengthened, line_ended, step, after, fed, takes, Feeds}
use Rattle.evening.proofs.Staying.{reply_sits, lengthened_sits}

after-after : (a b c : Run) → after a (after b c) ≡ after (after a b) c
after-after a b c = ap (λ (o : List ℕ). record { evening = c.evening; output = o }) (sym (append_assoc a.output b.output c.output))

pub fed-append : (s : Evening) (xs ys : List ℕ) → fed s (xs ++ ys) ≡ after (fed s xs) (fed (fed s xs).evening ys)
unfolding fed
fed-append s [] ys = refl
fed-append s (x ∷ xs) ys =
    ap (after (step s x)) (fed-append (step s x).evening xs ys)
    ∙ after-after (step s x) (fed (step s x).evening xs) (fed (fed (step s x).evening xs).evening ys)

fed-one : (s : Evening) (x : ℕ) → fed s (x ∷ []) ≡ step s x
unfolding fed
fed-one s x = ap (λ (o : List ℕ). record { evening = (step s x).evening; output = o }) (append-nil (step s x).output)

-- one byte more
fed_more : (s : Evening) (input : List ℕ) (i : ℕ) → i < length input
    → fed s (take (i + 1) input) ≡ after (fed s (take i input)) (step (fed s (take i input)).evening (get_or input i 0))
fed_more s input i h =
    ap (fed s) (take_next input i h)
    ∙ fed-append s (take i input) (get_or input i 0 ∷ [])
    ∙ ap (after (fed s (take i input))) (fed-one (fed s (take i input)).evening (get_or input i 0))

takes_more : (room : ℕ) (s : Evening) (x : ℕ) (xs : List ℕ) → 40 ≤ room
    → takes room s (x ∷ xs) ≡ suc (takes (room - length (step s x).output) (step s x).evening xs)
unfolding takes
takes_more room s x xs h = rw (le-leb 40 room h)

pub takes-some : (room : ℕ) (s : Evening) (xs : List ℕ) → 40 ≤ room → 0 < length xs → 0 < takes room s xs
takes-some room s [] h l = absurd (omega arith)
takes-some room s (x ∷ xs) h l = omega (arith, takes_more room s x xs h)

pub takes_full : (room : ℕ) (s : Evening) (xs : List ℕ) → room < 40 → takes room s xs ≡ 0
unfolding takes
takes_full room s [] h = refl
takes_full room s (x ∷ xs) h = rw (lt-leb 40 room h)

takes_none : (room : ℕ) (s : Evening) → takes room s [] ≡ 0
unfolding takes
takes_none room s = refl

step_newline : (s : Evening) (x : ℕ) → x ≡ 10 → step s x ≡ line_ended s
unfolding step
step_newline s x e = rw (eq-eqb x 10 e)

step-noted : (s : Evening) (x : ℕ) → (x ≡ 10 → ⊥) → s.length < 65 → step s x ≡ record { evening = lengthened s x; output = [] }
unfolding step
step-noted s x n l = rw (ne_eqb x 10 n, lt-ltb s.length 65 l)

step_long : (s : Evening) (x : ℕ) → (x ≡ 10 → ⊥) → 65 ≤ s.length → step s x ≡ record { evening = s; output = [] }
unfolding step
step_long s x n l = rw (ne_eqb x 10 n, le-ltb s.length 65 l)

pub record Feeding (s₀ : Evening) (input row : List ℕ) (s : Evening) (i : ℕ) (out : List ℕ) (written : ℕ) : Type 0 where
  pub within : i ≤ length input
  pub sits : Sitting s
  pub room : written ≤ length row
  pub same : length out ≡ length row
  pub evening : s ≡ (fed s₀ (take i input)).evening
  pub stored : Stored row 0 (fed s₀ (take i input)).output written out
  pub taken : i + takes (length row - written) s (drop i input) ≡ takes (length row) s₀ input

pub feeding_start : (s : Evening) (input row : List ℕ) → Sitting s → Feeding s input row s 0 row 0
unfolding fed
feeding_start s input row w =
    let e : length row - 0 ≡ length row = omega arith in
    let t : takes (length row - 0) s input ≡ takes (length row) s input = ap (λ (m : ℕ). takes m s input) e in
    record {
      within = omega arith;
      sits = w;
      room = omega arith;
      same = refl;
      evening = refl;
      stored = stored-none row 0;
      taken = omega arith;
    }

module _ {s₀ : Evening} {input row : List ℕ} {s : Evening} {i : ℕ} {out : List ℕ} {written : ℕ} (f : Feeding s₀ input row s i out written) where
  feeding_step : i < length input → 40 ≤ length row - written → (run : Run) (out' : List ℕ) (written' : ℕ) → step s (get_or input i 0) ≡ run
      → Stored out written run.output written' out' → length out' ≡ length out → Sitting run.evening
      → Feeding s₀ input row run.evening (i + 1) out' written'
  feeding_step h m run out' written' e t l w =
      let x = get_or input i 0 in
      let more : fed s₀ (take (i + 1) input) ≡ after (fed s₀ (take i input)) run =
      fed_more s₀ input i h
      ∙ ap (λ (v : Evening). after (fed s₀ (take i input)) (step v x)) (sym f.evening)
      ∙ ap (after (fed s₀ (take i input))) e in
      let room : written' ≤ length out = stored-room t (omega (arith, f.same)) l in
      let left : length row - written - length run.output ≡ length row - written' = omega (arith, t.next_place) in
      let turn : takes (length row - written) s (drop i input) ≡ suc (takes (length row - written') run.evening (drop (i + 1) input)) =
      ap (takes (length row - written) s) (next input i h)
      ∙ takes_more (length row - written) s x (drop (i + 1) input) m
      ∙ ap (λ (v : Run). suc (takes (length row - written - length v.output) v.evening (drop (i + 1) input))) e
      ∙ ap (λ (n : ℕ). suc (takes n run.evening (drop (i + 1) input))) left in
      record {
        within = omega arith;
        sits = w;
        room = omega (arith, f.same);
        same = l ∙ f.same;
        evening = sym (ap (λ (v : Run). v.evening) more);
        stored = stored_as (stored_then f.stored run.output t (omega arith)) (sym (ap (λ (v : Run). v.output) more));
        taken = omega (arith, f.taken);
      }

  -- a newline: the line is answered
  pub feeding_line : i < length input → 40 ≤ length row - written → get_or input i 0 ≡ 10 → (pot : Pot) (written' : ℕ) (out' : List ℕ)
      → Tells out written (reply_of s.pot (line_of s)) out' pot written' → length out' ≡ length out
      → Feeding s₀ input row (record { pot = pot; length = 0; line = s.line }) (i + 1) out' written'
  feeding_line h m x pot written' out' t l =
      let reply = reply_of s.pot (line_of s) in
      let next : Pot → Run = λ p. record { evening = record { pot = p; length = 0; line = s.line }; output = reply.text } in
      let e : step s (get_or input i 0) ≡ next pot = step_newline s (get_or input i 0) x ∙ ap next (sym t.pot) in
      let w : Sits pot = subst Sits (sym t.pot) (reply_sits s.pot (line_of s) f.sits.pot) in
      feeding_step h m (next pot) out' written' e t.stored l (record { pot = w; short = omega arith })

  -- a byte of the line
  pub feeding_noted : i < length input → 40 ≤ length row - written → (get_or input i 0 ≡ 10 → ⊥) → s.length < 65
      → Feeding s₀ input row (lengthened s (get_or input i 0)) (i + 1) out written
  feeding_noted h m x n =
      let b = get_or input i 0 in
      let w : Sitting (lengthened s b) = lengthened_sits s b f.sits (lt-ltb s.length 65 n) in
      feeding_step h m (record { evening = lengthened s b; output = [] }) out written (step-noted s b x n) (stored-none out written) refl w

  -- a byte of an overlong line
  pub feeding_long : i < length input → 40 ≤ length row - written → (get_or input i 0 ≡ 10 → ⊥) → 65 ≤ s.length → Feeding s₀ input row s (i + 1) out written
  feeding_long h m x n =
      feeding_step h m (record { evening = s; output = [] }) out written (step_long s (get_or input i 0) x n) (stored-none out written) refl f.sits

  ends : takes (length row - written) s (drop i input) ≡ 0 → Feeds s₀ input row out (record { evening = s; taken = i; written = written })
  ends e = record { taken = omega (arith, f.taken); evening = f.evening; stored = f.stored }

  -- the piece is done
  pub feeding_done : length input ≤ i → Feeds s₀ input row out (record { evening = s; taken = i; written = written })
  feeding_done h = ends (ap (takes (length row - written) s) (drop_of_length-le input h) ∙ takes_none (length row - written) s)

  -- an answer might not have room
  pub feeding_full : length row - written < 40 → Feeds s₀ input row out (record { evening = s; taken = i; written = written })
  feeding_full h = ends (takes_full (length row - written) s (drop i input) h)
