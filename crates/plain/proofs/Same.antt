-- The two engines. Up to the limit whatever their promises allow is equal: the answers, the sketch and the refusals, on every input, and at every level.
--     count_small, next_small, add_small  the two promises are one
--     count_same, next_same, add_same     so the two calls' outcomes are
--     count_above, next_above, add-above    what the plain engine answers above the limit
-- Assumes nothing.
use mathlib.Core.Path.{◌≡◌, refl, sym, ◌∙◌}
use mathlib.Core.Bool.{Bool, true, false, cond}
use Prim.Native.Nat.{ℕ, ◌≤◌, ◌<◌}
use borrow.Author.Tests.{le-leb, lt-leb}
use Rattle.rule.specs.declared.Settings.{Settings}
use Rattle.std.specs.Prelude.{Option, Result, Err}
use Rattle.rule.specs.declared.refusals.Refusal.{Refusal}
use Rattle.rule.specs.declared.refusals.Refusal.TheVariants as refusal
use Rattle.rule.specs.Refusals.{Paper, refused, number_of, bad_settings, of_counted, of_found}
use Rattle.rule.proofs.Readings.{counted-one, found-one}
use Rattle.find.specs.Finding.{count_on, next_on}
use Rattle.sketch.specs.declared.Sketch.{Sketch}
use Rattle.sketch.specs.declared.Changed.{Changed}
use Rattle.sketch.specs.Sketches.{is_sketch, add}
use Rattle.sketch.specs.Calls.{add_on, refused_with, Hands}
use Rattle.sketch.proofs.Handing.{hands_refused}
use Rattle.sketch.proofs.Results.{hands_tight}
use Rattle.plain.specs.Plain.{limit, is_small, on_small, plain_count_on, plain_next_on, plain_add_when, plain_add_on}

-- up to the limit a paper is what it is in the first engine, and above it a refusal
small_paper : (s : Settings) → s.n ≤ limit → (answer : Paper) → on_small s answer ≡ answer
small_paper s h answer = let e : is_small s ≡ true = le-leb s.n limit h in rw e

large_paper : (s : Settings) → limit < s.n → (answer : Paper) → on_small s answer ≡ refused bad_settings 0
large_paper s h answer = let e : is_small s ≡ false = lt-leb s.n limit h in rw e

module _ (s : Settings) (level lo hi : ℕ) where
  pub count_small : s.n ≤ limit → plain_count_on s level lo hi ≡ count_on s level lo hi
  unfolding plain_count_on
  count_small h = small_paper s h (count_on s level lo hi)

  pub count_same : s.n ≤ limit → (x y : Result ℕ Refusal) → of_counted x ≡ plain_count_on s level lo hi → of_counted y ≡ count_on s level lo hi → x ≡ y
  count_same h x y e f = counted-one x y (e ∙ count_small h ∙ sym f)

  pub count_above : limit < s.n → (x : Result ℕ Refusal) → of_counted x ≡ plain_count_on s level lo hi → x ≡ Err refusal.Settings
  unfolding plain_count_on
  count_above h x e = counted-one x (Err refusal.Settings) (e ∙ large_paper s h (count_on s level lo hi))

module _ (s : Settings) (level from : ℕ) where
  pub next_small : s.n ≤ limit → plain_next_on s level from ≡ next_on s level from
  unfolding plain_next_on
  next_small h = small_paper s h (next_on s level from)

  pub next_same : s.n ≤ limit → (x y : Result (Option ℕ) Refusal) → of_found x ≡ plain_next_on s level from → of_found y ≡ next_on s level from → x ≡ y
  next_same h x y e f = found-one x y (e ∙ next_small h ∙ sym f)

  pub next_above : limit < s.n → (x : Result (Option ℕ) Refusal) → of_found x ≡ plain_next_on s level from → x ≡ Err refusal.Settings
  unfolding plain_next_on
  next_above h x e = found-one x (Err refusal.Settings) (e ∙ large_paper s h (next_on s level from))

module _ (k : Sketch) (lo hi : ℕ) where
  above : (known : Bool) → is_small k.settings ≡ false → plain_add_when known k.settings lo hi ≡ refused (number_of (cond known refusal.Settings refusal.NotOne)) 0
  above true e = rw e
  above false e = refl

  pub add_small : k.settings.n ≤ limit → plain_add_on k lo hi ≡ add_on k lo hi
  unfolding plain_add_on add_on
  add_small h = let e : is_small k.settings ≡ true = le-leb k.settings.n limit h in rw e

  pub add_same : k.settings.n ≤ limit → (x y : Changed Refusal) → Hands (plain_add_on k lo hi) (add k lo hi) k x → Hands (add_on k lo hi) (add k lo hi) k y → x ≡ y
  add_same h x y e f = hands_tight (add_on k lo hi) (add k lo hi) k x y (rw (add_small h) at e) f

  -- what is no sketch is refused for that
  pub add-above : limit < k.settings.n → (x : Changed Refusal) → Hands (plain_add_on k lo hi) (add k lo hi) k x
      → x ≡ refused_with (cond (is_sketch k) refusal.Settings refusal.NotOne) k
  unfolding plain_add_on
  add-above h x e =
      let why = cond (is_sketch k) refusal.Settings refusal.NotOne in
      let large : is_small k.settings ≡ false = lt-leb k.settings.n limit h in
      let told : plain_add_on k lo hi ≡ refused (number_of why) 0 = above (is_sketch k) large in
      hands_tight (plain_add_on k lo hi) (add k lo hi) k x (refused_with why k) e (hands_refused _ _ _ why _ told refl)
