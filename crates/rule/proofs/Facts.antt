-- The five rules as facts and as tests, each from the other. Assumes nothing.
--     each            every test of a list holds
--     good_facts, facts_good     `is_good` and `Good` say the same
--     positive, fewer, small     what the other laws use of good settings
--     ready           the hasher of good settings finds hashes
use Prim.Native.Nat.{◌^◌, ◌<◌}
use mathlib.Core.Path.{◌≡◌, refl}
use mathlib.Core.Bool.{Bool, true, false, false≢true}
use mathlib.Core.List.{List, [], ◌∷◌}
use native.Mathlib.Omega.{arith}
use borrow.Author.Tests.{leb-true, ltb-true, eqb-true, le-leb, lt-ltb, eq-eqb}
use Rattle.rule.specs.declared.Settings.{Settings}
use Rattle.rule.specs.Rule.{Good, is_good, rules, all, Ready, hasher_of}
use Rattle.rule.proofs.Divisors.{only_one, one_only}

-- what the tests of a list say together
abbrev pub Each : List Bool → Type 0
Each [] = Unit {0}
Each (t ∷ ts) = (t ≡ true) × Each ts

pub each : (ts : List Bool) → all ts ≡ true → Each ts
each [] e = tt
each (true ∷ ts) e = (refl, each ts e)
each (false ∷ ts) e = absurd (false≢true e)

pub good_facts : (s : Settings) → is_good s ≡ true → Good s
unfolding is_good
good_facts s e =
    let h = each (rules s) e in
    let below : s.a < s.p = ltb-true _ _ h.1.1.1.1.1.0 in
    record {
      n_low = leb-true _ _ h.0;
      n_high = leb-true _ _ h.1.0;
      p_low = leb-true _ _ h.1.1.0;
      p_high = leb-true _ _ h.1.1.1.0;
      a_low = leb-true _ _ h.1.1.1.1.0;
      a_high = below;
      no_common_divisor = one_only s.a s.p (omega arith) (eqb-true _ _ h.1.1.1.1.1.1.0);
      b_high = ltb-true _ _ h.1.1.1.1.1.1.1.0;
      capacity_low = leb-true _ _ h.1.1.1.1.1.1.1.1.0;
      capacity_high = leb-true _ _ h.1.1.1.1.1.1.1.1.1.0;
    }

pub facts_good : (s : Settings) → Good s → is_good s ≡ true
unfolding is_good
facts_good s g =
    simp (
      le-leb _ _ g.n_low,
      le-leb _ _ g.n_high,
      le-leb _ _ g.p_low,
      le-leb _ _ g.p_high,
      le-leb _ _ g.a_low,
      lt-ltb _ _ g.a_high,
      eq-eqb _ _ (only_one s.a s.p (omega (arith, g.a_high)) g.no_common_divisor),
      lt-ltb _ _ g.b_high,
      le-leb _ _ g.capacity_low,
      le-leb _ _ g.capacity_high,
    )

pub positive : (s : Settings) → Good s → 0 < s.p
positive s g = omega (arith, g.a_high)

pub fewer : (s : Settings) → Good s → s.n < s.p
fewer s g = omega (arith, g.n_low, g.p_low)

pub small : (s : Settings) → Good s → s.p < 2 ^ 32
small s g = omega (arith, g.n_high, g.p_high)

pub ready : (s : Settings) → Good s → Ready (hasher_of s)
ready s g = record { good = g; made = refl }
