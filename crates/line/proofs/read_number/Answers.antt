-- `line::read_number` meets its contract: the bytes so far are digits, with the value so far. Assumes nothing.
use borrow.Author.Rules.{rules}
use Prim.Native.Nat.{◌+◌, ◌*◌, ◌-◌}
use mathlib.Core.Path.{◌≡◌, sym, ◌∙◌}
use mathlib.Core.Logic.{⊎_elim}
use native.Mathlib.Omega.{arith}
use lib.ListN.{get_or}
use Rattle.line.proofs.Words.{begun_more, begun_all, begun_large, no_zero}
use Rattle.line.proofs.read_number.Goals as goal

pub returns-in_err-checked_mul : goal.returns-in_err-checked_mul
returns-in_err-checked_mul c = c.from_residual-in_err-checked_mul.ensures ∙ begun_large c.loop-x.invariant c.loop-x-test.true (omega arith)

pub returns-in_err-v : goal.returns-in_err-v
returns-in_err-v c = c.from_residual-in_err-v.ensures ∙ begun_large c.loop-x.invariant c.loop-x-test.true (omega arith)

pub loop-x-preserved : goal.loop-x-preserved
loop-x-preserved c =
    let e : c.in_ok-v.v ≡ c.loop-x.v * 10 + (get_or c.args.word.now c.loop-x.x-index 0 - 48) = search (rules, arith) in
    rw e
    (begun_more c.loop-x.invariant c.loop-x-test.true (sym c.is_ascii_digit.ensures.value ∙ search rules)
    (omega (arith, e, c.in_ok-v.ensures.0, c.in_ok-v.ensures.1)))

pub returns : goal.returns
returns c =
    let w = c.args.word.now in
    begun_all c.loop-x.invariant c.loop-x-test.false (search rules)
    (no_zero w (λ e. ⊎_elim (λ p. p.1) (λ n. absurd (n (search rules ∙ e))) c.else-first-eq48.either))
