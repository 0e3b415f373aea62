-- `rule::Settings::top` meets its contract: the zeros above p's highest set digit and the top make 31. Assumes nothing.
use Prim.Native.Nat.{suc, ◌+◌, ◌^◌, ◌<◌}
use mathlib.Core.Path.{◌≡◌, sym}
use native.Mathlib.Omega.{arith}
use lib.Count.{count_leading_zeros}
use borrow.Author.Rules.{rules}
use Rattle.rule.specs.Rule.{top}
use Rattle.rule.proofs.Passing.{top_of_none, top_leading}
use Rattle.rule.proofs.Settings.top.Goals as goal

pub returns-then-p-eq0 : goal.returns-then-p-eq0
returns-then-p-eq0 c = sym (top_of_none c.args.self c.if-p-eq0.true)

zeros : (c : goal.Else-p-eq0) → count_leading_zeros 32 c.args.self.p + suc (top c.args.self) ≡ 32
zeros c =
    let low : c.args.self.p < 2 ^ 32 = search rules in
    top_leading c.args.self (omega arith) low

pub overflow_sub-result : goal.overflow_sub-result
overflow_sub-result c = omega (arith, zeros c)

pub returns : goal.returns
returns c = omega (arith, zeros c)
