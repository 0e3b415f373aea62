-- `rule::Settings::region` meets its contract. Assumes nothing.
use Prim.Native.Nat.{◌^◌, ◌<◌}
use native.Mathlib.Omega.{arith}
use Rattle.rule.specs.Rule.{region}
use Rattle.rule.proofs.Passing.{region_past}
use borrow.Author.Rules.{rules}
use Rattle.rule.proofs.Settings.region.Goals as goal

pub returns-then-level-lt32 : goal.returns-then-level-lt32
unfolding region
returns-then-level-lt32 c = search rules

pub returns-else-level-lt32 : goal.returns-else-level-lt32
returns-else-level-lt32 c =
    let low : c.args.self.p < 2 ^ 32 = search rules in
    region_past c.args.self c.args.level low (omega arith)
