-- `rule::Settings::has_level` meets its contract. Assumes nothing.
use mathlib.Core.Path.{ap}
use Prim.Native.Nat.{ℕ}
use lib.Dec.{leb}
use Rattle.rule.proofs.Settings.has_level.Goals as goal

pub returns : goal.returns
returns c = ap (λ (t : ℕ). leb c.args.level t) c.top.ensures
