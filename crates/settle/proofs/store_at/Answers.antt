-- `settle::store_at` meets its contract. Assumes nothing.
use Prim.Native.Nat.{ℕ}
use mathlib.Core.Path.{◌≡◌, sym, ap, ◌∙◌}
use mathlib.Core.List.{List}
use native.Mathlib.Omega.{arith}
use lib.ListN.{length}
use Rattle.lists.specs.Lists.{filter}
use Rattle.lists.proofs.Stores.{stored_as}
use Rattle.rule.specs.declared.Settings.{Settings}
use Rattle.rule.specs.Rule.{passes}
use Rattle.settle.proofs.store_at.Goals as goal

-- at their own level all of them pass
own_pass : (s : Settings) {own level : ℕ} {cells : List ℕ} → filter (passes s own) cells ≡ cells → own ≡ level → cells ≡ filter (passes s level) cells
own_pass s {own} {level} {cells} all e = sym all ∙ ap (λ l. filter (passes s l) cells) e

pub store-requires : goal.store-requires
store-requires c = omega (arith, ap length (own_pass c.args.settings c.requires.1 c.if-own-level.true), c.requires.2)

pub returns-then-own-level : goal.returns-then-own-level
returns-then-own-level c = stored_as c.store.ensures (own_pass c.args.settings c.requires.1 c.if-own-level.true)
