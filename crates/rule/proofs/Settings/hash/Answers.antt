-- `rule::Settings::hash` meets its contract: the product fits 64 bits. Assumes nothing.
use mathlib.Core.Path.{◌≡◌, sym, ◌∙◌}
use native.Mathlib.Omega.{arith}
use native.Mathlib.Nat.{mod-zero}
use Rattle.rule.specs.Rule.{hash}
use Rattle.rule.proofs.Passing.{product_fits}
use Rattle.rule.proofs.Settings.hash.Goals as goal

pub overflow_mul-whole : goal.overflow_mul-whole
overflow_mul-whole c = omega (arith, product_fits c.from-a.result c.from-y.result 0 (omega arith) (omega arith) (omega arith))

pub overflow_add-whole : goal.overflow_add-whole
overflow_add-whole c = omega (
  arith,
  product_fits c.from-a.result c.from-y.result c.from-b.result (omega arith)
      (omega arith) (omega arith),
)

pub returns-then-p-eq0 : goal.returns-then-p-eq0
unfolding hash
returns-then-p-eq0 c =
    let none : c.args.self.p ≡ 0 = sym c.from-p.ensures ∙ c.if-p-eq0.true in
    simp (c.from-a.ensures, c.from-b.ensures, c.from-y.ensures, none, mod-zero)

pub returns : goal.returns
unfolding hash
returns c = simp (
  c.from-a.ensures,
  c.from-b.ensures,
  c.from-p.ensures,
  c.from-y.ensures,
)
