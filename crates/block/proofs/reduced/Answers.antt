-- `reduced` meets its contract: two folds leave the remainder, or 65535 where it is 0. Assumes nothing.
use mathlib.Core.Path.{◌≡◌, ap, ◌∙◌}
use native.Mathlib.Omega.{arith}
use Rattle.block.specs.Folds.{folded}
use Rattle.block.proofs.Folds.{twice_small, twice_left, twice_rest}
use Rattle.block.proofs.reduced.Goals as goal
use Rattle.block.proofs.reduced.Goals.{After-folded-twice}

-- one fold after the other
twice : (c : After-folded-twice) → c.folded-twice.result ≡ folded (folded c.args.x)
twice c = c.folded-twice.ensures ∙ ap folded (c.folded-once.ensures ∙ ap folded c.from-unfolded.ensures)

pub overflow_cast-result : goal.overflow_cast-result
overflow_cast-result c = omega (arith, twice_small (omega arith) (twice c.before))

pub returns-then-twice-eq-MODULUS : goal.returns-then-twice-eq-MODULUS
returns-then-twice-eq-MODULUS c = twice_left (omega arith) (twice c.before) c.if-twice-eq-MODULUS.true

pub returns-else-twice-eq-MODULUS : goal.returns-else-twice-eq-MODULUS
returns-else-twice-eq-MODULUS c = twice_rest (omega arith) (twice c.before) c.if-twice-eq-MODULUS.false
