-- `rule::Settings::hasher` meets its contract: both fractions are below 1. Assumes nothing.
use native.Mathlib.Omega.{arith}
use Rattle.rule.proofs.Fractions.{fraction_fits}
use Rattle.rule.proofs.Settings.hasher.Goals as goal

pub overflow_cast-result : goal.overflow_cast-result
overflow_cast-result c = omega (arith, fraction_fits c.from.result c.from-p.result 4294967296 (omega arith) (omega arith))

pub overflow_cast-result-2 : goal.overflow_cast-result-2
overflow_cast-result-2 c = omega (arith, fraction_fits c.from-2.result c.from-p.result 4294967296 (omega arith) (omega arith))

pub returns : goal.returns
returns c = simp (c.from-p.ensures, c.from.ensures, c.from-2.ensures)
