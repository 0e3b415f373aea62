-- `folded` meets its contract: the shift divides by 65536, and the mask takes the remainder. Assumes nothing.
use native.Mathlib.Omega.{arith}
use lib.Bits.{and_mask}
use Rattle.block.specs.Folds.{folded}
use Rattle.block.proofs.folded.Goals as goal

pub overflow_add-result : goal.overflow_add-result
overflow_add-result c = omega (arith, and_mask c.args.x 16)

pub returns : goal.returns
unfolding folded
returns c = omega (arith, and_mask c.args.x 16)
