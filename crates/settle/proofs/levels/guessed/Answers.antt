-- `settle::levels::guessed` meets its contract. Assumes nothing.
use native.Mathlib.Omega.{arith}
use lib.Count.{leading_le}
use Rattle.settle.proofs.levels.guessed.Goals as goal

pub overflow_add-level : goal.overflow_add-level
overflow_add-level c = omega (arith, leading_le 64 c.args.capacity, c.requires.0, c.requires.1)
