-- `settle::parts::Parts::above` meets its contract. Assumes nothing.
use native.Mathlib.Omega.{arith}
use Rattle.rule.proofs.Passing.{top_small}
use Rattle.settle.proofs.parts.Parts.above.Goals as goal

pub overflow_add-next : goal.overflow_add-next
overflow_add-next c = omega (arith, c.requires, top_small _ c.args.self.now.around.good)

pub guessed-guess-requires : goal.guessed-guess-requires
guessed-guess-requires c = (omega (arith, c.requires, c.top.ensures), omega (arith, top_small _ c.args.self.now.around.good, c.top.ensures))
