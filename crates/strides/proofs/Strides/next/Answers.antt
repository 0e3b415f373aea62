-- `strides::Strides::next` meets its contract. Assumes nothing.
use native.Mathlib.Omega.{arith}
use Rattle.strides.proofs.Gaps.{up_next, down_next, both_next}
use Rattle.strides.proofs.Strides.next.Goals as goal

pub returns-then-h-self : goal.returns-then-h-self
returns-then-h-self c = up_next _ _ _ _ _ c.requires.0 c.requires.1 c.requires.2 (omega arith)

pub returns-then-down-h : goal.returns-then-down-h
returns-then-down-h c = down_next _ _ _ _ _ c.requires.0 c.requires.1 c.requires.2 (omega arith)

pub returns-else-down-h : goal.returns-else-down-h
returns-else-down-h c = both_next _ _ _ _ _ c.requires.0 c.requires.1 c.requires.2 (omega arith) (omega arith)
