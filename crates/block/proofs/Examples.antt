-- Kitchen test 9: block 1 with the one cell 1 has the check words 3 and 759. Assumes nothing.
use Prim.Native.Nat.{ℕ}
use mathlib.Core.Path.{◌≡◌, refl}
use mathlib.Core.List.{List, ◌∷◌}
use lib.ListN.{replicate}
use Rattle.block.specs.Little.{number_of}
use Rattle.block.specs.Sums.{sum_to, plain_of, weighted_of}

-- the block's number, how many cells it holds, the cell, and zeros
abbrev pub one_cell : List ℕ
one_cell = 1 ∷ 0 ∷ 1 ∷ 0 ∷ 1 ∷ 0 ∷ 0 ∷ 0 ∷ replicate 500 0

pub one_cell_lem : (plain_of one_cell ≡ 3) × (weighted_of one_cell ≡ 759)
unfolding plain_of weighted_of sum_to number_of
one_cell_lem = (refl, refl)
