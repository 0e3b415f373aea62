-- What the reader tests on the bytes themselves. Assumes nothing: these are definitions.
use Rattle.std.specs.Prelude.{ℕ, zero, suc, ◌+◌, ◌*◌, ◌-◌, ◌/◌, ◌≤◌, min, ◌≡◌, Bool, true, not, ◌&&◌, List, eqb, length, take, drop}
use Rattle.lists.specs.Searches.{least}
use Rattle.lists.specs.Rows.{all_zero}
use Rattle.block.specs.Little.{number_at}
use Rattle.block.specs.Sums.{block_good}
use Rattle.layout.specs.Images.{blocks_for, said_count}

-- the bytes from place a to before place e
abbrev pub span : ℕ → ℕ → List ℕ → List ℕ
span a e s = take (e - a) (drop a s)

-- block i, counted from 0
abbrev pub block_at : ℕ → List ℕ → List ℕ
block_at i s = take 512 (drop (512 * i) s)

-- how many blocks there are
abbrev pub blocks_in : List ℕ → ℕ
blocks_in s = length s / 512

-- the first block whose check is wrong; the number of blocks where none is
unfoldable pub first_wrong : List ℕ → ℕ
first_wrong s = least (λ i. not (block_good (block_at i s))) (blocks_in s) 0

-- one to five blocks, nothing over
pub record Blocks (s : List ℕ) : Type 0 where
  pub some : 512 ≤ length s
  pub few : length s ≤ 2560
  pub whole : length s ≡ 512 * blocks_in s

-- a cell block says its number and how many cells it holds, and has zeros after them
unfoldable pub block_shaped : ℕ → ℕ → List ℕ → Bool
block_shaped i many s = eqb (number_at 2 0 s) i && (eqb (number_at 2 2 s) many && all_zero (span (4 + 4 * many) 508 s))

-- so do m cell blocks from block i on, and every one but the last is full
unfoldable pub blocks_shaped : ℕ → ℕ → ℕ → List ℕ → Bool
blocks_shaped zero i count s = true
blocks_shaped (suc m) i count s = block_shaped i (min 126 count) (take 512 s) && blocks_shaped m (suc i) (count - 126) (drop 512 s)

-- as many blocks as the cells need, zeros in block 0 from a place on, and cell blocks in order
unfoldable pub shaped : ℕ → List ℕ → Bool
shaped from s =
    eqb (blocks_in s) (1 + blocks_for (said_count s))
    && (all_zero (span from 508 s) && blocks_shaped (blocks_for (said_count s)) 1 (said_count s) (drop 512 s))
