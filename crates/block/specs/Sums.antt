-- The two check sums of a block of 512 bytes. Assumes nothing.
use Rattle.std.specs.Prelude.{ℕ, zero, suc, ◌+◌, ◌*◌, ◌-◌, ◌%◌, Bool, ◌&&◌, List, ◌++◌, eqb}
use Rattle.block.specs.Little.{bytes_of, number_at}

-- word i of 16 bits, from word 1 at bytes 0 and 1
abbrev pub word : List ℕ → ℕ → ℕ
word s i = number_at 2 (2 * (i - 1)) s

-- f 1 + .. + f k
unfoldable pub sum_to : (ℕ → ℕ) → ℕ → ℕ
sum_to f zero = 0
sum_to f (suc k) = sum_to f k + f (suc k)

-- the sum of the words w1 .. w254, modulo 65535 (RULES: Image)
unfoldable pub plain_of : List ℕ → ℕ
plain_of s = sum_to (λ i. word s i) 254 % 65535

-- the sum of (255 - i) · wi, modulo 65535 (RULES: Image)
unfoldable pub weighted_of : List ℕ → ℕ
weighted_of s = sum_to (λ i. (255 - i) * word s i) 254 % 65535

-- bytes 508 and 509 hold the first sum, 510 and 511 the second; a sum is below 65535, so a stored 65535 is wrong
unfoldable pub block_good : List ℕ → Bool
block_good s = eqb (number_at 2 508 s) (plain_of s) && eqb (number_at 2 510 s) (weighted_of s)

-- 508 bytes of content, and their two sums
unfoldable pub sealed : List ℕ → List ℕ
sealed body = body ++ (bytes_of 2 (plain_of body) ++ bytes_of 2 (weighted_of body))
