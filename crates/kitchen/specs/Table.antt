-- The marked kitchen tests (RULES: Kitchen tests), and a few of ours after them: inputs and expected values as data, and what
-- each row says. Assumes nothing: these are definitions.
use Rattle.std.specs.Prelude.{ℕ, ◌*◌, ◌≡◌, Bool, true, false, ◌&&◌, not, List, [], ◌∷◌, ◌++◌, map, eqb, replicate}
use Rattle.std.specs.Float.{binary64}
use Rattle.std.specs.Float.Ieee.{to_bits}
use Rattle.lists.specs.Lists.{filter, range, same}
use Rattle.floats.specs.Quotients.{float, over}
use Rattle.rule.specs.declared.Settings.{Settings}
use Rattle.rule.specs.Rule.{hash, region, passes, top, all}
use Rattle.rule.specs.Refusals.{Paper, answered, refused}
use Rattle.find.specs.Finding.{count_on}
use Rattle.sketch.specs.declared.Sketch.{Sketch}
use Rattle.sketch.specs.Sketches.{is_sketch, cells_of, opened, add}
use Rattle.sketch.specs.Calls.{open_on, add_on}
use Rattle.sketch.specs.Estimates.{about, upper, lower, estimate_on}
use Rattle.block.specs.Little.{bytes_of, number_at}
use Rattle.block.specs.Sums.{plain_of, weighted_of, sealed}
use Rattle.layout.specs.Images.{body_of}

abbrev pub settings : ℕ → ℕ → ℕ → ℕ → ℕ → Settings
settings n p a b capacity = record { n = n; p = p; a = a; b = b; capacity = capacity }

-- settings Q
abbrev pub q : Settings
q = settings 10 101 37 5 16

-- a row: what is asked, and what is expected
pub data Row : Type 0 where
  hashes : Settings → List ℕ → Row
  regions : Settings → List ℕ → ℕ → Row
  passed : Settings → ℕ → List ℕ → Row
  counted : Settings → ℕ → ℕ → ℕ → ℕ → Row
  opening : Settings → Paper → Row
  adding : Settings → ℕ → ℕ → ℕ → List ℕ → ℕ → Row
  checked : List ℕ → ℕ → ℕ → Row
  divided : ℕ → ℕ → ℕ → Row

-- the sketch after opening and adding lo..hi
abbrev pub added : Settings → ℕ → ℕ → Sketch
added s lo hi = add (opened s) lo hi

-- the number of cells times p, divided by the region's size, is m
abbrev pub divides : Sketch → ℕ → Bool
divides k m = eqb (upper k) (m * lower k)

-- what a row says
abbrev pub Says : Row → Type 0
-- the hashes of 1..n
Says (hashes s hs) = map (hash s) (range 1 s.n) ≡ hs
-- the regions from level 0 to the top
Says (regions s rs t) = (map (region s) (range 0 (top s)) ≡ rs) × (top s ≡ t)
-- the cells of 1..n that pass at a level
Says (passed s level xs) = filter (passes s level) (range 1 s.n) ≡ xs
-- the range count at a level over lo..hi
Says (counted s level lo hi v) = count_on s level lo hi ≡ answered (v ∷ [])
-- the answer to opening
Says (opening s paper) = open_on s ≡ paper
-- opening and adding lo..hi, both answered: the level, the cells, and the estimate: about m
Says (adding s lo hi level xs m) =
    (open_on s ≡ answered [])
    × (add_on (opened s) lo hi ≡ answered [])
    × ((added s lo hi).level ≡ level)
    × (cells_of (added s lo hi) ≡ xs)
    × (estimate_on (added s lo hi) ≡ answered (about (float m)))
-- the two sums of what a block says, and the words that the sealed block holds at bytes 508 and 510
Says (checked body plain weighted) =
    (plain_of body ≡ plain) × (weighted_of body ≡ weighted) × (number_at 2 508 (sealed body) ≡ plain) × (number_at 2 510 (sealed body) ≡ weighted)
-- a / b as a float, by the 64 bits of that float
Says (divided a b bits) = to_bits binary64 (over a b) ≡ bits

abbrev pub table : List Row
table =
    -- 1
    hashes q (42 ∷ 79 ∷ 15 ∷ 52 ∷ 89 ∷ 25 ∷ 62 ∷ 99 ∷ 35 ∷ 72 ∷ []) ∷
    -- 2
    regions q (101 ∷ 50 ∷ 25 ∷ 12 ∷ 6 ∷ 3 ∷ 1 ∷ []) 6 ∷
    -- 3
    passed q 1 (1 ∷ 3 ∷ 6 ∷ 9 ∷ []) ∷
    passed q 2 (3 ∷ []) ∷
    -- 4
    counted q 3 1 10 0 ∷
    -- 5
    counted (settings 10 101 100 0 16) 1 1 10 0 ∷
    -- 6
    passed (settings 10 101 1 0 16) 4 (1 ∷ 2 ∷ 3 ∷ 4 ∷ 5 ∷ []) ∷
    -- 7
    adding (settings 10 101 1 0 1) 1 10 6 [] 0 ∷
    -- 8
    adding (settings 10 101 1 100 1) 1 10 6 (1 ∷ []) 101 ∷
    -- 9
    checked (body_of 1 (1 ∷ [])) 3 759 ∷
    -- 10
    opening (settings 10 99 37 5 16) (refused 1 0) ∷
    opening (settings 10 201 37 5 16) (refused 1 0) ∷
    opening (settings 10 100 3 5 16) (answered []) ∷
    opening (settings 10 100 50 5 16) (refused 1 0) ∷
    -- The rows from here on are ours: docs/RULES.md doesn't have them.
    -- n one above its last, with a p from 10n to 20n
    opening (settings 200000001 3000000019 37 5 16) (refused 1 0) ∷
    -- p 20n
    opening (settings 10 200 3 5 16) (answered []) ∷
    -- b at its last, and p
    opening (settings 10 101 37 100 16) (answered []) ∷
    opening (settings 10 101 37 101 16) (refused 1 0) ∷
    -- the capacity at its last, and one above
    opening (settings 10 101 37 5 504) (answered []) ∷
    opening (settings 10 101 37 5 505) (refused 1 0) ∷
    -- p 127 at the top, whose region has one hash
    adding (settings 12 127 1 126 1) 1 12 6 (1 ∷ []) 127 ∷
    -- a block of zeros but its last word, word 254, which is 1
    checked (replicate 506 0 ++ bytes_of 2 1) 1 1 ∷
    -- 4.04, and two cells of p 127 in a region of 3
    divided 101 25 4616234654051032105 ∷
    divided 254 3 4635658303943912107 ∷
    -- just above the middle of two floats, and just below: 412 cells of p 3298323644 and 431 of p 3665002712, both at level 20
    divided 1358909341328 3145 4736028802870619396 ∷
    divided 1579616168872 3495 4736362315938522379 ∷ []

-- the tests of a row, computed
abbrev pub same_paper : Paper → Paper → Bool
same_paper (answered xs) (answered ys) = same xs ys
same_paper (answered xs) (refused n b) = false
same_paper (refused n b) (answered ys) = false
same_paper (refused n b) (refused m c) = eqb n m && eqb b c

abbrev pub tests : Row → List Bool
tests (hashes s hs) = same (map (hash s) (range 1 s.n)) hs ∷ []
tests (regions s rs t) = same (map (region s) (range 0 (top s))) rs ∷ eqb (top s) t ∷ []
tests (passed s level xs) = same (filter (passes s level) (range 1 s.n)) xs ∷ []
tests (counted s level lo hi v) = same_paper (count_on s level lo hi) (answered (v ∷ [])) ∷ []
tests (opening s paper) = same_paper (open_on s) paper ∷ []
tests (adding s lo hi level xs m) =
    same_paper (open_on s) (answered []) ∷
    same_paper (add_on (opened s) lo hi) (answered []) ∷
    eqb (added s lo hi).level level ∷
    same (cells_of (added s lo hi)) xs ∷
    -- the estimate
    is_sketch (added s lo hi) ∷
    not (eqb (added s lo hi).level 0) ∷
    divides (added s lo hi) m ∷ []
tests (checked body plain weighted) =
    eqb (plain_of body) plain ∷
    eqb (weighted_of body) weighted ∷
    eqb (number_at 2 508 (sealed body)) plain ∷
    eqb (number_at 2 510 (sealed body)) weighted ∷ []
tests (divided a b bits) = eqb (to_bits binary64 (over a b)) bits ∷ []

unfoldable pub holds : Row → Bool
holds r = all (tests r)

-- every row of a table
abbrev pub all_hold : List Row → Bool
all_hold [] = true
all_hold (r ∷ rs) = holds r && all_hold rs

abbrev pub AllSay : List Row → Type 0
AllSay [] = Unit {0}
AllSay (r ∷ rs) = Says r × AllSay rs
