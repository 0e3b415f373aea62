-- The listing (RULES: Program) as a table: each line, and its answer.
--     listing         the table
--     listing_right   the program writes the answers, whole, where it is given the lines
-- Assumes nothing.
use mathlib.Core.Path.{◌≡◌, refl}
use mathlib.Core.List.{List, [], ◌∷◌, ◌++◌, map}
use Prim.Native.Nat.{ℕ}
use Prim.Native.String.{String}
use Rattle.rule.specs.Rule.{divides_both, common_divisor, is_good, hash, region, passes, top}
use Rattle.rule.specs.Samples.{passing, sample, fits, lowest, range_count, next_hit}
use Rattle.find.specs.Finding.{count_on, next_on}
use Rattle.sketch.specs.Sketches.{sketch_at, cells_of, is_sketch, sketch_from, opened, add}
use Rattle.sketch.specs.Calls.{open_on, add_on}
use Rattle.sketch.specs.Estimates.{stands_at}
use Rattle.line.specs.Lines.{command_of}
use Rattle.line.specs.Texts.{bytes, decimal}
use Rattle.evening.specs.Replies.{reply_to, reply_of}
use Rattle.evening.specs.Runs.{output_of}

abbrev pub listing : List (String × String)
listing =
    ("S 10 101 37 5 3", "K 0 0") ∷
    ("A 1 2", "K 0 2") ∷
    ("A 2 4", "K 1 2") ∷
    ("A 6 6", "K 1 3") ∷
    ("A 9 10", "K 2 1") ∷
    ("E", "E about 4") ∷
    ("C 1 1 10", "C 4") ∷
    ("N 1 4", "N 6") ∷
    ("N 2 4", "N none") ∷
    ("A 0 3", "R 2") ∷ []

-- lines as bytes, a newline after each
abbrev pub written : List String → List ℕ
written [] = []
written (l ∷ ls) = bytes l ++ (bytes "\n" ++ written ls)

pub listing_right : output_of (written (map (λ r. r.0) listing)) ≡ written (map (λ r. r.1) listing)
unfolding output_of reply_of reply_to command_of decimal
    divides_both common_divisor is_good hash region passes top passing sample fits lowest range_count next_hit
    count_on next_on sketch_at cells_of is_sketch sketch_from opened add open_on add_on stands_at
listing_right = refl
