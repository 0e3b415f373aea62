-- `sums_of` meets its contract: after k turns both sums are those of the first k words, and small enough to fit. Assumes nothing.
use Rattle.std.proofs.Common.{ℕ, ◌≡◌, ◌*◌, ◌-◌, ◌≤◌, List, length, take, drop}
use Rattle.std.specs.Simd.{first_chunks}
use Rattle.std.specs.Slice.Iter.{iter_rest}
use Rattle.std.specs.Iterator.Adapters.{zip_first, zip_second, rev_source}
use Rattle.std.specs.Range.{range_inclusive_start, range_inclusive_left}
use Rattle.block.specs.Sums.{word, sum_to}
use Rattle.block.proofs.sums_of.Given as goal

abbrev pub invariant-loop-word : goal.invariant-loop-word
invariant-loop-word l =
    let k = length l.yielded in
    let s : List ℕ = take 508 l.s in
    record {
      count : k ≤ 254;
      words : iter_rest (zip_first l.word-iterator) ≡ first_chunks 2 (254 - k) (drop (2 * k) s);
      first : range_inclusive_start (rev_source (zip_second l.word-iterator)) ≡ 1;
      weights : range_inclusive_left (λ a b. b - a) (rev_source (zip_second l.word-iterator)) ≡ 254 - k;
      plain_fits : l.plain ≤ 65535 * k;
      weighted_fits : l.weighted ≤ 16645890 * k;
      plain : l.plain ≡ sum_to (λ i. word s i) k;
      weighted : l.weighted ≡ sum_to (λ i. (255 - i) * word s i) k;
    }
