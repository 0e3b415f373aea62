-- The measure is the modulus p: the call is on the modulus a, which is less. Assumes nothing.
use Rattle.next.proofs.+search.Given as goal

abbrev pub decreases-search : goal.decreases-search
decreases-search l = l.p
