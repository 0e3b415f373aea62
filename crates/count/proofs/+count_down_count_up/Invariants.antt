-- Each one's measure is its difference d: each call is on modulus d, with a difference of at most half of d. Assumes nothing.
use Rattle.count.proofs.+count_down_count_up.Given as goal

abbrev pub decreases-count_down : goal.decreases-count_down
decreases-count_down l = l.d

abbrev pub decreases-count_up : goal.decreases-count_up
decreases-count_up l = l.d
