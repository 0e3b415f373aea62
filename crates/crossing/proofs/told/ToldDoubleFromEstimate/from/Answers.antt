-- `crossing::told`'s double of an estimate meets its contract: 0 is of no bits. Assumes nothing.
use mathlib.Core.Path.{refl}
use lib.Ieee.{of_int, of_bits}
use Rattle.crossing.proofs.told.ToldDoubleFromEstimate.from.Goals as goal

pub returns-in-Refused : goal.returns-in-Refused
unfolding of_int of_bits
returns-in-Refused c = rw c.in-Refused.is (record { number = refl; exact = refl; value = refl })
