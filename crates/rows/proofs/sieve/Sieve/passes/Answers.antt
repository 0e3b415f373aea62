-- `rows::sieve::Sieve::passes` meets its contract. Assumes nothing.
use Rattle.rows.specs.Sieves.{sifted}
use Rattle.rows.proofs.sieve.Sieve.passes.Goals as goal

pub returns : goal.returns
unfolding sifted
returns c = rw c.hash.ensures
