-- `rows::sieve::Sieve::of` meets its contract. Assumes nothing.
use mathlib.Core.Path.{◌≡◌, ap, fun_ext}
use Rattle.rule.specs.Rule.{passes}
use Rattle.rows.specs.Sieves.{sifted}
use Rattle.rows.proofs.sieve.Sieve.of.Goals as goal

pub returns : goal.returns
unfolding sifted passes
returns c =
    let own : c.hasher.result.settings ≡ c.args.settings = ap (λ h. h.settings) c.hasher.ensures in
    fun_ext (λ x. rw (own, c.region.ensures))
