-- What is left of the piece is what the turn left of it.
use Rattle.std.proofs.Common.{rules}
use native.Mathlib.Omega.{arith}
use mathlib.Core.Path.{◌∙◌, sym}
use Rattle.evening.proofs.Pieces.{feeds_some, feeds_within, feeds_sits, piece_length}
use Rattle.console.specs.Serving.{served}
use Rattle.console.proofs.Rest.{feeds_rest, fed_none}
use Rattle.console.proofs.serve_piece.Goals as goal

pub slice_bounds-rest-count : goal.slice_bounds-rest-count
slice_bounds-rest-count g c = feeds_within c.feed-fed.ensures

pub slice_bounds-rest-start : goal.slice_bounds-rest-start
slice_bounds-rest-start g c = omega (arith, feeds_within c.feed-fed.ensures)

pub loop-rest-smaller : goal.loop-rest-smaller
loop-rest-smaller g c =
    omega (arith, feeds_within c.feed-fed.ensures, feeds_some c.feed-fed.ensures (search rules) (search rules), piece_length c.loop-rest.rest.now c.feed-fed.result.taken)

pub loop-rest-preserved : goal.loop-rest-preserved
loop-rest-preserved g c = (feeds_rest c.feed-fed.ensures ∙ c.loop-rest.invariant.0, feeds_sits c.feed-fed.ensures c.loop-rest.invariant.1)

pub returns-clause-evening : goal.returns-clause-evening
unfolding served
returns-clause-evening g c = sym (fed_none c.loop-rest.s c.loop-rest.rest.now (search rules)) ∙ c.loop-rest.invariant.0
