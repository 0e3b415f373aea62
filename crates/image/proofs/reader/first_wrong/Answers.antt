-- `image::reader::first_wrong` meets its contract: the place of the first block whose check is wrong. Assumes nothing.
use Rattle.std.proofs.Common.{◌≡◌, ◌/◌, length, ◌∙◌, arith, rules, tests}
use Rattle.std.proofs.lemmas.Iterator.Splits.{YieldsList-from_shown_while}
use Rattle.std.proofs.lemmas.Iterator.Search.{position_from_yields_List}
use Rattle.std.specs.Simd.{first_chunks}
use Rattle.std.specs.Slice.Iter.{chunks_exact_rest, chunks_exact_size, chunks_exact_steps}
use Rattle.layout.proofs.Turns.{bad, cuts_end, cuts_turn, wrong_found}
use Rattle.image.proofs.reader.first_wrong.Goals as goal

pub returns : goal.returns
returns c =
    let s = c.args.s.now in
    let road =
    YieldsList-from_shown_while chunks_exact_steps (λ y. y.now) (λ t. first_chunks 512 (length (chunks_exact_rest t) / 512) (chunks_exact_rest t)) (λ t. chunks_exact_size t ≡ 512)
    (λ t u p h. cuts_end (chunks_exact_rest t) (omega (arith, h.1.0, p))) (λ t x u p h. (h.0 ∙ p, cuts_turn _ _ _ h.1.0 (h.1.1 ∙ p))) c.chunks_exact.result c.chunks_exact.ensures.size in
    let h = position_from_yields_List bad _ _ c.position.result c.position.ensures.ran road (λ x b q k. search (rules, tests)) in
    wrong_found s _ (rw c.chunks_exact.ensures.rest at h)
