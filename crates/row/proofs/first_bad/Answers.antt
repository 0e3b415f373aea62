-- `row::first_bad` meets its contract. Assumes nothing.
use mathlib.Core.Path.{◌∙◌}
use mathlib.Core.Bool.{not}
use borrow.Author.Tests.{tests}
use borrow.Author.Rules.{rules}
use Rattle.std.proofs.lemmas.Iterator.{YieldsList-from_slice}
use Rattle.std.proofs.lemmas.Iterator.Adapters.{position_from-zero}
use Rattle.std.proofs.lemmas.Iterator.Search.{position_from_yields_List}
use Rattle.row.specs.declared.Stretch.{Stretch}
use Rattle.row.specs.Stretches.{within}
use Rattle.row.proofs.Places.{place_found}
use Rattle.row.proofs.first_bad.Goals as goal

pub returns : goal.returns
returns c =
    let a = c.args in
    position_from_yields_List (λ (t : Stretch). not (within a.settings t)) _ _ c.position.result c.position.ensures.ran (YieldsList-from_slice a.row.now cc) (λ x b q k. search (rules, tests))
    ∙ position_from-zero (λ (t : Stretch). not (within a.settings t)) a.row.now ∙ place_found a.settings a.row.now
