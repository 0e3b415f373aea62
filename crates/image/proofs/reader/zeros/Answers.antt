-- `image::reader::zeros` meets its contract: a fold by `and` is the test. Assumes nothing.
use Rattle.std.proofs.Common.{ℕ, ◌≡◌, Bool, true, ◌&&◌, List, [], ◌∷◌, eqb, fold, sym, ◌∙◌, rules, tests}
use mathlib.Core.Bool.{and-true, and_assoc}
use Rattle.std.proofs.lemmas.Iterator.{YieldsList-from_slice}
use Rattle.std.proofs.lemmas.Iterator.Consumers.{fold_from_yields_List}
use Rattle.lists.specs.Rows.{all_zero}
use Rattle.image.proofs.reader.zeros.Goals as goal

fold_zero : (a : Bool) (xs : List ℕ) → fold (λ a x. a && eqb x 0) a xs ≡ (a && all_zero xs)
fold_zero a [] = sym (and-true a)
fold_zero a (x ∷ xs) = fold_zero (a && eqb x 0) xs ∙ and_assoc a (eqb x 0) (all_zero xs)

pub returns : goal.returns
returns c =
    fold_from_yields_List _ (λ a x. a && eqb x 0) true c.fold.result c.fold.ensures.ran (YieldsList-from_slice c.args.s.now cc)
    (λ a x b q k. search (rules, tests))
    ∙ fold_zero true c.args.s.now
