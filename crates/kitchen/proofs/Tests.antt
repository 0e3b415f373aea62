-- The kitchen table holds: one computed test over all of it, and one law that turns the test into what each row says. Assumes nothing.
use Prim.Native.Nat.{ℕ}
use mathlib.Core.Path.{◌≡◌, refl, ap, ◌∙◌}
use mathlib.Core.Bool.{true, false, and-eq-true_iff, false≢true}
use mathlib.Core.List.{List, [], ◌∷◌}
use lib.Dec.{eqb}
use lib.Ieee.{Float, to_bits, of_int, round, div}
use borrow.Author.Tests.{eqb-true, eqb-false, not-true}
use Rattle.lists.specs.Lists.{same}
use Rattle.lists.proofs.Same.{same_true}
use Rattle.floats.specs.Quotients.{float, over}
use Rattle.rule.specs.Rule.{hash, region, passes, top, is_good, common_divisor, divides_both}
use Rattle.rule.specs.Samples.{range_count, passing, sample, fits, lowest}
use Rattle.rule.specs.Refusals.{Paper, answered, refused}
use Rattle.rule.proofs.Facts.{each as all_true}
use Rattle.find.specs.Finding.{count_on}
use Rattle.sketch.specs.Sketches.{is_sketch, sketch_at, sketch_from, cells_of, opened, add}
use Rattle.sketch.specs.Calls.{open_on, add_on}
use Rattle.sketch.specs.Estimates.{about, estimate_on}
use Rattle.sketch.proofs.Worth.{float-exact, weighs_about}
use Rattle.sketch.proofs.Facts.{sketch_facts}
use Rattle.sketch.specs.declared.Sketch.{Sketch}
use Rattle.block.specs.Little.{bytes_of, number_of}
use Rattle.block.specs.Sums.{sum_to, plain_of, weighted_of, sealed}
use Rattle.layout.specs.Images.{body_of, cell_bytes}
use Rattle.kitchen.specs.Table.{Row, added, divides, hashes, regions, passed, counted, opening, adding, checked, divided, Says, table, same_paper}
use Rattle.kitchen.specs.Table.{tests, holds, all_hold, AllSay}

pub test : all_hold table ≡ true
unfolding holds same is_sketch hash region passes top is_good common_divisor divides_both range_count passing sample fits lowest count_on
    sketch_at sketch_from cells_of opened add open_on add_on bytes_of number_of sum_to plain_of weighted_of sealed body_of cell_bytes to_bits over div of_int round
test = refl

same_paper_lem : (x y : Paper) → same_paper x y ≡ true → x ≡ y
same_paper_lem (answered xs) (answered ys) e = ap answered (same_true xs ys e)
same_paper_lem (answered xs) (refused n b) e = absurd (false≢true e)
same_paper_lem (refused n b) (answered ys) e = absurd (false≢true e)
same_paper_lem (refused n b) (refused m c) e =
    let h = (and-eq-true_iff (eqb n m) (eqb b c)).0 e in
    let i : n ≡ m = eqb-true n m h.0 in
    let j : b ≡ c = eqb-true b c h.1 in
    cc

-- a sketch above level 0 is estimated as about m, where the region's size divides
above : (k : Sketch) (m : ℕ) → is_sketch k ≡ true → eqb k.level 0 ≡ false → divides k m ≡ true → estimate_on k ≡ answered (about (float m))
above k m a b e =
    weighs_about k a (eqb-false k.level 0 b) ∙ ap (λ (x : Float). answered (about x)) (float-exact k (sketch_facts k a) m (eqb-true _ _ e))

-- a row that holds is true
pub says : (r : Row) → holds r ≡ true → Says r
unfolding holds
says (hashes s hs) e = same_true _ _ (all_true (tests (hashes s hs)) e).0
says (regions s rs t) e = let h = all_true (tests (regions s rs t)) e in (same_true _ _ h.0, eqb-true _ _ h.1.0)
says (passed s level xs) e = same_true _ _ (all_true (tests (passed s level xs)) e).0
says (counted s level lo hi v) e = same_paper_lem _ _ (all_true (tests (counted s level lo hi v)) e).0
says (opening s paper) e = same_paper_lem _ _ (all_true (tests (opening s paper)) e).0
says (adding s lo hi level xs m) e =
    let k = added s lo hi in
    let h = all_true (tests (adding s lo hi level xs m)) e in
    let estimate = h.1.1.1.1 in (
      same_paper_lem _ _ h.0,
      same_paper_lem _ _ h.1.0,
      eqb-true _ _ h.1.1.0,
      same_true _ _ h.1.1.1.0,
      above k m estimate.0 (not-true (eqb k.level 0) estimate.1.0) estimate.1.1.0,
    )
says (checked body plain weighted) e =
    let h = all_true (tests (checked body plain weighted)) e in
    (eqb-true _ _ h.0, eqb-true _ _ h.1.0, eqb-true _ _ h.1.1.0, eqb-true _ _ h.1.1.1.0)
says (divided a b bits) e = eqb-true _ _ (all_true (tests (divided a b bits)) e).0

pub all_say : (rs : List Row) → all_hold rs ≡ true → AllSay rs
all_say [] e = tt
all_say (r ∷ rs) e = let h = (and-eq-true_iff (holds r) (all_hold rs)).0 e in (says r h.0, all_say rs h.1)

-- every row of the table is true
pub kitchen : AllSay table
kitchen = all_say table test
