-- `crossing::put_sketch` meets its contract. Assumes nothing.
use mathlib.Core.Path.{ap, ◌∙◌}
use mathlib.Core.List.{List}
use Prim.Native.Nat.{ℕ}
use Rattle.sketch.specs.Sketches.{held}
use Rattle.crossing.specs.Crossing.{sketch_row}
use Rattle.crossing.proofs.Crossings.{cells-stored}
use Rattle.crossing.proofs.put_sketch.Goals as goal

pub returns : goal.returns
returns c =
    let k = c.args.sketch in
    c.put_head.ensures
    ∙ ap (λ (l : List ℕ). sketch_row (held k.settings k.level k.count l))
    (cells-stored c.args.row.now k.cells.now c.told-row k.places c.store.ensures)
