-- `host::stretches::add_known` meets its contract. Assumes nothing.
use Prim.Native.Nat.{ℕ}
use mathlib.Core.Path.{sym, ap, ◌∙◌}
use mathlib.Core.List.{List}
use Rattle.rule.specs.declared.Settings.{Settings}
use Rattle.find.specs.Finding.{in_range}
use Rattle.sketch.specs.Sketches.{held}
use Rattle.sketch.proofs.Facts.{facts_sketch}
use Rattle.crossing.specs.Crossing.{sketch_row}
use Rattle.crossing.proofs.Crossings.{settings-of_row, row-kept_in, cells_lent}
use Rattle.host.proofs.Outcomes.{adds-kept}
use Rattle.host.proofs.stretches.add_known.Goals as goal

pub add_to-kept-requires : goal.add_to-kept-requires
add_to-kept-requires c =
    let a = c.args in
    let s = c.settings_in-s.ensures in
    let w = row-kept_in a.sketch.now _ c.told-sketch s (facts_sketch _ c.requires.0) in
    (rw c.kept_in-mine.ensures w, ap (λ (t : Settings). in_range t a.lo a.hi) (s ∙ sym (settings-of_row a.sketch.now)) ∙ c.requires.1)

pub returns : goal.returns
returns c =
    let a = c.args in
    let s = c.settings_in-s in
    let add = c.add_to-kept in
    let kept = adds-kept a.sketch.now c.told-sketch s.ensures c.kept_in-mine.ensures a.lo a.hi add.ensures in
    c.put_head.ensures
    ∙ ap (λ (cells : List ℕ). sketch_row (held s.result add.result.level add.result.count cells)) (cells_lent a.sketch.now _ c.told-sketch)
    ∙ ap sketch_row kept
