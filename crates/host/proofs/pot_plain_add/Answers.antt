-- `host::pot_plain_add` meets its contract. Assumes nothing.
use mathlib.Core.Path.{refl, sym, ap, ◌∙◌}
use Rattle.rule.specs.Refusals.{of_answer}
use Rattle.plain.proofs.Calls.{plain_granted}
use Rattle.crossing.specs.Crossing.{sketch_row}
use Rattle.crossing.proofs.Crossings.{row-kept_in}
use Rattle.host.proofs.Outcomes.{gives_refused, gives_done, plain_adds_told, adds-kept}
use Rattle.host.proofs.pot_plain_add.Goals as goal

pub fill-kept-requires : goal.fill-kept-requires
fill-kept-requires c =
    let a = c.args in
    let g = plain_granted _ c.settings_in-s.result a.lo a.hi (sym (ap of_answer c.in-Ok.is) ∙ c.add_answer.ensures) in
    let w = row-kept_in a.sketch.now _ c.told-sketch c.settings_in-s.ensures (sym c.is_sketch.ensures ∙ g.0) in
    (rw c.kept_in.ensures w.held, g.1, refl)

pub returns-in-Ok : goal.returns-in-Ok
returns-in-Ok c =
    let a = c.args in
    let row = a.sketch.now in
    let said = sym (ap of_answer c.in-Ok.is) ∙ c.add_answer.ensures in
    let kept = adds-kept row c.told-sketch c.settings_in-s.ensures c.kept_in.ensures a.lo a.hi c.fill-kept.ensures in
    gives_done _ _ (plain_adds_told row c.settings_in-s.ensures c.is_sketch.ensures a.lo a.hi said)
    (c.put_sketch.ensures ∙ ap sketch_row kept)

pub returns-in-Err : goal.returns-in-Err
returns-in-Err c =
    let a = c.args in
    let said = sym (ap of_answer c.in-Err.is) ∙ c.add_answer.ensures in
    gives_refused _ a.sketch.now _ c.told-sketch c.into.ensures
    (plain_adds_told a.sketch.now c.settings_in-s.ensures c.is_sketch.ensures a.lo a.hi said)
