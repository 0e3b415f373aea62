-- `host::pot_add` meets its contract. Assumes nothing.
use mathlib.Core.Path.{sym, ap, ◌∙◌}
use Rattle.rule.specs.declared.Settings.{Settings}
use Rattle.rule.specs.Refusals.{of_answer}
use Rattle.find.specs.Finding.{in_range}
use Rattle.sketch.proofs.Facts.{sketch_facts}
use Rattle.sketch.proofs.Handing.{add_granted}
use Rattle.crossing.proofs.Crossings.{settings-of_row}
use Rattle.host.proofs.Outcomes.{gives_refused, gives_done, adds-told}
use Rattle.host.proofs.pot_add.Goals as goal

pub add_known-requires : goal.add_known-requires
add_known-requires c =
    let a = c.args in
    let g = add_granted _ c.settings_in.result a.lo a.hi (sym (ap of_answer c.in-Ok.is) ∙ c.add_answer.ensures) in (
      sketch_facts _ (sym c.is_sketch.ensures ∙ g.0),
      ap (λ (t : Settings). in_range t a.lo a.hi) (settings-of_row a.sketch.now ∙ sym c.settings_in.ensures) ∙ g.1,
    )

pub returns-in-Ok : goal.returns-in-Ok
returns-in-Ok c =
    let a = c.args in
    let said = sym (ap of_answer c.in-Ok.is) ∙ c.add_answer.ensures in
    gives_done _ _ (adds-told a.sketch.now c.settings_in.ensures c.is_sketch.ensures a.lo a.hi said) c.add_known.ensures

pub returns-in-Err : goal.returns-in-Err
returns-in-Err c =
    let a = c.args in
    let said = sym (ap of_answer c.in-Err.is) ∙ c.add_answer.ensures in
    gives_refused _ a.sketch.now _ c.told-sketch c.into.ensures
    (adds-told a.sketch.now c.settings_in.ensures c.is_sketch.ensures a.lo a.hi said)
