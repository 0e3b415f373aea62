-- `host::pot_merge` meets its contract. Assumes nothing.
use mathlib.Core.Path.{refl, sym, ap, ◌∙◌}
use native.Mathlib.Omega.{arith}
use lib.Seq.{length-take-le}
use Rattle.rule.specs.Refusals.{of_answer}
use Rattle.sketch.proofs.Handing.{merge_granted}
use Rattle.crossing.specs.Crossing.{sketch_row}
use Rattle.crossing.proofs.Crossings.{row-kept_in}
use Rattle.host.proofs.Outcomes.{gives_refused, gives_done, merges_told, merges_kept}
use Rattle.host.proofs.pot_merge.Goals as goal

pub merge_to-kept-requires : goal.merge_to-kept-requires
merge_to-kept-requires c =
    let g = merge_granted _ _ _ _ (sym (ap of_answer c.in-Ok.is) ∙ c.merge_answer.ensures) in
    let m = row-kept_in c.args.sketch.now _ c.told-sketch c.settings_in-s.ensures (sym c.is_sketch.ensures ∙ g.0) in
    let i = row-kept_in c.args.other.now _ c.told-other (g.2 ∙ c.settings_in.ensures) (sym c.is_sketch-2.ensures ∙ g.1) in
    (rw c.kept_in.ensures m.held, rw c.kept_in-its.ensures i.held, refl)

pub slice_bounds-both-end : goal.slice_bounds-both-end
slice_bounds-both-end c = sym (length-take-le 504 c.merge_to-kept.new.out (omega (arith, c.merge_to-kept.auto.out)))

pub invariant_of-both : goal.invariant_of-both
invariant_of-both c = record { places = length-take-le 504 c.merge_to-kept.new.out (omega (arith, c.merge_to-kept.auto.out)) }

pub returns-in-Ok : goal.returns-in-Ok
returns-in-Ok c =
    let row = c.args.sketch.now in
    let other = c.args.other.now in
    let said = sym (ap of_answer c.in-Ok.is) ∙ c.merge_answer.ensures in
    let g = merge_granted _ _ _ _ said in
    let s = c.settings_in-s.ensures in
    let t = c.settings_in.ensures in
    let k = c.is_sketch.ensures in
    let j = c.is_sketch-2.ensures in
    let kept = merges_kept row c.told-sketch s c.kept_in.ensures other c.told-other c.kept_in-its.ensures (sym k ∙ g.0) (sym j ∙ g.1) (g.2 ∙ t) in
    gives_done _ _ (merges_told row s k other t j said) (c.put_sketch.ensures ∙ ap sketch_row (kept c.merge_to-kept.ensures))

pub returns-in-Err : goal.returns-in-Err
returns-in-Err c =
    let said = sym (ap of_answer c.in-Err.is) ∙ c.merge_answer.ensures in
    gives_refused _ c.args.sketch.now _ c.told-sketch c.into.ensures
    (merges_told c.args.sketch.now c.settings_in-s.ensures c.is_sketch.ensures c.args.other.now c.settings_in.ensures
    c.is_sketch-2.ensures said)
