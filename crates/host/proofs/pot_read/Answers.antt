-- `host::pot_read` meets its contract: the sketch and the block cross. Assumes nothing.
use mathlib.Core.Path.{refl, subst}
use Rattle.std.specs.Prelude.{Result}
use Rattle.rule.specs.declared.refusals.ReadError.{ReadError}
use Rattle.image.specs.declared.Header.{Header}
use Rattle.image.specs.Calls.{Reads, loaded_with}
use Rattle.host.proofs.Outcomes.{read_told}
use Rattle.host.proofs.pot_read.Goals as goal

pub returns-in-Ok : goal.returns-in-Ok
returns-in-Ok c =
    let cells = c.read_into.new.cells in
    let l = subst (λ (r : Result Header ReadError). Reads c.args.bytes.now (loaded_with r cells)) c.in-Ok.is c.read_into.ensures in
    read_told c.args.sketch.now l c.into.ensures c.told-sketch refl c.put_head.ensures

pub returns-in-Err : goal.returns-in-Err
returns-in-Err c =
    let cells = c.read_into.new.cells in
    let l = subst (λ (r : Result Header ReadError). Reads c.args.bytes.now (loaded_with r cells)) c.in-Err.is c.read_into.ensures in
    read_told c.args.sketch.now l c.into-in-Err.ensures c.told-sketch c.no_settings.ensures c.put_head-in-Err.ensures
