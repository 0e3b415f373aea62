-- `layout::writer::put_head` meets its contract: stores in zeros, by the law of the content of block 0. Assumes nothing.
use mathlib.Core.Path.{sym, ap, ◌∙◌}
use mathlib.Core.List.{[], append-nil}
use Prim.Native.Nat.{ℕ}
use Prim.{tt}
use lib.Dec.{lit≤}
use native.Mathlib.Omega.{arith}
use lib.ListN.{length}
use Rattle.lists.specs.Rows.{placed}
use Rattle.block.specs.Little.{number_of}
use Rattle.block.specs.Sums.{sealed}
use Rattle.layout.specs.Images.{mark, fields_of}
use Rattle.layout.proofs.Puts.{fields_filled, head_filled}
use Rattle.layout.proofs.writer.put_head.Goals as goal

pub returns : goal.returns
unfolding mark number_of
returns c =
    let a = c.args in
    let n : ℕ = length a.s.now in
    let cleared = c.fill.ensures.after (λ y h. h) in
    let filled =
    fields_filled n (omega arith) cleared mark a.settings a.level a.count
    c.put_number.ensures c.put_settings.ensures c.put_word.ensures c.put_word-2.ensures in
    c.seal.ensures
    ∙ ap sealed (head_filled n (omega arith) cleared mark [] a.settings a.level a.count (lit≤ tt)
    (filled ∙ ap (placed c.fill.new.self 0) (sym (append-nil (fields_of mark a.settings a.level a.count)))))
