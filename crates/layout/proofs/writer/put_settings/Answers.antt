-- `layout::writer::put_settings` meets its contract: five numbers stored one after the other. Assumes nothing.
use mathlib.Core.Path.{refl, ◌∙◌}
use mathlib.Core.List.{◌++◌}
use native.Mathlib.Omega.{arith}
use Rattle.block.specs.Little.{bytes_of}
use Rattle.layout.specs.Images.{settings_bytes}
use Rattle.layout.proofs.Puts.{put_next, word-placed}
use Rattle.layout.proofs.writer.put_settings.Goals as goal

pub returns : goal.returns
unfolding settings_bytes bytes_of
returns c =
    let a = c.args in
    let row = a.s.now in
    let n = bytes_of 4 a.settings.n in
    let p = bytes_of 4 a.settings.p in
    let q = bytes_of 4 a.settings.a in
    let b = bytes_of 4 a.settings.b in
    let s2 = put_next row 4 8 n p (omega arith) refl c.put_number.ensures c.put_number-2.ensures in
    let s3 = put_next row 4 12 (n ++ p) q (omega arith) refl s2 c.put_number-3.ensures in
    let s4 = put_next row 4 16 (n ++ p ++ q) b (omega arith) refl s3 c.put_number-4.ensures in
    put_next row 4 20 (n ++ p ++ q ++ b) (bytes_of 2 a.settings.capacity) (omega arith) refl s4
    (c.put_word.ensures ∙ word-placed c.put_number-4.new.s 20 a.settings.capacity)
