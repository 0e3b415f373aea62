-- `stores::slide` meets its contract. Assumes nothing.
use Prim.Native.Nat.{◌-◌}
use mathlib.Core.Path.{◌≡◌, ◌∙◌}
use mathlib.Core.List.{append_assoc}
use native.Mathlib.Omega.{arith}
use lib.ListN.{length, take, drop, length-drop}
use lib.Seq.{length-take-le}
use Rattle.lists.proofs.Steps.{slice_part}
use Rattle.stores.proofs.slide.Goals as goal

pub returns : goal.returns
returns c =
    let a = c.args in
    let part = drop a.from a.out.now in
    let many : length (take (a.end - a.from) part) ≡ a.end - a.from = length-take-le (a.end - a.from) part (omega (arith, length-drop a.from a.out.now)) in
    rw (slice_part a.from a.end a.out.now) (record { next_place = omega arith; contents = rw many (c.copy_within.ensures.after ∙ append_assoc (take a.at a.out.now) (take (a.end - a.from) part) _) })
