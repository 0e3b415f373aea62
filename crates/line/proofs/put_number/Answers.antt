-- `line::put_number` meets its contract: with the digits that are left, the whole number is stored. Assumes nothing.
use Prim.Native.Nat.{◌+◌, ◌-◌}
use mathlib.Core.Path.{◌≡◌, sym, ap, ◌∙◌}
use native.Mathlib.Omega.{arith}
use lib.ListN.{length}
use Rattle.lists.specs.Rows.{placed}
use Rattle.lists.proofs.Places.{placed-none}
use Rattle.line.specs.Texts.{decimal}
use Rattle.line.proofs.Decimals.{last_digits, decimal-length, decimal-last}
use Rattle.line.proofs.Stores.{digit-stored}
use Rattle.line.proofs.put_number.Goals as goal

pub overflow_add-end : goal.overflow_add-end
overflow_add-end c = omega (arith, c.width.ensures, decimal-length c.args.x)

pub loop-i-init : goal.loop-i-init
loop-i-init c =
    let a = c.args in
    let e : a.at + c.width.result - a.at ≡ length (decimal a.x) = omega (arith, c.width.ensures) in
    (omega arith, omega (arith, c.width.ensures, decimal-length a.x), rw e (ap (placed a.out.now a.at) (sym (decimal-last a.x))))

pub loop-i-preserved : goal.loop-i-preserved
loop-i-preserved c = (
  omega arith,
  omega arith,
  digit-stored c.loop-i.out c.args.at c.loop-i.i c.loop-i.y (omega arith) (omega (arith, c.requires)) ∙ c.loop-i.invariant.2,
)

pub returns : goal.returns
returns c =
    let a = c.args in
    let e : c.loop-i.i - a.at ≡ 0 = omega arith in
    record {
      contents = sym (placed-none c.loop-i.out a.at) ∙ ap (λ k. placed c.loop-i.out a.at (last_digits k c.loop-i.y)) (sym e) ∙ c.loop-i.invariant.2;
      next_place = ap (λ k. a.at + k) c.width.ensures;
    }
