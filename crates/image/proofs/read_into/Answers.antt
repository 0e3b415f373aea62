-- `image::read_into` meets its contract: a case for each refusal, in order. Assumes nothing.
use mathlib.Core.Path.{sym, ap, ◌∙◌}
use lib.ListN.{replicate}
use native.Mathlib.Omega.{arith}
use Rattle.image.proofs.Answers.{length_facts, read_length, read_check, read_mark, read_on_lem}
use Rattle.image.proofs.read_into.Goals as goal

pub returns-then-not-right_length : goal.returns-then-not-right_length
returns-then-not-right_length c =
    read_length _ _ (c.fill.ensures.after (λ y h. h) ∙ ap (λ n. replicate n 0) c.requires) (sym c.right_length.ensures ∙ c.if-not-right_length.true)

pub first_wrong-requires : goal.first_wrong-requires
first_wrong-requires c = length_facts c.args.bytes.now (sym c.right_length.ensures ∙ c.if-not-right_length.false)

pub overflow_cast-block : goal.overflow_cast-block
overflow_cast-block c =
    let whole = length_facts c.args.bytes.now (sym c.right_length.ensures ∙ c.if-not-right_length.false) in
    omega (arith, whole.few, c.in-Some.ensures.1)

pub returns-in-Some : goal.returns-in-Some
returns-in-Some c =
    read_check _ _ (c.fill.ensures.after (λ y h. h) ∙ ap (λ n. replicate n 0) c.requires) (sym c.right_length.ensures ∙ c.if-not-right_length.false)
    _ c.in-Some.ensures.0 c.in-Some.ensures.1

pub has_mark-requires : goal.has_mark-requires
has_mark-requires c = (length_facts c.args.bytes.now (sym c.right_length.ensures ∙ c.if-not-right_length.false)).some

pub returns-then-not-has_mark : goal.returns-then-not-has_mark
returns-then-not-has_mark c =
    read_mark _ _ (c.fill.ensures.after (λ y h. h) ∙ ap (λ n. replicate n 0) c.requires) (sym c.right_length.ensures ∙ c.if-not-right_length.false)
    c.in_default.ensures (sym c.has_mark.ensures.0 ∙ c.if-not-has_mark.true)

pub read_marked-requires : goal.read_marked-requires
read_marked-requires c = (
  record {
    blocks = length_facts c.args.bytes.now (sym c.right_length.ensures ∙ c.if-not-right_length.false);
    bytes = c.has_mark.ensures.1;
    right = c.in_default.ensures;
    mark = sym c.has_mark.ensures.0 ∙ c.if-not-has_mark.false;
  },
  c.fill.ensures.after (λ y h. h) ∙ ap (λ n. replicate n 0) c.requires,
)

pub returns : goal.returns
returns c =
    read_on_lem _ (sym c.right_length.ensures ∙ c.if-not-right_length.false) c.in_default.ensures
    (sym c.has_mark.ensures.0 ∙ c.if-not-has_mark.false) _ c.read_marked.ensures
