-- `image::reader::read_marked` meets its contract: the shape is right just when the bytes are the image of what they spell. Assumes nothing.
use Prim.Native.Nat.{ℕ}
use mathlib.Core.Path.{◌≡◌, sym, ap, ◌∙◌}
use lib.ListN.{length, replicate, length-replicate}
use Rattle.layout.specs.Images.{fields_end, said_level, said_count}
use Rattle.layout.proofs.Spelling.{spelled-parts}
use Rattle.image.proofs.Answers.{marked-shape, marked-sketch, marked_done, shaped-size}
use Rattle.image.proofs.reader.read_marked.Goals as goal

pub returns-then-not-well_shaped : goal.returns-then-not-well_shaped
returns-then-not-well_shaped c = marked-shape c.args.s.now c.requires.0 _ c.requires.1 _ c.fault.ensures (sym c.well_shaped.ensures ∙ c.if-not-well_shaped.true)

pub copy_all-requires : goal.copy_all-requires
unfolding said_count
copy_all-requires c =
    let size =
    shaped-size c.args.s.now fields_end c.requires.0.blocks (sym c.well_shaped.ensures ∙ c.if-not-well_shaped.false) _
    (c.from-count.ensures ∙ c.word_at-2.ensures.0) in
    (c.requires.1, size.0, size.1)

pub invariant_of-sketch : goal.invariant_of-sketch
invariant_of-sketch c = record { places = c.copy_all.auto.row ∙ ap length c.requires.1 ∙ length-replicate {A = ℕ} 504 0 }

pub returns-then-not-good : goal.returns-then-not-good
unfolding said_count said_level
returns-then-not-good c =
    let s = c.args.s.now in
    let k =
    spelled-parts s _ _ _ _ c.said_settings-settings.ensures (c.from-level.ensures ∙ c.word_at.ensures.0) (c.from-count.ensures ∙ c.word_at-2.ensures.0) c.copy_all.ensures in
    let wide : length c.copy_all.new.row ≡ 504 = c.copy_all.auto.row ∙ ap length c.requires.1 ∙ length-replicate {A = ℕ} 504 0 in
    marked-sketch s c.requires.0 _ (c.fill.ensures.after (λ y h. h) ∙ ap (λ n. replicate n 0) wide) _ c.fault-then-not-good.ensures _ k
    (sym c.good.ensures ∙ c.if-not-good.true)

pub returns : goal.returns
unfolding said_count said_level
returns c =
    let s = c.args.s.now in
    let k =
    spelled-parts s _ _ _ _ c.said_settings-settings.ensures (c.from-level.ensures ∙ c.word_at.ensures.0) (c.from-count.ensures ∙ c.word_at-2.ensures.0) c.copy_all.ensures in
    marked_done s c.requires.0 _ k (sym c.well_shaped.ensures ∙ c.if-not-well_shaped.false)
    (sym c.good.ensures ∙ c.if-not-good.false)
