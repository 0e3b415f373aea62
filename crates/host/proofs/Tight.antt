-- Two outcomes that one promise allows coincide.
--     gives_tight    `pot_open`, `pot_add`, `pot_plain_add`, `pot_merge`: the number and the row
--     crosses_tight    `pot_count`, `pot_next_hit` and those of the plain engine: the number and the value
--     writes_tight, reads_tight    `pot_write`, `pot_read`
--     adds_row_tight    `pot_add_row`: the number, the place and the row
--     starts_tight, steps_tight    `pot_walker_open`, `pot_walker_next`
--     estimates_tight    `pot_estimate`: the number, whether it is exact, and the double
-- Assumes nothing.
use mathlib.Core.Path.{◌≡◌, sym, ◌∙◌}
use mathlib.Core.List.{List}
use Prim.Native.Nat.{ℕ}
use lib.Ieee.{Float}
use Rattle.rule.specs.declared.Settings.{Settings}
use Rattle.rule.specs.Refusals.{Outcome, Paper}
use Rattle.find.specs.declared.Walker.{Walker}
use Rattle.sketch.specs.declared.Sketch.{Sketch}
use Rattle.sketch.specs.Estimates.{Weight}
use Rattle.row.specs.declared.Stretch.{Stretch}
use Rattle.crossing.specs.Crossing.{Crosses, Weighs}
use Rattle.host.specs.Promises.{Gives, AddsRow, ReadsIn, WritesOut, Begins, Moves}

module _ {r q : ℕ} where
  pub estimates_tight : {t u : ℕ} {x y : Float} (a : Outcome Weight) → Weighs a r t x → Weighs a q u y → (r ≡ q) × (t ≡ u) × (x ≡ y)
  estimates_tight a e f = (e.number ∙ sym f.number, e.exact ∙ sym f.exact, e.value ∙ sym f.value)

  pub crosses_tight : {x y : ℕ} (paper : Paper) → Crosses paper r x → Crosses paper q y → (r ≡ q) × (x ≡ y)
  crosses_tight paper e f = (e.number ∙ sym f.number, e.value ∙ sym f.value)

  module _ {row after : List ℕ} where
    pub gives_tight : (paper : Paper) (next old : Sketch) → Gives paper next old r row → Gives paper next old q after → (r ≡ q) × (row ≡ after)
    gives_tight paper next old e f = (e.number ∙ sym f.number, e.row ∙ sym f.row)

    pub starts_tight : (s : Settings) (level lo hi : ℕ) → Begins s level lo hi r row → Begins s level lo hi q after → (r ≡ q) × (row ≡ after)
    starts_tight s level lo hi e f = (e.number ∙ sym f.number, e.row ∙ sym f.row)

    module _ {x y : ℕ} where
      pub adds_row_tight : (before : List ℕ) (ts : List Stretch) → AddsRow before ts r x row → AddsRow before ts q y after
          → ((r ≡ q) × (x ≡ y)) × (row ≡ after)
      adds_row_tight before ts e f = (crosses_tight _ e.told f.told, e.row ∙ sym f.row)

      pub writes_tight : (k : Sketch) (room : List ℕ) → WritesOut k room r x row → WritesOut k room q y after → ((r ≡ q) × (x ≡ y)) × (row ≡ after)
      writes_tight k room e f = (crosses_tight _ e.told f.told, e.contents ∙ sym f.contents)

      pub reads_tight : (bytes : List ℕ) → ReadsIn bytes r x row → ReadsIn bytes q y after → ((r ≡ q) × (x ≡ y)) × (row ≡ after)
      reads_tight bytes e f = (crosses_tight _ e.told f.told, e.row ∙ sym f.row)

      pub steps_tight : (w : Walker) → Moves w r x row → Moves w q y after → ((r ≡ q) × (x ≡ y)) × (row ≡ after)
      steps_tight w e f = (crosses_tight _ e.told f.told, e.row ∙ sym f.row)
