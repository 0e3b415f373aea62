-- What a sketch's numbers are at most: they fit their bytes, and its image fits 2560 bytes.
--     few             the number of cells
--     narrow, low, fours      settings, level and cells fit their bytes
--     size, sketch-length     how long a sketch's image is
--     writable        so the inner writer takes a sketch
-- Assumes nothing.
use Prim.Native.Nat.{ℕ, zero, suc, ◌+◌, ◌*◌, ◌-◌, ◌^◌, ◌<◌, ◌≤◌}
use Prim.{tt}
use mathlib.Core.Path.{◌≡◌, sym, ap, ◌∙◌}
use mathlib.Core.Bool.{true}
use mathlib.Core.List.{List, [], ◌∷◌}
use native.Mathlib.Omega.{arith}
use lib.Dec.{lit<, lit≤, leb}
use lib.ListN.{length, take}
use lib.Seq.{length-take-le}
use Rattle.lists.specs.Lists.{Rising}
use Rattle.lists.proofs.Places.{pad-length}
use Rattle.lists.proofs.Searches.{greatest_to}
use Rattle.rule.specs.Rule.{top}
use Rattle.sketch.specs.declared.Sketch.{Sketch}
use Rattle.sketch.specs.Sketches.{sketch_at, cells_of, is_sketch, Sound}
use Rattle.sketch.proofs.Facts.{sketch_facts, made_count, count_few}
use Rattle.layout.specs.Images.{mark, blocks_for, image_of, Writable}
use Rattle.layout.proofs.Fields.{Fours}
use Rattle.layout.proofs.Bodies.{Narrow}
use Rattle.layout.proofs.Spelling.{image-length}

rising_fours : (xs : List ℕ) (lo hi : ℕ) → hi < 4294967296 → Rising lo hi xs → Fours xs
rising_fours [] lo hi h r i = lit< tt
rising_fours (x ∷ xs) lo hi h r zero = omega (arith, r.1)
rising_fours (x ∷ xs) lo hi h r (suc i) = rising_fours xs (suc x) hi h r.2 i

module _ (k : Sketch) (w : Sound k) where
  pub few : length (cells_of k) ≤ 504
  few = omega (arith, w.few, w.settings.capacity_high)

  row : length k.cells ≡ 504
  unfolding sketch_at
  row = ap (λ (v : Sketch). length v.cells) w.made ∙ pad-length 504 (cells_of k) few

  pub narrow : Narrow k.settings
  narrow =
      let g = w.settings in
      record {
        n = omega (arith, g.n_high);
        p = omega (arith, g.n_high, g.p_high);
        a = omega (arith, g.n_high, g.p_high, g.a_high);
        b = omega (arith, g.n_high, g.p_high, g.b_high);
        capacity = omega (arith, g.capacity_high);
      }

  pub low : k.level < 65536
  unfolding top
  low = omega (arith, w.level, greatest_to (λ t. leb (2 ^ t) k.settings.p) 32)

  pub fours : Fours (cells_of k)
  fours = rising_fours (cells_of k) 1 k.settings.n (omega (arith, w.settings.n_high)) w.rise

  pub size : length (image_of k) ≡ 512 * (1 + blocks_for k.count)
  unfolding image_of
  size = image-length mark [] k.settings k.level (cells_of k) (lit≤ tt) ∙ ap (λ c. 512 * (1 + blocks_for c)) (sym (made_count k w.made))

  pub writable : (room : List ℕ) (m : ℕ) → m ≡ blocks_for k.count → 512 * (1 + m) ≤ length room
      → Writable (length (take (512 * (1 + m) - 0) room)) k.settings k.level (length (take k.count k.cells))
  writable room m e h =
      let c : k.count ≤ 504 = count_few k w in
      let n : length (take k.count k.cells) ≡ k.count = length-take-le k.count k.cells (omega (arith, row)) in
      let l : length (take (512 * (1 + m) - 0) room) ≡ 512 * (1 + m) - 0 = length-take-le (512 * (1 + m) - 0) room (omega arith) in
      let size : 512 * (1 + m) - 0 ≡ 512 * (1 + blocks_for k.count) = omega (arith, e) in
      record { size = l ∙ size ∙ ap (λ c. 512 * (1 + blocks_for c)) (sym n); capacity = narrow.capacity; low = low; few = omega arith }

pub sketch-length : (k : Sketch) → is_sketch k ≡ true → (length (image_of k) ≡ 512 * (1 + blocks_for k.count)) × (length (image_of k) ≤ 2560)
sketch-length k e =
    let w = sketch_facts k e in
    let c : k.count ≤ 504 = count_few k w in
    let l : length (image_of k) ≡ 512 * (1 + blocks_for k.count) = size k w in
    (l, omega arith)
