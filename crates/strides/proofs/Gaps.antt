-- From a hit to the next, by the least distance that raises the hash and the least that lowers it.
--     up_next, down_next, both_next    by the one, by the other, by both
-- Assumes nothing.
use Prim.Native.Nat.{ℕ, ◌+◌, ◌-◌, ◌*◌, ◌%◌, ◌≤◌, ◌<◌}
use mathlib.Core.Path.{◌≡◌, sym, ap, ◌∙◌}
use native.Mathlib.Omega.{arith, by_contra}
use native.Mathlib.Decide.{dec_le}
use native.Mathlib.Nat.{mod-mod, mod-eq_of_lt}
use borrow.Author.Tests.{le-ltb}
use Rattle.rule.specs.declared.Settings.{Settings}
use Rattle.rule.specs.Rule.{Good, hash, region, passes}
use Rattle.strides.specs.declared.Hit.{Hit}
use Rattle.strides.specs.declared.Strides.{Strides}
use Rattle.strides.specs.Striding.{Striding, IsHit, Next}
use Rattle.find.proofs.Counting.{hash-step, region_below}
use Rattle.strides.proofs.Moves.{Moves, moves_shift, moves_then, moves_mirror, moves_reflect, strides, nearest, across}

module _ (s : Settings) (level far : ℕ) (t : Strides) (h : Hit) (good : Good s) (v : Striding s level far t) (is : IsHit s level h) where
  small : region s level ≤ s.p
  small = region_below s level

  whole : s.a + (s.p - s.a) ≡ s.p
  whole = omega (arith, good.a_high)

  mirrored : (s.p - s.a) + s.a ≡ s.p
  mirrored = omega (arith, good.a_high)

  -- from the hit's hash to that of a further cell
  moves : (d : ℕ) → Moves s.p s.a d h.hash (hash s (h.cell + d))
  moves d = rw is.own (record { sum = sym (mod-mod (hash s h.cell + d * s.a) s.p) ∙ ap (λ (y : ℕ). y % s.p) (sym (hash-step s h.cell d)) })

  -- the same for two hits, with the hashes measured from the other end of the region
  reflected : (d : ℕ) → hash s (h.cell + d) < region s level
      → Moves s.p (s.p - s.a) d (region s level - 1 - h.hash) (region s level - 1 - hash s (h.cell + d))
  reflected d there = moves_reflect (omega (arith, small)) whole (region s level - 1) (omega (arith, is.inside)) (omega arith) (moves d)

  -- what the distance that lowers does
  lowered : t.down.distance ≤ far → (u w : ℕ) → u ≡ w + t.down.change → Moves s.p s.a t.down.distance u w
  lowered last u w e = moves_shift (omega (arith, small, is.inside)) (moves_mirror mirrored (strides v.lowers last w)) u w (omega arith)

  -- a distance than which no hit is nearer, and what it makes of the hash
  next : (d k : ℕ) → 1 ≤ d → ((e : ℕ) → 1 ≤ e → e ≤ far → hash s (h.cell + e) < region s level → d ≤ e)
      → (d ≤ far → (k < region s level) × Moves s.p s.a d h.hash k) → Next s level far h (record { cell = h.cell + d; hash = k })
  unfolding passes
  next d k some none there =
      record {
        further = omega arith;
        skipped = λ x after before last.
            let at : h.cell + (x - h.cell) ≡ x = omega arith in
            le-ltb (hash s x) (region s level) (by_contra (region s level) (hash s x) (λ w.
            omega (arith, none (x - h.cell) (omega arith) (omega arith) (rw at w))));
        hit = λ last.
            let m = there (omega arith) in
            let below : k < s.p = omega (arith, small, m.0) in
            record { own = sym (hash-step s h.cell d ∙ (rw is.own at m.1.sum) ∙ mod-eq_of_lt {n = k} {m = s.p} below); inside = m.0 };
      }

  pub up_next : h.hash < t.size - t.up.change → Next s level far h (record { cell = h.cell + t.up.distance; hash = h.hash + t.up.change })
  up_next up =
      let room : h.hash + t.up.change < region s level = omega (arith, v.size) in
      next t.up.distance (h.hash + t.up.change) v.raises.some
      (λ e some last there. nearest small v.raises some room there (moves e))
      (λ last. (room, strides v.raises last h.hash))

  pub down_next : t.down.change ≤ h.hash → Next s level far h (record { cell = h.cell + t.down.distance; hash = h.hash - t.down.change })
  down_next down =
      let inside = is.inside in
      next t.down.distance (h.hash - t.down.change) v.lowers.some
      (λ e some last there. nearest small v.lowers some (omega arith) (omega arith) (reflected e there))
      (λ last. (omega arith, lowered last h.hash (h.hash - t.down.change) (omega arith)))

  pub both_next : t.size - t.up.change ≤ h.hash → h.hash < t.down.change
      → Next s level far h (record { cell = h.cell + (t.up.distance + t.down.distance); hash = t.up.change - (t.down.change - h.hash) })
  both_next no-up no-down =
      let inside = is.inside in
      let high : region s level ≤ h.hash + t.up.change = omega (arith, v.size) in
      next (t.up.distance + t.down.distance) (t.up.change - (t.down.change - h.hash)) (omega (arith, v.raises.some))
      (λ e some last there.
      elim (dec_le h.hash (hash s (h.cell + e))) [
        | yes up ↦ across whole small v.raises v.lowers some last high up there (moves e)
        | no down ↦ omega (arith, across mirrored small v.lowers v.raises some last (omega arith) (omega arith) (omega arith) (reflected e there))
      ])
      (λ last.
      let rise = (v.raises.found (omega arith)).1 in
      let fall = (v.lowers.found (omega arith)).1 in (
        omega arith,
        moves_then (strides v.raises (omega arith) h.hash)
            (lowered (omega arith) (h.hash + t.up.change) (t.up.change - (t.down.change - h.hash)) (omega arith)),
      ))
