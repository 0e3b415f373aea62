-- The distances between hits: of a hash that grows by a with each cell, modulo p, only three occur.
--     Moves           d cells further a hash has become another
--     moves_then, moves_after, moves_shift, moves_mirror, moves_reflect, moves_none    its laws
--     change_most, strides, not-before    the least distance that raises a hash by less than a region's size
--     nearest, across     it and the least that lowers a hash so, beside any distance between two hits
--     search_at, search_nothing    an answer of crate `next` gives such a distance
-- Assumes nothing.
use Prim.Native.Nat.{ℕ, suc, ◌+◌, ◌-◌, ◌*◌, ◌/◌, ◌%◌, ◌≤◌, ◌<◌}
use mathlib.Core.Path.{◌≡◌, refl, sym, ap, ◌∙◌}
use native.Mathlib.Omega.{arith, by_contra}
use native.Mathlib.Decide.{dec_le}
use native.Mathlib.Nat.{mod-add-mod, add-mod-mod, add-mul-mod_self_right, mod-eq_of_lt, div-add-mod', mod-lt}
use borrow.Author.Tests.{ltb-true, ltb-false}
use Rattle.next.specs.Hit.{Finds}
use Rattle.std.specs.Prelude.{Option, Some, None}
use Rattle.next.proofs.Laws.{answer_at, answer-nothing}
use Rattle.strides.specs.declared.Stride.{Stride}
use Rattle.strides.specs.Striding.{Shortest}

-- d cells further the hash v has become w
pub record Moves (p a d v w : ℕ) : Type 0 where
  pub sum : (v + d * a) % p ≡ w % p

-- what is added to both does not matter, modulo p
cancel : (p x y t : ℕ) → 0 < p → (x + t) % p ≡ (y + t) % p → x % p ≡ y % p
cancel p x y t pos e = sym (whole x) ∙ ap (λ (z : ℕ). (z + (p - t % p)) % p) e ∙ whole y
  where
    whole : (z : ℕ) → ((z + t) % p + (p - t % p)) % p ≡ z % p
    whole z =
        let sum : z + t + (p - t % p) ≡ z + suc (t / p) * p = omega (arith, div-add-mod' t p, mod-lt t pos) in
        mod-add-mod (z + t) p (p - t % p) ∙ ap (λ (y : ℕ). y % p) sum ∙ add-mul-mod_self_right z (suc (t / p)) p

-- the same with a number added
moved : {p a d v w : ℕ} → Moves p a d v w → (t : ℕ) → (v + d * a + t) % p ≡ (w + t) % p
moved {p} {a} {d} {v} {w} m t = sym (mod-add-mod (v + d * a) p t) ∙ ap (λ (y : ℕ). (y + t) % p) m.sum ∙ mod-add-mod w p t

-- one distance after the other
pub moves_then : {p a d e v w x : ℕ} → Moves p a d v w → Moves p a e w x → Moves p a (d + e) v x
moves_then {p} {a} {d} {e} {v} {w} {x} m n =
    let sum : v + (d + e) * a ≡ v + d * a + e * a = omega arith in
    record { sum = ap (λ (y : ℕ). y % p) sum ∙ moved m (e * a) ∙ n.sum }

-- two distances from one cell: from the nearer to the further
moves_after : {p a d e v w x : ℕ} → d ≤ e → Moves p a d v w → Moves p a e v x → Moves p a (e - d) w x
moves_after {p} {a} {d} {e} {v} {w} {x} h m n =
    let all : d + (e - d) ≡ e = omega arith in
    let sum : v + d * a + (e - d) * a ≡ v + e * a = omega (arith, ap (λ (y : ℕ). y * a) all) in
    record { sum = sym (moved m ((e - d) * a)) ∙ ap (λ (y : ℕ). y % p) sum ∙ n.sum }

-- the same distance from another hash makes the same change
pub moves_shift : {p a d v w : ℕ} → 0 < p → Moves p a d v w → (x y : ℕ) → v + y ≡ w + x → Moves p a d x y
moves_shift {p} {a} {d} {v} {w} pos m x y e =
    let l : x + d * a + v ≡ v + d * a + x = omega arith in
    let r : w + x ≡ y + v = omega arith in
    record { sum = cancel p (x + d * a) y v pos (ap (λ (z : ℕ). z % p) l ∙ moved m x ∙ ap (λ (z : ℕ). z % p) r) }

-- a hash that grows by a with each cell falls by what a lacks to p
pub moves_mirror : {p a b d v w : ℕ} → a + b ≡ p → Moves p a d v w → Moves p b d w v
moves_mirror {p} {a} {b} {d} {v} {w} whole m =
    let sum : v + d * a + d * b ≡ v + d * p = omega (arith, ap (λ (y : ℕ). d * y) whole) in
    record { sum = sym (moved m (d * b)) ∙ ap (λ (y : ℕ). y % p) sum ∙ add-mul-mod_self_right v d p }

-- so a hash grows by that where it is measured down from c
pub moves_reflect : {p a b d v w : ℕ} → 0 < p → a + b ≡ p → (c : ℕ) → v ≤ c → w ≤ c → Moves p a d v w → Moves p b d (c - v) (c - w)
moves_reflect {p} {a} {b} {d} {v} {w} pos whole c hv hw m = moves_shift pos (moves_mirror whole m) (c - v) (c - w) (omega arith)

-- no distance makes no change
moves_none : {p a d v w : ℕ} → d ≡ 0 → v < p → w < p → Moves p a d v w → v ≡ w
moves_none {p} {a} {d} {v} {w} none hv hw m =
    let same : v + d * a ≡ v = ap (λ (y : ℕ). v + y * a) none ∙ omega arith in
    sym (mod-eq_of_lt {n = v} {m = p} hv) ∙ ap (λ (y : ℕ). y % p) (sym same) ∙ m.sum ∙ mod-eq_of_lt {n = w} {m = p} hw

module _ {p a size far : ℕ} {r : Stride} (l : Shortest p a size far r) where
  -- it is the size where there is no such distance
  pub change_most : r.change ≤ size
  change_most = elim (dec_le r.distance far) [ yes near ↦ omega (arith, (l.found near).1) | no past ↦ omega (arith, l.none (omega arith)) ]

  -- the distance makes its change
  pub strides : r.distance ≤ far → (h : ℕ) → Moves p a r.distance h (h + r.change)
  strides near h =
      let e : r.change ≡ r.distance * a % p = (l.found near).0 in
      record { sum = sym (add-mod-mod h (r.distance * a) p) ∙ ap (λ (y : ℕ). (h + y) % p) (sym e) }

module _ {p a size far : ℕ} {r : Stride} (small : size ≤ p) (l : Shortest p a size far r) where
  -- no shorter one leads from a hit to a hit that is no lower
  not-before : {d v w : ℕ} → 1 ≤ d → v ≤ w → w < size → Moves p a d v w → r.distance ≤ d
  not-before {d} {v} {w} some up hit m =
      let zero : d * a ≡ 0 + d * a = omega arith in
      let grown : d * a % p ≡ (w - v) % p = ap (λ (y : ℕ). y % p) zero ∙ (moves_shift (omega arith) m 0 (w - v) (omega arith)).sum in
      by_contra r.distance d (λ h. omega (arith, l.least d some h, mod-eq_of_lt {n = w - v} {m = p} (omega arith)))

  -- where the change keeps the hash in the region, no other hit is nearer
  pub nearest : {d h g : ℕ} → 1 ≤ d → h + r.change < size → g < size → Moves p a d h g → r.distance ≤ d
  nearest {d} {h} {g} some room hit m =
      elim (dec_le h g) [
        | yes up ↦ not-before some up hit m
        | no down ↦
            let near : r.distance ≤ far = by_contra r.distance far (λ w. omega (arith, l.none w)) in
            by_contra r.distance d (λ w.
            let rest : Moves p a (r.distance - d) g (h + r.change) = moves_after (omega arith) m (strides l near h) in
            omega (arith, not-before (omega arith) (omega arith) room rest))
      ]

-- where it does not, a hit that is no lower lies no nearer than this distance and the one that lowers together
pub across : {p a b size far : ℕ} {r o : Stride} {d h g : ℕ} → a + b ≡ p → size ≤ p → Shortest p a size far r → Shortest p b size far o
    → 1 ≤ d → d ≤ far → size ≤ h + r.change → h ≤ g
    → g < size → Moves p a d h g → r.distance + o.distance ≤ d
across {p} {a} {b} {size} {far} {r} {o} {d} {h} {g} whole small l other some near room up hit m =
    let first : r.distance ≤ d = not-before small l some up hit m in
    let change : r.change < size = (l.found (omega arith)).1 in
    let there : Moves p a r.distance h (h + r.change) = strides l (omega arith) h in
    let rest : Moves p a (d - r.distance) r.change (g - h) = moves_shift (omega arith) (moves_after first there m) r.change (g - h) (omega arith) in
    elim (dec_le d r.distance) [
      | yes same ↦ absurd (omega (arith, moves_none (omega arith) (omega arith) (omega arith) rest))
      | no more ↦ omega (arith, not-before small other (omega arith) (omega arith) change (moves_mirror whole rest))
    ]

-- an answer of crate `next`, for the progression a, 2 a, 3 a, ..
module _ (p a size far : ℕ) (x : Option ℕ) (f : Finds p a a size far x) where
  -- element i of it
  element : (i d : ℕ) → d ≡ i + 1 → (a + i * a) % p ≡ d * a % p
  element i d e = ap (λ (y : ℕ). y % p) (omega (arith, ap (λ (y : ℕ). y * a) e))

  pub search_at : (i : ℕ) → x ≡ Some i → Shortest p a size far (record { distance = i + 1; change = (i + 1) * a % p })
  search_at i e =
      let t = answer_at p a a size far i x f e in
      record {
        some = omega arith;
        last = omega (arith, t.0);
        least = λ d h k. omega (arith, ltb-false ((a + (d - 1) * a) % p) size (t.2 (d - 1) (omega arith)), element (d - 1) d (omega arith));
        found = λ h. (refl, omega (arith, ltb-true ((a + i * a) % p) size t.1, element i (i + 1) refl));
        none = λ h. absurd (omega (arith, t.0));
      }

  pub search_nothing : x ≡ None → Shortest p a size far (record { distance = far + 1; change = size })
  search_nothing e =
      record {
        some = omega arith;
        last = omega arith;
        least = λ d h k.
            omega (arith, ltb-false ((a + (d - 1) * a) % p) size (answer-nothing p a a size far x f e (d - 1) (omega arith)), element (d - 1) d (omega arith));
        found = λ h. absurd (omega arith);
        none = λ h. refl;
      }
