-- The cells of two rows and of a range between them, stored one after the other.
--     gather_within    the range is one that hits can be found in
--     first-room, second_room, third_room    the room for each part
--     gather_all       the parts stored are the sample
-- Assumes nothing.
use Prim.Native.Nat.{ℕ, ◌+◌, ◌≤◌}
use mathlib.Core.Path.{◌≡◌, sym, ap, ◌∙◌, subst}
use mathlib.Core.List.{List, ◌++◌, append_assoc}
use native.Mathlib.Omega.{arith}
use lib.ListN.{length, length-append}
use Rattle.lists.specs.Lists.{filter, range}
use Rattle.lists.specs.Rows.{Stored}
use Rattle.lists.proofs.Places.{placed-length}
use Rattle.lists.proofs.Stores.{stored_then}
use Rattle.rule.specs.declared.Settings.{Settings}
use Rattle.rule.specs.Rule.{passes}
use Rattle.rule.specs.Samples.{sample, range_count}
use Rattle.rule.proofs.Samples.{fits-few}
use Rattle.find.specs.Finding.{Within}
use Rattle.settle.specs.Around.{all_of}
use Rattle.settle.specs.Settling.{Gathers}
use Rattle.settle.proofs.Around.{between, sample-around}

stored-length : {row : List ℕ} {k : ℕ} {xs : List ℕ} {next : ℕ} {after : List ℕ} → Stored row k xs next after → k + length xs ≤ length row
    → length after ≡ length row
stored-length {row} {k} {xs} g h = ap length g.contents ∙ placed-length row k xs h

module _ {s : Settings} {own level : ℕ} {front back : List ℕ} {lo hi hits : ℕ} {out : List ℕ} (g : Gathers s own level front back lo hi hits out) where
  f : List ℕ
  f = filter (passes s level) front

  m : List ℕ
  m = filter (passes s level) (range lo hi)

  b : List ℕ
  b = filter (passes s level) back

  parts : sample s (all_of front back lo hi) level ≡ f ++ (m ++ b)
  unfolding f m b between
  parts = sample-around g.present.around level

  hits_are : hits ≡ length m
  unfolding m range_count
  hits_are = g.counted

  room : length f + hits + length b ≤ length out
  room =
      omega (
        arith,
        hits_are,
        length-append f (m ++ b),
        length-append m b,
        ap length parts,
        fits-few s (all_of front back lo hi) level g.fit,
        g.present.around.good.capacity_high,
        g.room,
      )

  pub gather_within : Within s lo hi
  gather_within = let w = g.present.around in record { good = w.good; low = w.one; start = w.start; last = w.last }

  pub first-room : 0 + length (filter (passes s level) front) ≤ length out
  unfolding f
  first-room = omega (arith, room)

  module _ {i : ℕ} {one : List ℕ} (first : Stored out 0 (filter (passes s level) front) i one) where
    pub second_room : i + hits ≤ length one
    unfolding f
    second_room = omega (arith, room, first.next_place, stored-length first first-room)

    module _ {j : ℕ} {two : List ℕ} (second : Stored one i (filter (passes s level) (range lo hi)) j two) where
      pub third_room : j + length (filter (passes s level) back) ≤ length two
      unfolding f m b
      third_room =
          omega (
            arith,
            room,
            hits_are,
            first.next_place,
            second.next_place,
            stored-length first first-room,
            stored-length second (omega (arith, second_room, hits_are)),
          )

      pub gather_all : {k : ℕ} {after : List ℕ} → Stored two j (filter (passes s level) back) k after
          → Stored out 0 (sample s (all_of front back lo hi) level) k after
      unfolding f m b
      gather_all {k} {after} third =
          subst (λ (l : List ℕ). Stored out 0 l k after) (append_assoc f m b ∙ sym parts)
          (stored_then (stored_then first m second (omega arith)) b third (omega arith))
