-- Demand 2: counts, hits and images are the papers'.
--     count_is_each_cell      a count equals testing each cell of lo..hi
--     hit_is_the_first        a hit is the least passing cell from there up to n
--     none_means_none         none, only where no cell from there up to n passes
--     rest_stays              what follows the image in the room stays
--     sketch_round_trip       reading what was written gives the sketch that was written
--     image_round_trip        an accepted image, written out again, gives the same bytes
-- Assumes nothing.
use Prim.Native.Nat.{ℕ, ◌+◌, ◌≤◌, ◌<◌}
use mathlib.Core.Path.{◌≡◌, sym, ap, ◌∙◌, subst}
use mathlib.Core.Bool.{true, false}
use mathlib.Core.List.{List, [], ◌∷◌}
use native.Mathlib.Omega.{arith}
use lib.Dec.{leb}
use lib.ListN.{length, take, drop}
use lib.Seq.{take-append_seam, drop_at}
use Rattle.lists.specs.Lists.{filter, range}
use Rattle.lists.specs.Rows.{placed}
use Rattle.rule.specs.declared.refusals.Refusal.{Refusal}
use Rattle.rule.specs.declared.refusals.ReadError.{ReadError}
use Rattle.sketch.specs.declared.Changed.{Changed}
use Rattle.std.specs.Prelude.{Result, Ok, Some, None}
use Rattle.rule.specs.declared.Settings.{Settings}
use Rattle.rule.specs.Rule.{passes}
use Rattle.rule.specs.Samples.{range_count, next_hit}
use Rattle.rule.specs.Refusals.{Paper, answered, unless, not_one, no_room, of_counted, of_found, of_written, hits}
use Rattle.rule.proofs.NextHits.{next_some, next_none}
use Rattle.find.specs.Finding.{count_on, next_on, is_cell, in_range}
use Rattle.find.proofs.Checks.{unless-told, all_told}
use Rattle.find.proofs.Hits.{hit-some, hit-none}
use Rattle.sketch.specs.declared.Sketch.{Sketch}
use Rattle.sketch.specs.Sketches.{is_sketch}
use Rattle.sketch.specs.Calls.{no_sketch, handed}
use Rattle.layout.specs.Images.{image_of, spelled}
use Rattle.image.specs.Calls.{write_on, read_on, room_after, Writes, Reads}
use Rattle.image.proofs.RoundTrips.{read_back, write_back}

pub count_is_each_cell : (s : Settings) (level lo hi v : ℕ) → of_counted (Ok v) ≡ count_on s level lo hi → v ≡ length (filter (passes s level) (range lo hi))
unfolding count_on range_count
count_is_each_cell s level lo hi v e =
    let t = (all_told s level (in_range s lo hi) (answered (length (filter (passes s level) (range lo hi)) ∷ [])) (v ∷ []) (sym e)).3 in
    cc

-- what next hit answered, as the next hit
found_next : (s : Settings) (level from : ℕ) (values : List ℕ) → answered values ≡ next_on s level from
    → answered values ≡ answered (hits (next_hit s level from s.n))
unfolding next_on
found_next s level from values e = sym (all_told s level (is_cell s from) (answered (hits (next_hit s level from s.n))) values (sym e)).3

pub hit_is_the_first : (s : Settings) (level from x : ℕ) → of_found (Ok (Some x)) ≡ next_on s level from
    → (from ≤ x) × (x ≤ s.n) × (passes s level x ≡ true) × ((y : ℕ) → from ≤ y → y < x → passes s level y ≡ false)
hit_is_the_first s level from x e =
    next_some s level from s.n x (hit-some (next_hit s level from s.n) x (found_next s level from (x ∷ []) e))

pub none_means_none : (s : Settings) (level from : ℕ) → of_found (Ok None) ≡ next_on s level from → (y : ℕ) → from ≤ y → y ≤ s.n → passes s level y ≡ false
none_means_none s level from e = next_none s level from s.n (hit-none (next_hit s level from s.n) (found_next s level from [] e))

-- what a writer that answers a length has done
pub record Wrote (k : Sketch) (room after : List ℕ) (n : ℕ) : Type 0 where
  pub sketch : is_sketch k ≡ true
  pub size : n ≡ length (image_of k)
  pub bytes : take n after ≡ image_of k

pub wrote : (k : Sketch) (room after : List ℕ) (w : Result ℕ Refusal) (n : ℕ) → Writes k room w after → of_written w ≡ answered (n ∷ []) → Wrote k room after n
unfolding write_on
wrote k room after w n v e =
    let p : write_on k (length room) ≡ answered (n ∷ []) = sym v.answer ∙ e in
    let one = unless-told (is_sketch k) not_one (unless (leb (length (image_of k)) (length room)) no_room (answered (length (image_of k) ∷ []))) (n ∷ []) p in
    let two : answered (length (image_of k) ∷ []) ≡ answered (n ∷ []) = (unless-told (leb (length (image_of k)) (length room)) no_room
    (answered (length (image_of k) ∷ [])) (n ∷ []) one.1).1 in
    let size : n ≡ length (image_of k) = cc in
    let bytes : after ≡ placed room 0 (image_of k) = v.contents ∙ ap (λ (q : Paper). room_after q k room) p in
    record { sketch = one.0; size = size; bytes = rw (size, bytes) (take-append_seam (image_of k) (drop (0 + length (image_of k)) room)) }

pub rest_stays : (k : Sketch) (room after : List ℕ) (w : Result ℕ Refusal) (n : ℕ) → Writes k room w after → of_written w ≡ answered (n ∷ []) → drop n after ≡ drop n room
rest_stays k room after w n v e =
    let t = wrote k room after w n v e in
    let p : write_on k (length room) ≡ answered (n ∷ []) = sym v.answer ∙ e in
    let c : after ≡ placed room 0 (image_of k) = v.contents ∙ ap (λ (q : Paper). room_after q k room) p in
    let z : 0 + length (image_of k) ≡ n = omega (arith, t.size) in
    ap (drop n) c
    ∙ drop_at (image_of k) (drop (0 + length (image_of k)) room) n (sym t.size)
    ∙ ap (λ (m : ℕ). drop m room) z

pub handed_next : (paper : Paper) (next old k : Sketch) (values : List ℕ) → paper ≡ answered values → k ≡ handed paper next old → k ≡ next
handed_next paper next old k values e h = cc

-- for every sketch, and every room that is long enough
pub sketch_round_trip : (k : Sketch) (room after : List ℕ) (w : Result ℕ Refusal) (n : ℕ) → Writes k room w after → of_written w ≡ answered (n ∷ [])
    → (r : Changed ReadError) → Reads (take n after) r → (read_on (take n after) ≡ answered []) × (r.sketch ≡ k)
sketch_round_trip k room after w n v e r h =
    let t = wrote k room after w n v e in
    let back : (read_on (image_of k) ≡ answered []) × (spelled (image_of k) ≡ k) = read_back k t.sketch in
    let got : Reads (image_of k) r = subst (λ (b : List ℕ). Reads b r) t.bytes h in
    (ap read_on t.bytes ∙ back.0, handed_next (read_on (image_of k)) (spelled (image_of k)) no_sketch r.sketch [] back.0 got.sketch ∙ back.1)

-- for every accepted image
pub image_round_trip : (s : List ℕ) (r : Changed ReadError) → Reads s r → read_on s ≡ answered [] → (room after : List ℕ) (w : Result ℕ Refusal) (n : ℕ)
    → Writes r.sketch room w after → of_written w ≡ answered (n ∷ []) → take n after ≡ s
image_round_trip s r h a room after w n v e =
    let k : r.sketch ≡ spelled s = handed_next (read_on s) (spelled s) no_sketch r.sketch [] a h.sketch in
    (wrote r.sketch room after w n v e).bytes ∙ ap image_of k ∙ (write_back s a).0
