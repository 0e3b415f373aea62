-- The laws of the range count.
--     hash-step       the hashes of lo, lo + 1, .. are a progression modulo p
--     hash_below, region_below    hashes are below p, and no region is above p
--     count_hits      so the count over lo..hi is the count of a progression
--     count_takes, count_up_is, count_down_is    it is what the upward count by a, and the downward count by p - a, promise
--     count_few       at most as many as there are cells
--     count_all       at level 0 just as many
--     count_splits    the count splits at any cell between
--     count_each, count_empty    it tests each cell, and none of an empty range
--     count_none, none_count     it is 0 just where there is no next hit
-- Assumes nothing.
use mathlib.Core.Path.{◌≡◌, refl, sym, ap, ◌∙◌}
use mathlib.Core.Bool.{Bool, true, false, cond}
use mathlib.Core.List.{List, [], ◌∷◌, ◌++◌}
use Rattle.std.specs.Prelude.{None}
use Prim.Native.Nat.{ℕ, zero, suc, ◌+◌, ◌-◌, ◌*◌, ◌%◌, ◌^◌, ◌≤◌, ◌<◌}
use native.Mathlib.Omega.{arith}
use native.Mathlib.Nat.{mod-lt, mod-add-mod, div-le_self}
use lib.Dec.{ltb}
use lib.ListN.{length, length-append}
use Rattle.lists.specs.Lists.{keep, filter, run, range}
use Rattle.lists.proofs.Filters.{filter-append}
use Rattle.lists.proofs.Runs.{run-append, range-suc}
use Rattle.rule.specs.declared.Settings.{Settings}
use Rattle.rule.specs.Rule.{Good, hash, region, passes}
use Rattle.rule.specs.Samples.{range_count, next_hit, first}
use Rattle.rule.proofs.Facts.{positive}
use Rattle.rule.proofs.Passing.{passes-zero}
use Rattle.rule.proofs.NextHits.{walk_none}
use Rattle.count.specs.Hits.{hit, hits_up, hits_down, Takes}
use Rattle.count.proofs.Laws.{hits_few, turned_up}
use Rattle.find.specs.declared.Hashes.{Hashes}
use Rattle.find.specs.Finding.{Within, Handed}

pub hash-step : (s : Settings) (lo k : ℕ) → hash s (lo + k) ≡ (hash s lo + k * s.a) % s.p
unfolding hash
hash-step s lo k = ap (λ (y : ℕ). y % s.p) (omega arith) ∙ sym (mod-add-mod (s.a * lo + s.b) s.p (k * s.a))

pub hash_below : (s : Settings) (x : ℕ) → Good s → hash s x < s.p
unfolding hash
hash_below s x g = mod-lt (s.a * x + s.b) (positive s g)

pub region_below : (s : Settings) (level : ℕ) → region s level ≤ s.p
unfolding region
region_below s level = div-le_self s.p (2 ^ level)

-- a list with the tested cell in front
length-keep : (t : Bool) (x : ℕ) (l : List ℕ) → length (keep t x l) ≡ cond t 1 0 + length l
length-keep true x l = omega arith
length-keep false x l = omega arith

hit_cond : (x l : ℕ) → hit x l ≡ cond (ltb x l) 1 0
unfolding hit
hit_cond x l = same (ltb x l)
  where
    same : (t : Bool) → ◌≡◌ {A = ℕ} (elim t as (λ _. ℕ) [ true ↦ 1 | false ↦ 0 ]) (cond t 1 0)
    same true = refl
    same false = refl

one_hit : (s : Settings) (level lo k : ℕ) → length (keep (passes s level (lo + k)) (lo + k) []) ≡ hit ((hash s lo + k * s.a) % s.p) (region s level)
unfolding passes
one_hit s level lo k =
    length-keep (passes s level (lo + k)) (lo + k) []
    ∙ ap (λ (y : ℕ). cond (ltb y (region s level)) 1 0 + 0) (hash-step s lo k)
    ∙ omega (arith, hit_cond ((hash s lo + k * s.a) % s.p) (region s level))

run-hits : (s : Settings) (level lo k : ℕ) → length (filter (passes s level) (run lo k)) ≡ hits_up s.p s.a (hash s lo) k (region s level)
unfolding hits_up
run-hits s level lo zero = refl
run-hits s level lo (suc k) =
    let X = passes s level in
    let both = length-append (filter X (run lo k)) (keep (X (lo + k)) (lo + k) []) in
    omega (arith, run-hits s level lo k, ap length (range-suc X lo k), both, one_hit s level lo k)

pub count_hits : (s : Settings) (level lo hi : ℕ) → range_count s level lo hi ≡ hits_up s.p s.a (hash s lo) (suc hi - lo) (region s level)
unfolding range_count
count_hits s level lo hi = run-hits s level lo (suc hi - lo)

module _ (s : Settings) (level lo hi : ℕ) (h : Hashes) (f : Handed s level lo hi h) where
  -- the counts take it, with a difference of at most half of p
  pub count_takes : (d : ℕ) → Within s lo hi → 2 * d ≤ h.p → Takes h.p d h.start h.cells h.size
  count_takes d v half =
      record {
        small = omega (arith, v.good.n_high, v.good.p_high);
        half = half;
        start = omega (arith, hash_below s lo v.good);
        bound = omega (arith, region_below s level);
        few = omega (arith, v.good.n_high);
      }

  -- what the upward count by a, and the downward count by p - a, promise
  pub count_up_is : hits_up h.p h.a h.start h.cells h.size ≡ range_count s level lo hi
  count_up_is = rw (f.modulus, f.step, f.start, f.cells, f.size) (sym (count_hits s level lo hi))

  pub count_down_is : h.a ≤ h.p → hits_down h.p (h.p - h.a) h.start h.cells h.size ≡ range_count s level lo hi
  count_down_is b = turned_up h.p h.a h.start h.cells h.size b ∙ count_up_is

pub count_few : (s : Settings) (level lo hi : ℕ) → range_count s level lo hi ≤ suc hi - lo
count_few s level lo hi = omega (arith, count_hits s level lo hi, hits_few s.p s.a (hash s lo) (suc hi - lo) (region s level))

run-all : (s : Settings) → 0 < s.p → (lo k : ℕ) → length (filter (passes s 0) (run lo k)) ≡ k
run-all s h lo zero = refl
run-all s h lo (suc k) = rw (passes-zero s lo h) (ap suc (run-all s h (suc lo) k))

pub count_all : (s : Settings) (lo hi : ℕ) → Good s → range_count s 0 lo hi ≡ suc hi - lo
unfolding range_count
count_all s lo hi g = run-all s (positive s g) lo (suc hi - lo)

pub count_splits : (s : Settings) (level lo m hi : ℕ) → lo ≤ suc m → m ≤ hi → range_count s level lo hi ≡ range_count s level lo m + range_count s level (suc m) hi
unfolding range_count
count_splits s level lo m hi h g =
    let X = passes s level in
    let k : suc hi - lo ≡ (suc m - lo) + (suc hi - suc m) = omega arith in
    let start : lo + (suc m - lo) ≡ suc m = omega arith in
    let cut : range lo hi ≡ range lo m ++ range (suc m) hi =
    ap (run lo) k ∙ run-append (suc m - lo) (suc hi - suc m) lo ∙ ap (λ (x : ℕ). range lo m ++ run x (suc hi - suc m)) start in
    ap (λ (l : List ℕ). length (filter X l)) cut
    ∙ ap length (filter-append X (range lo m) (range (suc m) hi))
    ∙ length-append (filter X (range lo m)) (filter X (range (suc m) hi))

pub count_each : (s : Settings) (level lo hi : ℕ) → lo ≤ hi → range_count s level lo hi ≡ cond (passes s level lo) 1 0 + range_count s level (suc lo) hi
unfolding range_count
count_each s level lo hi h =
    let k : suc hi - lo ≡ suc (suc hi - suc lo) = omega arith in
    ap (λ (j : ℕ). length (filter (passes s level) (run lo j))) k ∙ length-keep (passes s level lo) lo (filter (passes s level) (range (suc lo) hi))

pub count_empty : (s : Settings) (level lo hi : ℕ) → hi < lo → range_count s level lo hi ≡ 0
count_empty s level lo hi h = omega (arith, count_few s level lo hi)

pub count_none : (s : Settings) (level lo hi : ℕ) → range_count s level lo hi ≡ 0 → next_hit s level lo hi ≡ None
unfolding range_count next_hit
count_none s level lo hi e = empty (filter (passes s level) (range lo hi)) e
  where
    empty : (l : List ℕ) → length l ≡ 0 → first l ≡ None
    empty [] h = refl
    empty (x ∷ xs) h = absurd (omega arith)

pub none_count : (s : Settings) (level lo hi : ℕ) → next_hit s level lo hi ≡ None → range_count s level lo hi ≡ 0
unfolding range_count
none_count s level lo hi e = ap length (walk_none s level lo hi e)
