-- The walk of `store_along` from hit to hit, and the cases of `store_hits`.
--     Along, along_start, along_room, along_on, along_end    the hits stored so far, and those that are left
--     hits-none, hits-one, hits_from    no hit, one, and those from the first on
-- Assumes nothing.
use Prim.Native.Nat.{ℕ, suc, ◌+◌, ◌-◌, ◌<◌, ◌≤◌}
use mathlib.Core.Path.{◌≡◌, refl, sym, ap, ◌∙◌}
use mathlib.Core.Bool.{Bool, true, false}
use mathlib.Core.List.{List, [], ◌∷◌, ◌++◌, append-nil}
use Rattle.std.specs.Prelude.{Some, None}
use native.Mathlib.Omega.{arith}
use native.Mathlib.Decide.{dec_le}
use lib.ListN.{length, set, length-append, length-set}
use lib.Seq.{append_snoc}
use borrow.Author.Tests.{lt-ltb, ltb-true}
use Rattle.lists.specs.Lists.{keep, filter, run, range}
use Rattle.lists.specs.Rows.{Stored}
use Rattle.lists.proofs.Filters.{filter_none, filter-append}
use Rattle.lists.proofs.Runs.{run-append, listed-run}
use Rattle.lists.proofs.Stores.{stored-none, stored_more}
use Rattle.rule.specs.declared.Settings.{Settings}
use Rattle.rule.specs.Cells.{Cells}
use Rattle.rule.specs.Rule.{hash, region, passes}
use Rattle.rule.specs.Samples.{range_count, next_hit}
use Rattle.rule.proofs.NextHits.{next_some, walk-some, walk_none}
use Rattle.strides.specs.declared.Hit.{Hit}
use Rattle.strides.specs.Striding.{IsHit, Next}
use Rattle.find.proofs.Counting.{count_none}

-- of a range, the first cells that are not in a set do not matter
skip : (X : Cells) (lo x hi : ℕ) → lo ≤ x → ((y : ℕ) → lo ≤ y → y < x → y ≤ hi → X y ≡ false) → filter X (range lo hi) ≡ filter X (range x hi)
skip X lo x hi h out =
    elim (dec_le x (suc hi)) [
      | yes within ↦
          let cut : suc hi - lo ≡ (x - lo) + (suc hi - x) = omega arith in
          let start : lo + (x - lo) ≡ x = omega arith in
          ap (λ (j : ℕ). filter X (run lo j)) cut
          ∙ ap (filter X) (run-append (x - lo) (suc hi - x) lo)
          ∙ filter-append X (run lo (x - lo)) (run (lo + (x - lo)) (suc hi - x))
          ∙ ap (λ (l : List ℕ). l ++ filter X (run (lo + (x - lo)) (suc hi - x))) (none_of (x - lo) (omega arith) (omega arith))
          ∙ ap (λ (y : ℕ). filter X (run y (suc hi - x))) start
      | no past ↦
          let zero : suc hi - x ≡ 0 = omega arith in
          none_of (suc hi - lo) (omega arith) (omega arith) ∙ sym (ap (λ (j : ℕ). filter X (run x j)) zero)
    ]
  where
    none_of : (j : ℕ) → j ≤ x - lo → j ≤ suc hi - lo → filter X (run lo j) ≡ []
    none_of j a b = filter_none X (run lo j) (λ y m. let w : (lo ≤ y) × (y < lo + j) = listed-run j lo y m in out y w.0 (omega arith) (omega arith))

-- a cell that is in the set comes first
front : (X : Cells) (x hi : ℕ) → x ≤ hi → X x ≡ true → filter X (range x hi) ≡ x ∷ filter X (range (suc x) hi)
front X x hi h e =
    let cut : suc hi - x ≡ suc (suc hi - suc x) = omega arith in
    ap (λ (j : ℕ). filter X (run x j)) cut ∙ ap (λ (t : Bool). keep t x (filter X (run (suc x) (suc hi - suc x)))) e

hit-passes : (s : Settings) (level : ℕ) (h : Hit) → IsHit s level h → passes s level h.cell ≡ true
unfolding passes
hit-passes s level h is = lt-ltb (hash s h.cell) (region s level) (rw is.own at is.inside)

module _ (row : List ℕ) (k : ℕ) (s : Settings) (level first hi : ℕ) where
  -- stored so far are the hits before this one, which lies past hi where no more is left
  pub record Along (out : List ℕ) (next : ℕ) (hit : Hit) : Type 0 where
    pub done : List ℕ
    pub stored : Stored row k done next out
    pub left : done ++ filter (passes s level) (range hit.cell hi) ≡ filter (passes s level) (range first hi)
    pub from : first ≤ hit.cell
    pub is : hit.cell ≤ hi → IsHit s level hit
    pub same : length out ≡ length row

  pub along_start : (h : ℕ) → h ≡ hash s first → passes s level first ≡ true → Along row k (record { cell = first; hash = h })
  unfolding passes
  along_start h own pass =
      record {
        done = [];
        stored = stored-none row k;
        left = refl;
        from = omega arith;
        is = λ w. record { own = own; inside = rw own (ltb-true (hash s first) (region s level) pass) };
        same = refl;
      }

  module _ {out : List ℕ} {next : ℕ} {hit : Hit} (g : Along out next hit) where
    pub along_end : hi < hit.cell → Stored row k (filter (passes s level) (range first hi)) next out
    along_end past =
        let zero : suc hi - hit.cell ≡ 0 = omega arith in
        let none_left : filter (passes s level) (range hit.cell hi) ≡ [] = ap (λ (n : ℕ). filter (passes s level) (run hit.cell n)) zero in
        let all : g.done ≡ filter (passes s level) (range first hi) = sym (append-nil g.done) ∙ ap (λ (l : List ℕ). g.done ++ l) (sym none_left)
        ∙ g.left in
        rw (← all) g.stored

    module _ (last : hit.cell ≤ hi) (room : k + range_count s level first hi ≤ length row) where
      here : filter (passes s level) (range hit.cell hi) ≡ hit.cell ∷ filter (passes s level) (range (suc hit.cell) hi)
      here = front (passes s level) hit.cell hi last (hit-passes s level hit (g.is last))

      pub along_room : next < length out
      unfolding range_count
      along_room = omega (
        arith,
        g.same,
        g.stored.next_place,
        ap length g.left,
        length-append g.done
            (filter (passes s level) (range hit.cell hi)),
        ap length here,
      )

      pub along_on : (far : ℕ) (r : Hit) → hi ≤ hit.cell + far → Next s level far hit r → Along (set out next hit.cell) (next + 1) r
      along_on far r near n =
          let x = hit.cell in
          let rest : filter (passes s level) (range (suc x) hi) ≡ filter (passes s level) (range r.cell hi) =
          skip (passes s level) (suc x) r.cell hi n.further (λ y a b c. n.skipped y a b (omega arith)) in
          record {
            done = g.done ++ (x ∷ []);
            stored = stored_more g.stored x (omega (arith, along_room, g.same));
            left = append_snoc g.done x (filter (passes s level) (range r.cell hi)) ∙ ap (λ (l : List ℕ). g.done ++ (x ∷ l)) (sym rest)
                ∙ ap (λ (l : List ℕ). g.done ++ l) (sym here) ∙ g.left;
            from = omega (arith, g.from, n.further);
            is = λ w. n.hit (omega arith);
            same = simp length-set g.same;
          }

module _ (s : Settings) (level lo hi : ℕ) where
  pub hits-none : next_hit s level lo hi ≡ None → (row : List ℕ) (k : ℕ) → Stored row k (filter (passes s level) (range lo hi)) k row
  hits-none e row k = rw (walk_none s level lo hi e) (stored-none row k)

  module _ (x : ℕ) (e : next_hit s level lo hi ≡ Some x) where
    pub hits-one : range_count s level lo hi ≡ 1 → (row : List ℕ) (k : ℕ) → k < length row
        → Stored row k (filter (passes s level) (range lo hi)) (k + 1) (set row k x)
    unfolding range_count
    hits-one one row k room =
        let rest : filter (passes s level) (range (suc x) hi) ≡ [] =
        walk_none s level (suc x) hi (count_none s level (suc x) hi (omega (arith, ap length (walk-some s level lo hi x e)))) in
        rw (walk-some s level lo hi x e, rest) (stored_more (stored-none row k) x room)

    -- those from the first hit on are all
    pub hits_from : (filter (passes s level) (range x hi) ≡ filter (passes s level) (range lo hi)) × (range_count s level x hi ≡ range_count s level lo hi)
    unfolding range_count
    hits_from =
        let h = next_some s level lo hi x e in
        let same : filter (passes s level) (range x hi) ≡ filter (passes s level) (range lo hi) = front (passes s level) x hi h.1 h.2
        ∙ sym (walk-some s level lo hi x e) in
        (same, ap length same)
