-- `sums_of` meets its contract: after k turns both sums are those of the first k words, and small enough to fit. Assumes nothing.
use Rattle.std.proofs.Common.{ℕ, zero, suc, ◌≡◌, ◌+◌, ◌*◌, ◌-◌, ◌/◌, ◌<◌, ◌≤◌, Bool, true, false, List, [], ◌∷◌, ◌++◌, length, take, drop, inl, inr, refl, sym, ap, ◌∙◌, arith, rules}
use Rattle.std.proofs.Math.Seq.{drop-drop, length-take-le}
use Rattle.std.proofs.lemmas.List.{length_push}
use Rattle.std.specs.Simd.{first_chunks}
use Rattle.std.specs.Slice.Iter.{iter_rest}
use Rattle.std.specs.Iterator.Adapters.{zip_first, zip_second, rev_source}
use Rattle.std.specs.Range.{range_inclusive_exhausted, range_inclusive_len}
use Rattle.block.specs.Little.{number_at}
use Rattle.block.specs.Sums.{plain_of, weighted_of}
use Rattle.block.proofs.Numbers.{two_bytes}
use Rattle.block.proofs.Totals.{sum_none, plain_on, weighted_on, weight-small, plain_take, weighted_take}
use Rattle.block.proofs.sums_of.Goals as goal
use Rattle.block.proofs.sums_of.Goals.{After-from}

-- the next of the words, and those behind it
word_next : (n k : ℕ) (s w : List ℕ) (rest : List (List ℕ)) → first_chunks 2 n (drop (2 * k) s) ≡ w ∷ rest
    → (0 < n) × (w ≡ take 2 (drop (2 * k) s)) × (rest ≡ first_chunks 2 (n - 1) (drop (2 * (k + 1)) s))
word_next zero k s w rest h = absurd (cc)
word_next (suc n) k s w rest h =
    let e : 2 * (k + 1) ≡ 2 * k + 2 = omega arith in
    let d : suc n - 1 ≡ n = omega arith in
    (omega arith, cc, rw (e, d) (cc (drop-drop 2 (2 * k) s)))

none_left : (n : ℕ) (s : List ℕ) → length (first_chunks 2 n s) ≡ 0 → n ≡ 0
none_left zero s h = refl
none_left (suc n) s h = absurd (cc)

-- the last of n weights, 1 up to e
last_weight : (n e first : ℕ) (done : Bool) → first ≡ 1 → range_inclusive_len (λ x y. y - x) first e done ≡ n → 0 < n → e ≡ n
last_weight n e first true f h l = absurd (omega arith)
last_weight n e first false f h l = omega arith

-- a turn's word and weight, after k turns
module _ (c : After-from) where
  abbrev k : ℕ
  k = length c.loop-word.yielded

  abbrev s : List ℕ
  s = take 508 c.args.s.now

  next : (0 < 254 - k) × (c.in-Some.word.now ≡ take 2 (drop (2 * k) s)) × (iter_rest (zip_first c.next.new.self) ≡ first_chunks 2 (254 - k - 1) (drop (2 * (k + 1)) s))
  next = word_next (254 - k) k s _ _ (sym c.loop-word.invariant.words ∙ c.in-Some.ensures.steps.0)

  word_is : c.from-w.result ≡ number_at 2 (2 * k) s
  word_is = c.from-w.ensures ∙ omega (arith, rw next.1 at c.from_le_bytes.ensures, two_bytes (drop (2 * k) s))

  weight_is : c.from.result ≡ 254 - k
  weight_is =
      let v = c.loop-word.invariant in
      c.from.ensures ∙ c.in-Some.ensures.steps.1.1.0 ∙ last_weight (254 - k) _ _ (range_inclusive_exhausted (rev_source (zip_second c.loop-word.word-iterator))) v.first v.weights next.0

  light : c.from.result * c.from-w.result ≤ 16645890
  light = weight-small c.from.result c.from-w.result (omega (arith, weight_is)) (omega arith)

pub overflow_mul-weighted : goal.overflow_mul-weighted
overflow_mul-weighted c = omega (arith, light c)

pub overflow_add-weighted : goal.overflow_add-weighted
overflow_add-weighted c = omega (arith, light c)

pub loop-word-preserved : goal.loop-word-preserved
loop-word-preserved c =
    let l = c.loop-word.invariant in
    let n = k c in
    let e : length (c.loop-word.yielded ++ ((c.in-Some.word, c.in-Some.weight) ∷ [])) ≡ n + 1 = length_push _ _ in
    rw e (record {
      count = omega (arith, (next c).0);
      words = (next c).2 ∙ ap (λ m. first_chunks 2 m (drop (2 * (n + 1)) (s c))) (omega arith);
      first = c.in-Some.ensures.steps.1.0 ∙ l.first;
      weights = omega (arith, c.in-Some.ensures.steps.1.1.1, l.weights);
      plain_fits = omega arith;
      weighted_fits = omega (arith, light c);
      plain = plain_on _ n (word_is c) l.plain;
      weighted = weighted_on _ n (word_is c) (weight_is c) l.weighted;
    })

pub loop-word-init : goal.loop-word-init
loop-word-init c =
    let room : 508 ≤ length c.args.s.now = c.requires in record {
      count = omega arith;
      words = ap (λ z. iter_rest (zip_first z)) c.into_iter-word-iterator.ensures.into_iter_gives ∙ ap iter_rest c.zip-word-items.ensures.first
          ∙ c.iter.ensures.rest ∙ c.as_chunks.ensures.front ∙ ap (λ n. first_chunks 2 (n / 2) (take 508 c.args.s.now)) (length-take-le 508 c.args.s.now room);
      first = search rules;
      weights = search rules;
      plain_fits = omega arith;
      weighted_fits = omega arith;
      plain = sum_none _;
      weighted = sum_none _;
    }

pub returns : goal.returns
unfolding plain_of weighted_of
returns c =
    let l = c.loop-word in
    let n = length l.yielded in
    let all : n ≡ 254 = elim c.in-None.ensures.steps [
      | inl u ↦ let h = none_left (254 - n) _ (ap length (sym l.invariant.words) ∙ u.1.0) in omega arith
      | inr u ↦ let h = u.1.1.0 in omega (arith, h)
    ] in (
      c.reduced.ensures ∙ rw (l.invariant.plain, all) (plain_take c.args.s.now c.requires),
      c.reduced-2.ensures ∙ rw (l.invariant.weighted, all) (weighted_take c.args.s.now c.requires),
    )
