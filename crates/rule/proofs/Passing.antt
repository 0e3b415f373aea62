-- The laws of what passes at a level: all that the other proofs know of the hash and of the regions.
--     passes-zero     at level 0 every cell passes
--     region-lower    regions shrink
--     passes-lower    what passes at a level passes at every lower level
--     top-greatest    the top is the greatest T with 2 ^ T ≤ p
--     top_of_none     it is 0 where p is
--     top_leading     else the digits of p above its highest set one, that one, and as many as the top says make 32
--     top_small       it is below 32
--     level-within    so a level is no higher than the top just where its region is not empty
--     region-top      the region at the top is 1
--     region_past     from level 32 on regions are empty
--     hash_once       two cells of 1..n with one hash are the same cell
--     passes-one      so at the top at most one cell of 1..n passes
--     product_fits    every a·x + b fits 64 bits
-- Assumes nothing.
use mathlib.Core.Path.{◌≡◌, sym, ap, ◌∙◌, subst}
use mathlib.Core.Bool.{Bool, true, false}
use mathlib.Core.Logic.{⊎_elim}
use Prim.Native.Nat.{ℕ, suc, ◌+◌, ◌-◌, ◌*◌, ◌/◌, ◌%◌, ◌^◌, ◌≤◌, ◌<◌, ◌∣◌}
use native.Mathlib.Omega.{arith}
use native.Mathlib.Nat.{div-eq_of_lt, mul-le-mul, mod-lt, div-add-mod', div-one, mul-le-mul_left, div-mul-le_self, le-div_iff_mul-le, pow-le-pow_right}
use native.Mathlib.Nat.{one-le-pow, mul-add-mod_self_right, mul-mod_left, mul-sub, dvd-mul_left, dvd-mul_right, eq_of_mul-eq-mul_right, div-eq_of_lt-le}
use native.Mathlib.Nat.{mod-eq_of_lt}
use lib.Count.{count_leading_zeros, leading_top}
use lib.Dec.{leb, eqb}
use lib.Pow.{pow_mono, pow_pos}
use borrow.Author.Tests.{ltb-true, lt-ltb, le-leb, leb-true, leb-false, eqb-true, eqb-false, eq-eqb}
use Rattle.lists.specs.Searches.{least, greatest}
use Rattle.lists.proofs.Tests.{tested, by_order, same_test}
use Rattle.lists.proofs.Searches.{least_has, least-least, greatest_has, greatest-above, greatest-found}
use Rattle.rule.specs.declared.Settings.{Settings}
use Rattle.rule.specs.Rule.{Good, hash, region, passes, top}
use Rattle.rule.proofs.Facts.{positive, fewer, small}

pub passes-zero : (s : Settings) (x : ℕ) → 0 < s.p → passes s 0 x ≡ true
unfolding passes region hash
passes-zero s x h = lt-ltb ((s.a * x + s.b) % s.p) (s.p / 1) (omega (arith, mod-lt (s.a * x + s.b) h, div-one s.p))

pub region-lower : (s : Settings) (m l : ℕ) → m ≤ l → region s l ≤ region s m
unfolding region
region-lower s m l h =
    let two : 2 ^ m ≤ 2 ^ l = pow-le-pow_right {n = 2} (omega arith) h in
    (le-div_iff_mul-le {k = 2 ^ m} {x = s.p / 2 ^ l} {y = s.p} (one-le-pow m 2 (omega arith))).1
    (omega (arith, mul-le-mul_left (s.p / 2 ^ l) two, div-mul-le_self s.p (2 ^ l)))

pub passes-lower : (s : Settings) (m l x : ℕ) → m ≤ l → passes s l x ≡ true → passes s m x ≡ true
unfolding passes
passes-lower s m l x h e = lt-ltb (hash s x) (region s m) (omega (arith, ltb-true (hash s x) (region s l) e, region-lower s m l h))

pub top-greatest : (s : Settings) → 0 < s.p → s.p < 2 ^ 32 → (2 ^ top s ≤ s.p) × (s.p < 2 ^ suc (top s))
unfolding top
top-greatest s pos small = (leb-true (2 ^ t) s.p (greatest_has q 32 (le-leb 1 s.p pos)), above)
  where
    q : ℕ → Bool
    q i = leb (2 ^ i) s.p

    t : ℕ
    t = greatest q 32

    above : s.p < 2 ^ suc t
    above =
        ⊎_elim
        (λ (e : leb (2 ^ suc t) s.p ≡ true).
        ⊎_elim
        (λ (w : leb (suc t) 32 ≡ true). absurd (omega (arith, greatest-above q 32 (suc t) (leb-true (suc t) 32 w) e)))
        (λ (w : leb (suc t) 32 ≡ false).
        let v : 2 ^ 32 ≤ 2 ^ suc t = pow-le-pow_right {n = 2} (omega arith) {i = 32} {j = suc t} (omega (arith, leb-false (suc t) 32 w)) in
        omega arith)
        (tested (leb (suc t) 32)))
        (λ (e : leb (2 ^ suc t) s.p ≡ false). leb-false (2 ^ suc t) s.p e)
        (tested (leb (2 ^ suc t) s.p))

pub top_of_none : (s : Settings) → s.p ≡ 0 → top s ≡ 0
unfolding top
top_of_none s z =
    ⊎_elim
    (λ h. h)
    (λ h. absurd (omega (arith, leb-true (2 ^ top s) s.p h, pow_pos (top s))))
    (greatest-found (λ t. leb (2 ^ t) s.p) 32)

pub top_leading : (s : Settings) → 0 < s.p → s.p < 2 ^ 32 → count_leading_zeros 32 s.p + suc (top s) ≡ 32
top_leading s pos low =
    let g : (2 ^ top s ≤ s.p) × (s.p < 2 ^ suc (top s)) = top-greatest s pos low in
    let w : (t : ℕ) × (count_leading_zeros 32 s.p + suc t ≡ 32) × (2 ^ t ≤ s.p) × (s.p < 2 ^ suc t) = leading_top 32 s.p pos low in
    let t = w.0 in
    let up : t ≤ top s = not-above (λ h. let m : 2 ^ suc (top s) ≤ 2 ^ t = pow_mono h in omega arith) in
    let down : top s ≤ t = not-above (λ h. let m : 2 ^ suc t ≤ 2 ^ top s = pow_mono h in omega arith) in
    omega arith
  where
    not-above : {i j : ℕ} → (suc j ≤ i → ⊥) → i ≤ j
    not-above {i} {j} f = ⊎_elim (λ h. absurd (f h)) (λ h. h) (by_order j i)

pub region-top : (s : Settings) → 0 < s.p → s.p < 2 ^ 32 → region s (top s) ≡ 1
unfolding region
region-top s pos small =
    let g : (2 ^ top s ≤ s.p) × (s.p < 2 ^ suc (top s)) = top-greatest s pos small in
    div-eq_of_lt-le {k = 1} (2 ^ top s) (omega arith) (omega arith)

-- Where a is coprime to p, only multiples z of p have a * z a multiple of p: the least such d > 0 divides them all, so p too, and p / d divides a and p.
module _ (a p : ℕ) (pos : 0 < p) (coprime : (d : ℕ) → d ∣ a → d ∣ p → d ≡ 1) where
  whole : ℕ → Bool
  whole i = eqb (a * suc i % p) 0

  d : ℕ
  d = suc (least whole (p - 1) 0)

  d_whole : a * d % p ≡ 0
  unfolding d whole
  d_whole =
      eqb-true (a * suc (least whole (p - 1) 0) % p) 0
      (least_has whole (p - 1) 0 (eq-eqb (a * suc (0 + (p - 1)) % p) 0 (ap (λ (y : ℕ). a * y % p) (omega arith) ∙ mul-mod_left a p)))

  d_pos : 0 < d
  unfolding d
  d_pos = omega arith

  d_least : (z : ℕ) → 0 < z → a * z % p ≡ 0 → d ≤ z
  unfolding d whole
  d_least z h e =
      omega (arith, least-least whole (p - 1) 0 (z - 1) (omega arith) (eq-eqb (a * suc (z - 1) % p) 0 (ap (λ (y : ℕ). a * y % p) (omega arith) ∙ e)))

  d_divides : (z : ℕ) → a * z % p ≡ 0 → z % d ≡ 0
  d_divides z e =
      let r : z % d < d = mod-lt z d_pos in
      let j : a * d / p * p ≡ a * d = omega (arith, div-add-mod' (a * d) p, d_whole) in
      let split : a * z ≡ z / d * (a * d / p) * p + a * (z % d) =
      ap (λ (y : ℕ). a * y) (sym (div-add-mod' z d)) ∙ omega (arith, ap (λ (y : ℕ). z / d * y) j) in
      let left : a * (z % d) % p ≡ 0 = sym (mul-add-mod_self_right (z / d * (a * d / p)) p (a * (z % d))) ∙ ap (λ (y : ℕ). y % p) (sym split) ∙ e in
      ⊎_elim
      (λ (w : eqb (z % d) 0 ≡ true). eqb-true (z % d) 0 w)
      (λ (w : eqb (z % d) 0 ≡ false).
      let f : z % d ≡ 0 → ⊥ = eqb-false (z % d) 0 w in
      let some : 0 < z % d = omega arith in
      absurd (omega (arith, d_least (z % d) some left)))
      (tested (eqb (z % d) 0))

  d_is : d ≡ p
  d_is =
      let j : a * d / p * p ≡ a * d = omega (arith, div-add-mod' (a * d) p, d_whole) in
      let k : p / d * d ≡ p = omega (arith, div-add-mod' p d, d_divides p (mul-mod_left a p)) in
      let m : a ≡ a * d / p * (p / d) = eq_of_mul-eq-mul_right d d_pos a (a * d / p * (p / d)) (sym j ∙ ap (λ (y : ℕ). a * d / p * y) (sym k) ∙ omega arith) in
      let one : p / d ≡ 1 =
      coprime (p / d) (subst (λ (y : ℕ). p / d ∣ y) (sym m) (dvd-mul_left (p / d) (a * d / p))) (subst (λ (y : ℕ). p / d ∣ y) k (dvd-mul_right (p / d) d)) in
      omega (arith, ap (λ (y : ℕ). y * d) one)

  pub cancel : (z : ℕ) → a * z % p ≡ 0 → z % p ≡ 0
  cancel z e = subst (λ (y : ℕ). z % y ≡ 0) d_is (d_divides z e)

-- one order of two cells with one hash
hash_rising : (s : Settings) → Good s → (x y : ℕ) → x < y → y ≤ s.n → hash s x ≡ hash s y → ⊥
unfolding hash
hash_rising s g x y h w same =
    let u = s.a * x + s.b in
    let j : u / s.p * s.p + u % s.p ≡ u = div-add-mod' u s.p in
    let v = s.a * y + s.b in
    let k : v / s.p * s.p + v % s.p ≡ v = div-add-mod' v s.p in
    let z : x + (y - x) ≡ y = omega arith in
    let split : v ≡ u + s.a * (y - x) = ap (λ (w : ℕ). s.a * w + s.b) (sym z) ∙ omega arith in
    let less : u / s.p * s.p ≤ v / s.p * s.p = omega arith in
    let e : s.a * (y - x) ≡ (v / s.p - u / s.p) * s.p = omega (arith, mul-sub s.p (v / s.p) (u / s.p)) in
    let m : s.a * (y - x) % s.p ≡ 0 = ap (λ (w : ℕ). w % s.p) e ∙ mul-mod_left (v / s.p - u / s.p) s.p in
    omega (arith, cancel s.a s.p (positive s g) g.no_common_divisor (y - x) m, mod-eq_of_lt {n = y - x} {m = s.p} (omega (arith, fewer s g)))

pub hash_once : (s : Settings) → Good s → (x y : ℕ) → x ≤ s.n → y ≤ s.n → hash s x ≡ hash s y → x ≡ y
hash_once s g x y hx hy e =
    ⊎_elim
    (λ (h : x < y). absurd (hash_rising s g x y h hy e))
    (λ (h : y ≤ x). ⊎_elim (λ (k : y < x). absurd (hash_rising s g y x k hx (sym e))) (λ (k : x ≤ y). omega arith) (by_order y x))
    (by_order x y)

pub passes-one : (s : Settings) → Good s → (x y : ℕ) → x ≤ s.n → y ≤ s.n → passes s (top s) x ≡ true → passes s (top s) y ≡ true → x ≡ y
unfolding passes
passes-one s g x y hx hy px py =
    let r : region s (top s) ≡ 1 = region-top s (positive s g) (small s g) in
    let ex : hash s x ≡ 0 = omega (arith, ltb-true (hash s x) (region s (top s)) px) in
    let ey : hash s y ≡ 0 = omega (arith, ltb-true (hash s y) (region s (top s)) py) in
    hash_once s g x y hx hy (ex ∙ sym ey)

pub level-within : (s : Settings) (level : ℕ) → 0 < s.p → s.p < 2 ^ 32 → leb 1 (region s level) ≡ leb level (top s)
unfolding region
level-within s level pos low =
    let g : (2 ^ top s ≤ s.p) × (s.p < 2 ^ suc (top s)) = top-greatest s pos low in
    same_test (leb 1 (s.p / 2 ^ level)) (leb level (top s))
    (λ e.
    let k : 1 * 2 ^ level ≤ s.p = (le-div_iff_mul-le {k = 2 ^ level} (one-le-pow level 2 (omega arith))).0 (leb-true 1 (s.p / 2 ^ level) e) in
    let no : (suc (top s) ≤ level → ⊥) = (λ w. let m : 2 ^ suc (top s) ≤ 2 ^ level = pow-le-pow_right {n = 2} (omega arith) w in omega arith) in
    le-leb level (top s) (omega arith))
    (λ e.
    let m : 2 ^ level ≤ 2 ^ top s = pow-le-pow_right {n = 2} (omega arith) (leb-true level (top s) e) in
    le-leb 1 (s.p / 2 ^ level) ((le-div_iff_mul-le {k = 2 ^ level} {x = 1} {y = s.p} (one-le-pow level 2 (omega arith))).1 (omega arith)))

-- for any numbers of 32 bits: those of every good settings and every cell are
pub product_fits : (a x b : ℕ) → a < 2 ^ 32 → x < 2 ^ 32 → b < 2 ^ 32 → a * x + b < 2 ^ 64
product_fits a x b ha hx hb =
    omega (arith, mul-le-mul {n₁ = a} {m₁ = x} {n₂ = 4294967295} {m₂ = 4294967295} (omega arith) (omega arith))

-- a number of 32 bits, halved 32 times or more, leaves nothing
pub region_past : (s : Settings) (level : ℕ) → s.p < 2 ^ 32 → 32 ≤ level → 0 ≡ region s level
unfolding region
region_past s level low h = let m : 2 ^ 32 ≤ 2 ^ level = pow_mono h in sym (div-eq_of_lt {n = s.p} {m = 2 ^ level} (omega arith))

-- the top is a level of 5 bits
pub top_small : (s : Settings) → Good s → top s ≤ 31
top_small s g =
    let t = top-greatest s (positive s g) (small s g) in
    let no : (32 ≤ top s → ⊥) = (λ h. let m : 2 ^ 32 ≤ 2 ^ top s = pow_mono h in omega (arith, small s g)) in
    omega arith
