-- The laws of the range count.
--     hit_yes, hit_no, hit-min, hit_same     `hit` by cases, as a number that `omega` reads, and of two pairs in one order
--     hits_few, hits-none, hits-zero at most n of n, none of none, none below 0
--     hits_join, hits-start          a progression of a + b elements is one of a and one of b; a start may be reduced
--     hits_turn, turned_up           a progression downwards, read from its end, is one upwards; up by d is down by m - d
--     hits_still, hits_still_down    a progression whose difference is 0
-- Assumes nothing.
use mathlib.Core.Path.{◌≡◌, refl, sym, ap, ◌∙◌}
use mathlib.Core.Bool.{Bool, true, false}
use mathlib.Core.Logic.{⊎_elim}
use Prim.Native.Nat.{ℕ, zero, suc, ◌+◌, ◌-◌, ◌*◌, ◌%◌, ◌<◌, ◌≤◌, min}
use native.Mathlib.Nat.{add-suc, add-zero, mod-eq_of_lt, mod-mod, add-mod_right, add-mul-mod_self_right}
use native.Mathlib.Nat.{mod-add-mod}
use native.Mathlib.Numerals.{one-add}
use native.Mathlib.Omega.{arith}
use borrow.Author.Tests.{lt-ltb, le-ltb}
use Rattle.lists.proofs.Tests.{by_order}
use Rattle.count.specs.Hits.{hit, hits_up, hits_down}

pub hit_yes : (a l : ℕ) → a < l → hit a l ≡ 1
unfolding hit
hit_yes a l h = ap (λ (t : Bool). elim t as (λ _. ℕ) [ true ↦ 1 | false ↦ 0 ]) (lt-ltb a l h)

pub hit_no : (a l : ℕ) → l ≤ a → hit a l ≡ 0
unfolding hit
hit_no a l h = ap (λ (t : Bool). elim t as (λ _. ℕ) [ true ↦ 1 | false ↦ 0 ]) (le-ltb a l h)

pub hit-min : (a l : ℕ) → hit a l ≡ min 1 (l - a)
hit-min a l = ⊎_elim (λ h. omega (arith, hit_yes a l h)) (λ h. omega (arith, hit_no a l h)) (by_order a l)

pub hit_same : (a l b k : ℕ) → (a < l → b < k) → (b < k → a < l) → hit a l ≡ hit b k
hit_same a l b k f g =
    ⊎_elim
    (λ h. hit_yes a l h ∙ sym (hit_yes b k (f h)))
    (λ h. ⊎_elim (λ j. hit_yes a l (g j) ∙ sym (hit_yes b k j)) (λ j. hit_no a l h ∙ sym (hit_no b k j)) (by_order b k))
    (by_order a l)

pub hits_few : (m d u n l : ℕ) → hits_up m d u n l ≤ n
unfolding hits_up
hits_few m d u zero l = omega arith
hits_few m d u (suc n) l = omega (arith, hits_few m d u n l, hit-min ((u + n * d) % m) l)

pub hits_join : (m d u a b l : ℕ) → hits_up m d u (a + b) l ≡ hits_up m d u a l + hits_up m d (u + a * d) b l
unfolding hits_up
hits_join m d u a zero l = ap (λ (k : ℕ). hits_up m d u k l) (add-zero a) ∙ omega arith
hits_join m d u a (suc b) l =
    ap (λ (k : ℕ). hits_up m d u k l) (add-suc a b)
    ∙ (let e : hits_up m d u (a + b) l ≡ hits_up m d u a l + hits_up m d (u + a * d) b l = hits_join m d u a b l in
    let h : hit ((u + (a + b) * d) % m) l ≡ hit ((u + a * d + b * d) % m) l = ap (λ (x : ℕ). hit (x % m) l) (omega arith) in
    omega arith)

-- the first element, and the others
hits_front : (m d v n l : ℕ) → hits_up m d v (suc n) l ≡ hit (v % m) l + hits_up m d (v + d) n l
unfolding hits_up
hits_front m d v n l =
    ap (λ (k : ℕ). hits_up m d v k l) (sym (one-add n))
    ∙ hits_join m d v 1 n l
    ∙ (let a : hit ((v + 0 * d) % m) l ≡ hit (v % m) l = ap (λ (x : ℕ). hit (x % m) l) (omega arith) in
    let b : hits_up m d (v + 1 * d) n l ≡ hits_up m d (v + d) n l = ap (λ (x : ℕ). hits_up m d x n l) (omega arith) in
    omega arith)

-- u + n * (m - d), .., u + (m - d), u modulo m, where the first is v
turn : (m d l : ℕ) → d ≤ m → (n u v : ℕ) → v % m ≡ (u + n * (m - d)) % m → hits_up m (m - d) u (suc n) l ≡ hits_up m d v (suc n) l
unfolding hits_up
turn m d l dm zero u v e =
    let z : v + 0 * d ≡ v = omega arith in
    ap (λ (x : ℕ). 0 + hit x l) (sym e ∙ ap (λ (x : ℕ). x % m) (sym z))
turn m d l dm (suc n) u v e =
    let c : u + suc n * (m - d) + d ≡ u + n * (m - d) + m = omega arith in
    let e' : (v + d) % m ≡ (u + n * (m - d)) % m =
    sym (mod-add-mod v m d)
    ∙ ap (λ (x : ℕ). (x + d) % m) e
    ∙ mod-add-mod (u + suc n * (m - d)) m d
    ∙ ap (λ (x : ℕ). x % m) c
    ∙ add-mod_right (u + n * (m - d)) m in
    let h : hit (v % m) l ≡ hit ((u + suc n * (m - d)) % m) l = ap (λ (x : ℕ). hit x l) e in
    omega (arith, turn m d l dm n u (v + d) e', hits_front m d v (suc n) l)

-- a progression downwards, read from its end
pub hits_turn : (m d u n l : ℕ) → d ≤ m → hits_down m d u (suc n) l ≡ hits_up m d ((u + n * (m - d)) % m) (suc n) l
unfolding hits_down
hits_turn m d u n l dm = turn m d l dm n u ((u + n * (m - d)) % m) (mod-mod (u + n * (m - d)) m)

-- a start may be reduced, as that of `hits_join`
pub hits-start : (m d u n l : ℕ) → hits_up m d (u % m) n l ≡ hits_up m d u n l
unfolding hits_up
hits-start m d u zero l = refl
hits-start m d u (suc n) l =
    let h : hit ((u % m + n * d) % m) l ≡ hit ((u + n * d) % m) l = ap (λ (x : ℕ). hit x l) (mod-add-mod u m (n * d)) in
    omega (arith, hits-start m d u n l)

-- a progression that stands still, upwards and downwards
hits_fixed : (m s u n l : ℕ) → ((i : ℕ) → (u + i * s) % m ≡ u) → hits_up m s u n l ≡ n * hit u l
unfolding hits_up
hits_fixed m s u zero l f = omega arith
hits_fixed m s u (suc n) l f =
    let h : hit ((u + n * s) % m) l ≡ hit u l = ap (λ (x : ℕ). hit x l) (f n) in
    omega (arith, hits_fixed m s u n l f)

pub hits_still : (m u n l : ℕ) → u < m → hits_up m 0 u n l ≡ n * hit u l
hits_still m u n l um =
    hits_fixed m 0 u n l (λ i. let z : u + i * 0 ≡ u = omega arith in ap (λ (x : ℕ). x % m) z ∙ mod-eq_of_lt um)

pub hits_still_down : (m u n l : ℕ) → u < m → hits_down m 0 u n l ≡ n * hit u l
unfolding hits_down
hits_still_down m u n l um =
    let z : m - 0 ≡ m = omega arith in
    hits_fixed m (m - 0) u n l (λ i. ap (λ (s : ℕ). (u + i * s) % m) z ∙ add-mul-mod_self_right u i m ∙ mod-eq_of_lt um)

-- no elements, and none below 0
pub hits-none : (m d u n l : ℕ) → n ≡ 0 → hits_up m d u n l ≡ 0
unfolding hits_up
hits-none m d u n l e = ap (λ (k : ℕ). hits_up m d u k l) e

pub hits-zero : (m d u n l : ℕ) → l ≡ 0 → hits_up m d u n l ≡ 0
unfolding hits_up
hits-zero m d u zero l e = refl
hits-zero m d u (suc n) l e = omega (arith, hits-zero m d u n l e, hit-min ((u + n * d) % m) l)

-- up by d is down by m - d: for a difference over half of the modulus
pub turned_up : (m d u n l : ℕ) → d ≤ m → hits_down m (m - d) u n l ≡ hits_up m d u n l
unfolding hits_down
turned_up m d u n l h = ap (λ (s : ℕ). hits_up m s u n l) (omega arith)
