-- What a block says, written and read.
--     pad-small     a list with zeros after it
--     zeros_behind, padded_back     the zeros are there, and a list with zeros after it is padded
--     head_length, head_small, body-length, body-small      508 bytes
--     body-shaped, body-cells     a cell block that was written has its shape, and its cells are read
--     body_back      a cell block with that shape and a right check is the one of its cells
--     fields_length      the fields of block 0 are 26 bytes
--     head_mark, head_settings, head_level, head_count, head_zeros     what block 0 says is read, for any mark and whatever follows the fields
--     head_back      block 0 with zeros and a right check is the one of what it says
-- Assumes nothing.
use Prim.Native.Nat.{ℕ, zero, suc, ◌+◌, ◌*◌, ◌-◌, ◌<◌, ◌≤◌}
use Prim.{tt}
use mathlib.Core.Path.{◌≡◌, sym, ap, ap₂, ◌∙◌}
use mathlib.Core.Bool.{true, ◌&&◌, and-eq-true_iff}
use mathlib.Core.List.{List, ◌++◌, append_assoc}
use native.Mathlib.Omega.{arith}
use lib.Dec.{lit<}
use lib.ListN.{length, take, drop, replicate, length-append, length-replicate, length-drop}
use lib.Seq.{take_at, drop_at, take-add, drop-drop, length-take-le}
use borrow.Author.Tests.{eq-eqb, eqb-true}
use Rattle.lists.specs.Rows.{pad, all_zero}
use Rattle.lists.proofs.Places.{pad-length, zero_facts, zeros_zero}
use Rattle.rule.specs.declared.Settings.{Settings}
use Rattle.block.specs.Little.{Bytes, bytes_of, number_at}
use Rattle.block.specs.Sums.{block_good, sealed, plain_of, weighted_of}
use Rattle.block.proofs.Numbers.{bytes-length, bytes_small, number-bytes, append-small, drop-small}
use Rattle.block.proofs.Blocks.{good-sealed}
use Rattle.layout.specs.Images.{settings_bytes, fields_of, fields_end, head_with, cell_bytes, body_of, said_settings, said_level, said_count, numbers_in}
use Rattle.layout.specs.Shapes.{span, block_shaped}
use Rattle.layout.proofs.Fields.{field, there, Fours, cell_bytes-length, cell_bytes-small, numbers-length, numbers-bytes, bytes-numbers}

zeros_small : (n : ℕ) → Bytes (replicate n 0)
zeros_small zero i = lit< tt
zeros_small (suc n) zero = lit< tt
zeros_small (suc n) (suc i) = zeros_small n i

pub pad-small : (n : ℕ) (xs : List ℕ) → Bytes xs → Bytes (pad n xs)
pad-small n xs h = append-small xs (replicate (n - length xs) 0) h (zeros_small (n - length xs))

-- a number, and bytes after it
then_small : (k x : ℕ) (ys : List ℕ) → Bytes ys → Bytes (bytes_of k x ++ ys)
then_small k x ys h = append-small (bytes_of k x) ys (bytes_small k x) h

pub zeros_behind : (n a : ℕ) (xs t : List ℕ) → length xs ≡ a → a ≤ n → all_zero (span a n (pad n xs ++ t)) ≡ true
zeros_behind n a xs t e h =
    let z : List ℕ = replicate (n - length xs) 0 in
    let d : drop a (pad n xs ++ t) ≡ z ++ t = ap (drop a) (append_assoc xs z t) ∙ drop_at xs (z ++ t) a e in
    let l : length z ≡ n - a = length-replicate (n - length xs) 0 ∙ ap (λ k. n - k) e in
    rw (d, take_at z t (n - a) l) (zeros_zero (n - length xs))

pub padded_back : (n a : ℕ) (s xs : List ℕ) → length xs ≡ a → take a s ≡ xs → a ≤ n → n ≤ length s → all_zero (span a n s) ≡ true → take n s ≡ pad n xs
padded_back n a s xs m e h l z =
    let k : n ≡ a + (n - a) = omega arith in
    let j : length (span a n s) ≡ n - length xs = length-take-le (n - a) (drop a s) (rw length-drop (omega arith)) ∙ ap (λ i. n - i) (sym m) in
    ap (λ i. take i s) k ∙ take-add a (n - a) s ∙ ap₂ ◌++◌ e (zero_facts _ z ∙ ap (λ i. replicate i 0) j)

-- a cell block

-- what it says before its zeros
abbrev said : ℕ → List ℕ → List ℕ
said i xs = bytes_of 2 i ++ (bytes_of 2 (length xs) ++ cell_bytes xs)

said_length : (i : ℕ) (xs : List ℕ) → length (said i xs) ≡ 4 + 4 * length xs
said_length i xs = simp (length-append, bytes-length, cell_bytes-length) (omega arith)

pub body-length : (i : ℕ) (xs : List ℕ) → length xs ≤ 126 → length (body_of i xs) ≡ 508
unfolding body_of
body-length i xs h = pad-length 508 (said i xs) (omega (arith, said_length i xs))

pub body-small : (i : ℕ) (xs : List ℕ) → Bytes (body_of i xs)
unfolding body_of
body-small i xs = pad-small 508 (said i xs) (then_small 2 i _ (then_small 2 (length xs) (cell_bytes xs) (cell_bytes-small xs)))

pub body-shaped : (i : ℕ) (xs : List ℕ) → i < 65536 → length xs ≤ 126 → block_shaped i (length xs) (sealed (body_of i xs)) ≡ true
unfolding block_shaped sealed body_of bytes_of
body-shaped i xs h l =
    let z =
    zeros_behind 508 (4 + 4 * length xs) (said i xs) (bytes_of 2 (plain_of (body_of i xs)) ++ bytes_of 2 (weighted_of (body_of i xs))) (said_length i xs)
    (omega arith) in
    ap₂ ◌&&◌ (eq-eqb _ _ (number-bytes 2 i h)) (ap₂ ◌&&◌ (eq-eqb _ _ (number-bytes 2 (length xs) (omega arith))) z)

pub body-cells : (i : ℕ) (xs : List ℕ) → Fours xs → numbers_in (length xs) (drop 4 (sealed (body_of i xs))) ≡ xs
unfolding sealed body_of bytes_of
body-cells i xs f =
    let t = bytes_of 2 (plain_of (body_of i xs)) ++ bytes_of 2 (weighted_of (body_of i xs)) in
    rw (append_assoc (cell_bytes xs) (replicate (508 - length (said i xs)) 0) t) (numbers-bytes xs _ f)

-- block 0

-- its fields
module _ (m : ℕ) (s : Settings) (level count : ℕ) where
  pub fields_length : length (fields_of m s level count) ≡ fields_end
  unfolding fields_of settings_bytes
  fields_length = simp (length-append, bytes-length)

  fields_small : Bytes (fields_of m s level count)
  unfolding fields_of settings_bytes
  fields_small =
      let settings : Bytes (settings_bytes s) =
      then_small 4 s.n _ (then_small 4 s.p _ (then_small 4 s.a _ (then_small 4 s.b _ (bytes_small 2 s.capacity)))) in
      then_small 4 m _ (append-small (settings_bytes s) _ settings (then_small 2 level _ (bytes_small 2 count)))

  -- and what follows them
  module _ (tail : List ℕ) where
    told-length : length (fields_of m s level count ++ tail) ≡ fields_end + length tail
    told-length = length-append (fields_of m s level count) tail ∙ ap (λ n. n + length tail) fields_length

    pub head_length : fields_end + length tail ≤ 508 → length (head_with m tail s level count) ≡ 508
    unfolding head_with
    head_length h = pad-length 508 (fields_of m s level count ++ tail) (omega (arith, told-length))

    pub head_small : Bytes tail → Bytes (head_with m tail s level count)
    unfolding head_with
    head_small b = pad-small 508 (fields_of m s level count ++ tail) (append-small (fields_of m s level count) tail fields_small b)

-- the settings fit their bytes
pub record Narrow (s : Settings) : Type 0 where
  pub n : s.n < 4294967296
  pub p : s.p < 4294967296
  pub a : s.a < 4294967296
  pub b : s.b < 4294967296
  pub capacity : s.capacity < 65536

-- block 0 as it was written, with blocks after it
module _ (m : ℕ) (tail : List ℕ) (s : Settings) (level count : ℕ) (rest : List ℕ) where
  abbrev image : List ℕ
  image = sealed (head_with m tail s level count) ++ rest

  pub head_mark : m < 4294967296 → number_at 4 0 image ≡ m
  unfolding sealed head_with fields_of bytes_of
  head_mark h = number-bytes 4 m h

  pub head_count : count < 65536 → said_count image ≡ count
  unfolding said_count sealed head_with fields_of settings_bytes bytes_of
  head_count h = number-bytes 2 count h

  pub head_level : level < 65536 → said_level image ≡ level
  unfolding said_level sealed head_with fields_of settings_bytes bytes_of
  head_level h = number-bytes 2 level h

  pub head_settings : Narrow s → said_settings image ≡ s
  unfolding said_settings sealed head_with fields_of settings_bytes bytes_of
  head_settings h =
      let n : number_at 4 4 image ≡ s.n = number-bytes 4 s.n h.n in
      let p : number_at 4 8 image ≡ s.p = number-bytes 4 s.p h.p in
      let a : number_at 4 12 image ≡ s.a = number-bytes 4 s.a h.a in
      let b : number_at 4 16 image ≡ s.b = number-bytes 4 s.b h.b in
      let c : number_at 2 20 image ≡ s.capacity = number-bytes 2 s.capacity h.capacity in
      rw (n, p, a, b, c)

  pub head_zeros : fields_end + length tail ≤ 508 → all_zero (span (fields_end + length tail) 508 image) ≡ true
  unfolding sealed head_with
  head_zeros h =
      let body = head_with m tail s level count in
      let t = bytes_of 2 (plain_of body) ++ bytes_of 2 (weighted_of body) in
      rw (append_assoc body t rest)
      (zeros_behind 508 (fields_end + length tail) (fields_of m s level count ++ tail) (t ++ rest) (told-length m s level count tail) h)

behind : (xs : List ℕ) {ys zs : List ℕ} → ys ≡ zs → xs ++ ys ≡ xs ++ zs
behind xs e = ap (λ l. xs ++ l) e

-- the words of a cell block
words : (r : ℕ) (s : List ℕ) → 4 ≤ length s → Bytes s → take (4 + r) s ≡ bytes_of 2 (number_at 2 0 s) ++ (bytes_of 2 (number_at 2 2 s) ++ take r (drop 4 s))
words r s h b =
    let e : 4 + r ≡ 2 + (2 + r) = omega arith in
    ap (λ n. take n s) e ∙ field 2 (2 + r) 0 s (omega arith) b ∙ behind (bytes_of 2 (number_at 2 0 s)) (field 2 r 2 s h b)

settings_back : (s : List ℕ) → 22 ≤ length s → Bytes s → take 18 (drop 4 s) ≡ settings_bytes (said_settings s)
unfolding settings_bytes said_settings
settings_back s h b =
    field 4 14 4 s (omega arith) b
    ∙ behind (bytes_of 4 (number_at 4 4 s)) (field 4 10 8 s (omega arith) b
    ∙ behind (bytes_of 4 (number_at 4 8 s)) (field 4 6 12 s (omega arith) b
    ∙ behind (bytes_of 4 (number_at 4 12 s)) (field 4 2 16 s (omega arith) b ∙ behind (bytes_of 4 (number_at 4 16 s)) (there 2 20 s (omega arith) b))))

-- a block with a right check, and what it says
module _ (s : List ℕ) (len : length s ≡ 512) (small : Bytes s) (good : block_good s ≡ true) where
  pub body_back : (i many : ℕ) → many ≤ 126 → block_shaped i many s ≡ true → s ≡ sealed (body_of i (numbers_in many (drop 4 s)))
  unfolding block_shaped body_of
  body_back i many h e =
      let xs = numbers_in many (drop 4 s) in
      let n : length xs ≡ many = numbers-length many (drop 4 s) in
      let ok = (and-eq-true_iff _ _).0 e in
      let more = (and-eq-true_iff _ _).0 ok.1 in
      let w : number_at 2 0 s ≡ i = eqb-true _ _ ok.0 in
      let v : number_at 2 2 s ≡ length xs = eqb-true _ _ more.0 ∙ sym n in
      let c : take (4 * many) (drop 4 s) ≡ cell_bytes xs = sym (bytes-numbers many (drop 4 s) (rw length-drop (omega arith)) (drop-small 4 s small)) in
      let f : take (4 + 4 * many) s ≡ bytes_of 2 (number_at 2 0 s) ++ (bytes_of 2 (number_at 2 2 s) ++ take (4 * many) (drop 4 s)) =
      words (4 * many) s (omega arith) small in
      let g : take (4 + 4 * many) s ≡ said i xs = rw (f, w, v, c) in
      good-sealed s len small good
      ∙ ap sealed (padded_back 508 (4 + 4 * many) s (said i xs) (said_length i xs ∙ ap (λ k. 4 + 4 * k) n) g (omega arith) (omega arith) more.1)

  fields_back : take fields_end s ≡ fields_of (number_at 4 0 s) (said_settings s) (said_level s) (said_count s)
  unfolding fields_of said_level said_count
  fields_back =
      field 4 22 0 s (omega arith) small
      ∙ behind (bytes_of 4 (number_at 4 0 s)) (take-add 18 4 (drop 4 s)
      ∙ ap₂ ◌++◌ (settings_back s (omega arith) small) (ap (take 4) (drop-drop 18 4 s)
      ∙ field 2 2 22 s (omega arith) small
      ∙ behind (bytes_of 2 (number_at 2 22 s)) (there 2 24 s (omega arith) small)))

  pub head_back : (tail : List ℕ) → fields_end + length tail ≤ 508 → take (length tail) (drop fields_end s) ≡ tail
      → all_zero (span (fields_end + length tail) 508 s) ≡ true
      → s ≡ sealed (head_with (number_at 4 0 s) tail (said_settings s) (said_level s) (said_count s))
  unfolding head_with
  head_back tail h e z =
      let fields = fields_of (number_at 4 0 s) (said_settings s) (said_level s) (said_count s) in
      let said : take (fields_end + length tail) s ≡ fields ++ tail = take-add fields_end (length tail) s ∙ ap₂ ◌++◌ fields_back e in
      good-sealed s len small good
      ∙ ap sealed (padded_back 508 (fields_end + length tail) s (fields ++ tail) (told-length _ _ _ _ tail) said h (omega arith) z)
