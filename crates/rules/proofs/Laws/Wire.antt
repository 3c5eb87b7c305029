-- Leaves and bit vectors over bytes: what was written is read, and what was read is written back but for the bits past n of a bit vector.
pub mod Used
use Rattle.std.specs.Prelude.{Bool, List, ◌++◌, [], ◌∷◌, ℕ, suc, ◌*◌, ◌^◌, ◌≤◌, ◌<◌, leb, take, replicate}
use Rattle.std.proofs.Math.Bool.{true, false}
use Rattle.std.proofs.Math.Path.{◌≡◌, refl, ap}
use Rattle.std.proofs.Common.{sym, ◌∙◌, ap₂, subst, lt_of_lt_of_le, arith, ltb-true, ltb-false, lt-ltb, le-ltb, leb-true, le-leb, lit≤, length-append, pow_mono, take_at, length-take-le}
use Rattle.std.proofs.Math.Dec.{ltb}
use Rattle.std.proofs.Math.ListN.{length}
use Rattle.rules.specs.Refusals.{Refusal, tag_at, bit_count_at, max_bits}
use Rattle.rules.specs.Basics.{pick, Under}
use Rattle.rules.specs.Types.{Width, w1, w2, w4, w8, w16, Leaf, unit, bool, opt_bool, fixed, compact, float, size, bound}
use Rattle.rules.specs.Bytes.{le_value, le_bytes}
use Rattle.rules.proofs.Laws.Bytes.{under_take, value_lt, length_bytes, value_bytes, bytes_value}
use Rattle.rules.specs.Compact.{compact_bytes, Answer, value, short, prefix, range, compact_from}
use Rattle.rules.proofs.Laws.Compact.Answers.{fits_lt, lt_fits}
use Rattle.rules.proofs.Laws.Compact.Law.{compact_reads, compact_opens, compact_took}
use Rattle.rules.specs.Bits.{words8, pack, lanes, counted}
use Rattle.rules.specs.Bits.Laws.{Like}
use Rattle.rules.proofs.Laws.Bits.{length_pack, lanes_pack, length_lanes, pack_lanes, like_append, like_same}
use Rattle.rules.specs.Parser.{Res, got, bad}
use Rattle.rules.specs.Parser.Laws.{Writes, Backs}
use Rattle.rules.proofs.Laws.Parser.{writes_bind, back_bind}
use Rattle.rules.specs.Form.Laws.{Reads, Returns}
use Rattle.rules.specs.Wire.{leaf_bytes, bits_bytes, bytes, widths, byte_from, whole, number_from, placed, leaf_from, lanes_in, lanes_from, bits_body, bits_from, from_bytes}
use Rattle.rules.specs.Wire.Laws.{Exact, Laned, Lanes}

-- ---- what is whole

module _ {A : Type 0} (n : ℕ) (y : Refusal) (s : List ℕ) (g : List ℕ → Res A) where
  pub whole_there : n ≤ length s → whole n y s g ≡ g (take n s)
  unfolding whole
  whole_there h = ap (λ b. pick b (bad y) (g (take n s))) (le-ltb (length s) n h)

  pub whole_short : length s < n → whole n y s g ≡ bad y
  unfolding whole
  whole_short h = ap (λ b. pick b (bad y) (g (take n s))) (lt-ltb (length s) n h)

  pub whole_got : (v : A) (j : ℕ) → whole n y s g ≡ got v j → (n ≤ length s) × (g (take n s) ≡ got v j)
  unfolding whole
  whole_got v j e = go (ltb (length s) n) refl e
    where
      go : (x : Bool) → ltb (length s) n ≡ x → pick x (bad y) (g (take n s)) ≡ got v j → (n ≤ length s) × (g (take n s) ≡ got v j)
      go true q f = absurd (let z : ◌≡◌ {A = ℕ} 0 1 = cc in omega arith)
      go false q f = (ltb-false (length s) n q, f)

-- ---- what was written is read

byte_reads : (m v : ℕ) → v < m → Writes (byte_from m) v (v ∷ [])
unfolding byte_from
byte_reads m v h at s = ap (λ b. pick b (got v 1) (bad (tag_at at))) (lt-ltb v m h)

number_reads : (n v : ℕ) → v < 2 ^ (8 * n) → Writes (number_from n) v (le_bytes n v)
unfolding number_from
number_reads n v h at s =
    let there : n ≤ length (le_bytes n v ++ s) = omega (arith, length-append (le_bytes n v) s, length_bytes n v) in
    whole_there n _ (le_bytes n v ++ s) (λ l. got (le_value l) n) there
    ∙ ap (λ x. got x n) (ap le_value (take_at (le_bytes n v) s n (length_bytes n v)) ∙ value_bytes n v h)
    ∙ ap (got v) (sym (length_bytes n v))

size_67 : (w : Width) → size w ≤ 67
size_67 w1 = lit≤ tt
size_67 w2 = lit≤ tt
size_67 w4 = lit≤ tt
size_67 w8 = lit≤ tt
size_67 w16 = lit≤ tt

wire_compact : (w : Width) (v : ℕ) → v < 2 ^ (8 * size w) → Writes (leaf_from (compact w)) v (compact_bytes v)
unfolding leaf_from placed
wire_compact w v h at s =
    let few : v < 2 ^ 536 = lt_of_lt_of_le h (pow_mono {i = 8 * size w} {j = 536} (omega (arith, size_67 w))) in
    ap (placed at) (compact_reads (size w) v s few (lt_fits (size w) v h))

leaf_reads : (k : Leaf) (v : ℕ) → v < bound k → Writes (leaf_from k) v (leaf_bytes k v)
unfolding leaf_from leaf_bytes
leaf_reads unit v h at s = let e : 0 ≡ v = omega arith in ap (λ x. got x 0) e
leaf_reads bool v h at s = byte_reads 2 v h at s
leaf_reads opt_bool v h at s = byte_reads 3 v h at s
leaf_reads (fixed w) v h at s = number_reads (size w) v h at s
leaf_reads (compact w) v h at s = wire_compact w v h at s
leaf_reads (float w) v h at s = number_reads (size w) v h at s

lanes_reads : (at : ℕ) (v : List Bool) → Writes (lanes_from (length v) at) v (pack 8 (words8 (length v)) v)
unfolding lanes_from lanes_in
lanes_reads at v from s =
    let n = length v in
    let k = words8 n in
    let p = pack 8 k v in
    let there : k ≤ length (p ++ s) = omega (arith, length-append p s, length_pack 8 k v) in
    whole_there k _ (p ++ s) (lanes_in n at) there
    ∙ ap (λ x. got x k) (ap (lanes 8 n) (take_at p s k (length_pack 8 k v)) ∙ lanes_pack 8 k v (omega arith))
    ∙ ap (got v) (sym (length_pack 8 k v))

body_reads : (at : ℕ) (v : List Bool) → length v ≤ max_bits → Writes (bits_body (length v) at) v (pack 8 (words8 (length v)) v)
unfolding bits_body
body_reads at v h from s =
    ap (λ b. pick b (lanes_from (length v) at from (pack 8 (words8 (length v)) v ++ s)) (bad (bit_count_at at))) (le-leb (length v) max_bits h) ∙ lanes_reads at v from s

pub wire_reads : Reads bytes from_bytes
unfolding bits_bytes bits_from
wire_reads = record {
  leaf_reads = leaf_reads;
  bits_reads = λ v h at s. writes_bind (leaf_from (compact w4)) (λ n. bits_body n at) (length v) v (leaf_bytes (compact w4) (length v)) (pack 8 (words8 (length v)) v)
      (leaf_reads (compact w4) (length v) (omega arith)) (body_reads at v h) at s;
}

byte_back : (m at : ℕ) (s : List ℕ) (v n : ℕ) → byte_from m at s ≡ got v n → (n ≤ length s) × ((v < m) × (v ∷ [] ≡ take n s))
unfolding byte_from
byte_back m at [] v n e = absurd (let z : ◌≡◌ {A = ℕ} 0 1 = cc in omega arith)
byte_back m at (b ∷ s) v n e = go (ltb b m) refl e
  where
    go : (x : Bool) → ltb b m ≡ x → pick x (got b 1) (bad (tag_at at)) ≡ got v n → (n ≤ suc (length s)) × ((v < m) × (v ∷ [] ≡ take n (b ∷ s)))
    go true q f =
        let a : b ≡ v = cc in
        let c : 1 ≡ n = cc in
        (omega arith, (omega (arith, ltb-true b m q), ap (λ x. x ∷ []) (sym a) ∙ ap (λ x. take x (b ∷ s)) c))
    go false q f = absurd (let z : ◌≡◌ {A = ℕ} 0 1 = cc in omega arith)

number_back : (k at : ℕ) (s : List ℕ) (v n : ℕ) → Under 256 s → number_from k at s ≡ got v n → (n ≤ length s) × ((v < 2 ^ (8 * k)) × (le_bytes k v ≡ take n s))
unfolding number_from
number_back k at s v n u e =
    let w = whole_got k _ s (λ l. got (le_value l) k) v n e in
    let f : got (le_value (take k s)) k ≡ got v n = w.1 in
    let a : le_value (take k s) ≡ v = cc in
    let c : k ≡ n = cc in
    let len : length (take k s) ≡ k = length-take-le k s w.0 in (
      omega (arith, w.0),
      (
        subst (λ x. x < 2 ^ (8 * k)) a (value_lt k s u),
        ap₂ le_bytes (sym len) (sym a) ∙ bytes_value (take k s) (under_take 256 k s u) ∙ ap (λ x. take x s) c,
      ),
    )

pub placed_says : (at : ℕ) (a : Answer) (v n : ℕ) → placed at a ≡ got v n → a ≡ value v n
unfolding placed
placed_says at (value x m) v n e =
    let a : x ≡ v = cc in
    let c : m ≡ n = cc in
    ap₂ value a c
placed_says at short v n e = absurd (let z : ◌≡◌ {A = ℕ} 0 1 = cc in omega arith)
placed_says at prefix v n e = absurd (let z : ◌≡◌ {A = ℕ} 0 1 = cc in omega arith)
placed_says at range v n e = absurd (let z : ◌≡◌ {A = ℕ} 0 1 = cc in omega arith)

compact_back : (w : Width) (at : ℕ) (s : List ℕ) (v n : ℕ) → Under 256 s → leaf_from (compact w) at s ≡ got v n
    → (n ≤ length s) × ((v < 2 ^ (8 * size w)) × (compact_bytes v ≡ take n s))
unfolding leaf_from
compact_back w at s v n u e =
    let r = placed_says at (compact_from (size w) s) v n e in
    let o = compact_opens (size w) v n s u r in
    ((compact_took (size w) v n s r).1, (fits_lt (size w) v o.fitting, sym o.bytes))

exact_back : (k : Leaf) → Backs 256 (Exact k) (leaf_from k)
unfolding leaf_from leaf_bytes
exact_back unit at s v n u e =
    let a : 0 ≡ v = cc in
    let c : 0 ≡ n = cc in
    (omega arith, (omega arith, ap (λ x. take x s) c))
exact_back bool at s v n u e = byte_back 2 at s v n e
exact_back opt_bool at s v n u e = byte_back 3 at s v n e
exact_back (fixed w) at s v n u e = number_back (size w) at s v n u e
exact_back (compact w) at s v n u e = compact_back w at s v n u e
exact_back (float w) at s v n u e = number_back (size w) at s v n u e

-- a leaf's bytes are its value's one encoding
pub leaf_exact : (k : Leaf) (at : ℕ) (s : List ℕ) (v n : ℕ) → Under 256 s → leaf_from k at s ≡ got v n → leaf_bytes k v ≡ take n s
leaf_exact k at s v n u e = (exact_back k at s v n u e).1.1

-- .. and the value is one of the leaf
pub leaf_bound : (k : Leaf) (at : ℕ) (s : List ℕ) (v n : ℕ) → Under 256 s → leaf_from k at s ≡ got v n → v < bound k
leaf_bound k at s v n u e = (exact_back k at s v n u e).1.0

exact_like : (w l : List ℕ) → w ≡ l → Under 256 l → Like (replicate (length w) 8) w l
exact_like w l e u = subst (λ x. Like (replicate (length x) 8) x l) (sym e) (like_same 8 l u)

leaf_back : (k : Leaf) → Backs 256 (λ v l. (v < bound k) × Like (replicate (length (leaf_bytes k v)) 8) (leaf_bytes k v) l) (leaf_from k)
leaf_back k at s v n u e =
    let r = exact_back k at s v n u e in
    (r.0, (r.1.0, exact_like (leaf_bytes k v) (take n s) r.1.1 (under_take 256 n s u)))

pub lanes_got : (n at from : ℕ) (s : List ℕ) (v : List Bool) (j : ℕ) → lanes_from n at from s ≡ got v j → Laned n s v j
unfolding lanes_from lanes_in
lanes_got n at from s v j e =
    let w = whole_got (words8 n) _ s (lanes_in n at) v j e in
    let f : got (lanes 8 n (take (words8 n) s)) (words8 n) ≡ got v j = w.1 in
    let a : lanes 8 n (take (words8 n) s) ≡ v = cc in
    let c : words8 n ≡ j = cc in
    record { there = w.0; bits = a; used = c }

-- as many bits as the count says
pub lanes_length : (c at from : ℕ) (l : List ℕ) (v : List Bool) (n : ℕ) → lanes_from c at from l ≡ got v n → length v ≡ c
lanes_length c at from l v n e =
    let r = lanes_got c at from l v n e in
    ap length (sym r.bits) ∙ length_lanes 8 c (take (words8 c) l) (omega (arith, length-take-le (words8 c) l r.there))

lanes_back : (at n : ℕ) → Backs 256 (Lanes n) (lanes_from n at)
lanes_back at n from s v j u e =
    let r = lanes_got n at from s v j e in
    let len : length (take (words8 n) s) ≡ words8 n = length-take-le (words8 n) s r.there in
    let like : Like (counted 8 (words8 n) n) (pack 8 (words8 n) (lanes 8 n (take (words8 n) s))) (take (words8 n) s) =
    subst (λ k. Like (counted 8 k n) (pack 8 k (lanes 8 n (take (words8 n) s))) (take (words8 n) s)) len (pack_lanes 8 n (take (words8 n) s)) in (
      omega (arith, r.there, r.used),
      (
        lanes_length n at from s v j e,
        subst (λ x. Like (counted 8 (words8 n) n) (pack 8 (words8 n) v) (take x s)) r.used (subst (λ x. Like (counted 8 (words8 n) n) (pack 8 (words8 n) x) (take (words8 n) s)) r.bits like),
      ),
    )

body_back : (at n : ℕ) → Backs 256 (λ v l. (n ≤ max_bits) × Lanes n v l) (bits_body n at)
unfolding bits_body
body_back at n from s v j u e = go (leb n max_bits) refl e
  where
    go : (x : Bool) → leb n max_bits ≡ x → pick x (lanes_from n at from s) (bad (bit_count_at at)) ≡ got v j → (j ≤ length s) × ((n ≤ max_bits) × Lanes n v (take j s))
    go false p f = absurd (let z : ◌≡◌ {A = ℕ} 0 1 = cc in omega arith)
    go true p f = let r = lanes_back at n from s v j u f in (r.0, (leb-true n max_bits p, r.1))

bits_both : (n : ℕ) (v : List Bool) (l k : List ℕ) → (n < 2 ^ 32) × Like (replicate (length (leaf_bytes (compact w4) n)) 8) (leaf_bytes (compact w4) n) l
    → (n ≤ max_bits) × Lanes n v k → (length v ≤ max_bits) × Like (widths.bits_out v) (bits_bytes v) (l ++ k)
unfolding bits_bytes
bits_both n v l k p q =
    let e : n ≡ length v = sym q.1.0 in (
      omega (arith, q.0),
      subst (λ x. Like (replicate (length (leaf_bytes (compact w4) x)) 8 ++ counted 8 (words8 x) x) (leaf_bytes (compact w4) x ++ pack 8 (words8 x) v) (l ++ k)) e
          (like_append (replicate (length (leaf_bytes (compact w4) n)) 8) (leaf_bytes (compact w4) n) l (counted 8 (words8 n) n) (pack 8 (words8 n) v) k p.1 q.1.1),
    )

pub wire_returns : Returns bytes widths from_bytes 256
unfolding bits_from
wire_returns = record {
  leaf_back = leaf_back;
  bits_back = λ at s v n u e. back_bind 256 (λ v l. (v < 2 ^ 32) × Like (replicate (length (leaf_bytes (compact w4) v)) 8) (leaf_bytes (compact w4) v) l) (λ n v l. (n ≤ max_bits) × Lanes n v l)
      (λ v l. (length v ≤ max_bits) × Like (widths.bits_out v) (bits_bytes v) l) (leaf_from (compact w4)) (λ n. bits_body n at)
      (leaf_back (compact w4)) (body_back at) bits_both at s v n u e;
}

-- ---- what a tag and lanes say by themselves

-- a tag that is read is 0 or 1
pub tag_lt : (at : ℕ) (s : List ℕ) (b n : ℕ) → leaf_from bool at s ≡ got b n → b < 2
unfolding leaf_from byte_from
tag_lt at [] b n e = absurd (let z : ◌≡◌ {A = ℕ} 0 1 = cc in omega arith)
tag_lt at (c ∷ s) b n e = go (ltb c 2) refl e
  where
    go : (x : Bool) → ltb c 2 ≡ x → pick x (got c 1) (bad (tag_at at)) ≡ got b n → b < 2
    go true q f = let a : c ≡ b = cc in omega (arith, ltb-true c 2 q)
    go false q f = absurd (let z : ◌≡◌ {A = ℕ} 0 1 = cc in omega arith)
