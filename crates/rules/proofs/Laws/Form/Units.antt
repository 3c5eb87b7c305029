-- Every unit that is written: what holds of the units of leaves and of bit vectors holds of all. So each byte is below 256, and each cell below 2^64.
use Rattle.std.specs.Prelude.{Bool, true, false, List, ◌++◌, [], ◌∷◌, ◌≡◌, refl, ℕ, zero, suc, ◌+◌, ◌*◌, ◌/◌, ◌%◌, ◌^◌, ◌≤◌, ◌<◌, length, drop, take}
use Rattle.std.proofs.Common.{inl, inr, lt_of_lt_of_le, arith, lit≤, lit<, length-take, pow_mono, shr_lt}
use Rattle.std.proofs.Math.Decide.{dec_lt}
use Rattle.rules.specs.Refusals.{max_bits}
use Rattle.rules.specs.Basics.{pick, All, Under, flat}
use Rattle.rules.specs.Types.{Width, w1, w2, w4, w8, w16, Leaf, unit, bool, opt_bool, fixed, compact, float, size, Ty, leaf, nothing, result, pair, array, vector, bits, Val, bound, Fits}
use Rattle.rules.specs.Bytes.{le_bytes}
use Rattle.rules.specs.Compact.{significant, long, compact_bytes}
use Rattle.rules.proofs.Laws.Compact.Sizes.{significant_le}
use Rattle.rules.proofs.Laws.Compact.Encoding.{encode_0, encode_1, encode_2, encode_3}
use Rattle.rules.specs.Bits.{words8, words64, pack}
use Rattle.rules.proofs.Laws.Bits.{bits_value_lt}
use Rattle.rules.specs.Form.{Form, write}
use Rattle.rules.specs.Wire.{leaf_bytes, bits_bytes, bytes, encode}
use Rattle.rules.specs.Cells.{two, wide, leaf_cells, bits_cells, as_cells, cells}
use Rattle.rules.specs.Form.Units.{Over}

pub all_append : (P : ℕ → Type 0) (l m : List ℕ) → All P l → All P m → All P (l ++ m)
all_append P [] m a b = b
all_append P (x ∷ l) m a b = (a.0, all_append P l m a.1 b)

pub over_any : (t : Ty) → Over (Prim.Unit {0}) t
over_any (leaf k) = tt
over_any nothing = tt
over_any (result t u) = (over_any t, over_any u)
over_any (pair t u) = (over_any t, over_any u)
over_any (array n t) = over_any t
over_any (vector t) = over_any t
over_any bits = tt

-- what holds of the units of leaves, and of bit vectors where there are any, holds of all
module _ (P : ℕ → Type 0) (B : Type 0) (f : Form) (hl : (k : Leaf) (v : ℕ) → v < bound k → All P (f.leaf_out k v))
    (hb : B → (v : List Bool) → length v ≤ max_bits → All P (f.bits_out v)) where
  flat_units : (t : Ty) → ((v : Val t) → Fits t v → All P (write f t v)) → (vs : List (Val t)) → All (Fits t) vs → All P (flat (write f t) vs)
  flat_units t h [] a = tt
  flat_units t h (v ∷ vs) a = all_append P (write f t v) (flat (write f t) vs) (h v a.0) (flat_units t h vs a.1)

  pub units : (t : Ty) → Over B t → (v : Val t) → Fits t v → All P (write f t v)
  unfolding write
  units (leaf k) o v h = hl k v h
  units nothing o v h = tt
  units (result t u) o (inl v) h = all_append P (f.leaf_out bool 0) (write f t v) (hl bool 0 (lit< tt)) (units t o.0 v h)
  units (result t u) o (inr v) h = all_append P (f.leaf_out bool 1) (write f u v) (hl bool 1 (lit< tt)) (units u o.1 v h)
  units (pair t u) o v h = all_append P (write f t v.0) (write f u v.1) (units t o.0 v.0 h.0) (units u o.1 v.1 h.1)
  units (array n t) o v h = flat_units t (units t o) v h.1
  units (vector t) o v h = all_append P (f.leaf_out (compact w4) (length v)) (flat (write f t) v) (hl (compact w4) (length v) h.0) (flat_units t (units t o) v h.1)
  units bits o v h = hb o v h

-- ---- bytes and cells

pub all_under : (m : ℕ) (l : List ℕ) → 0 < m → All (λ x. x < m) l → Under m l
all_under m [] h a i = h
all_under m (x ∷ l) h a zero = a.0
all_under m (x ∷ l) h a (suc i) = all_under m l h a.1 i

bytes_all : (n v : ℕ) → All (λ x. x < 256) (le_bytes n v)
unfolding le_bytes
bytes_all zero v = tt
bytes_all (suc n) v = (omega arith, bytes_all n (v / 256))

long_all : (n v : ℕ) → n ≤ 67 → All (λ x. x < 256) (long n v)
unfolding long
long_all n v h = (omega arith, bytes_all n v)

compact_all : (v : ℕ) → All (λ x. x < 256) (compact_bytes v)
compact_all v = go (dec_lt v 64) (dec_lt v (2 ^ 14)) (dec_lt v (2 ^ 30))
  where
    go : Dec (v < 64) → Dec (v < 2 ^ 14) → Dec (v < 2 ^ 30) → All (λ x. x < 256) (compact_bytes v)
    go (yes h) p q = rw (encode_0 v h) (bytes_all 1 (v * 4))
    go (no a) (yes h) q = rw (encode_1 v (omega arith) h) (bytes_all 2 (v * 4 + 1))
    go (no a) (no b) (yes h) = rw (encode_2 v (omega arith) h) (bytes_all 4 (v * 4 + 2))
    go (no a) (no b) (no c) = rw (encode_3 v (omega arith)) (long_all (significant v) v (significant_le v))

pack_all : (w k : ℕ) (v : List Bool) → All (λ x. x < 2 ^ w) (pack w k v)
unfolding pack
pack_all w zero v = tt
pack_all w (suc k) v = (lt_of_lt_of_le (bits_value_lt (take w v)) (pow_mono {i = length (take w v)} {j = w} (omega (arith, length-take w v))), pack_all w k (drop w v))

leaf_bytes_lem : (k : Leaf) (v : ℕ) → v < bound k → All (λ x. x < 256) (leaf_bytes k v)
unfolding leaf_bytes
leaf_bytes_lem unit v h = tt
leaf_bytes_lem bool v h = (omega arith, tt)
leaf_bytes_lem opt_bool v h = (omega arith, tt)
leaf_bytes_lem (fixed w) v h = bytes_all (size w) v
leaf_bytes_lem (compact w) v h = compact_all v
leaf_bytes_lem (float w) v h = bytes_all (size w) v

bits_bytes_lem : (v : List Bool) → length v ≤ max_bits → All (λ x. x < 256) (bits_bytes v)
unfolding bits_bytes
bits_bytes_lem v h = all_append (λ x. x < 256) (leaf_bytes (compact w4) (length v)) (pack 8 (words8 (length v)) v) (leaf_bytes_lem (compact w4) (length v) (omega arith)) (pack_all 8 (words8 (length v)) v)

pub written_bytes : (t : Ty) (v : Val t) → Fits t v → Under 256 (encode t v)
written_bytes t v h = all_under 256 (encode t v) (lit< tt) (units (λ x. x < 256) (Prim.Unit {0}) bytes leaf_bytes_lem (λ b. bits_bytes_lem) t (over_any t) v h)

one_bound : (w : Width) → two w ≡ false → 2 ^ (8 * size w) ≤ 2 ^ 64
one_bound w1 e = lit≤ tt
one_bound w2 e = lit≤ tt
one_bound w4 e = lit≤ tt
one_bound w8 e = lit≤ tt
one_bound w16 e = absurd (let z : ◌≡◌ {A = ℕ} 0 1 = cc in omega arith)

most_bound : (w : Width) → 2 ^ (8 * size w) ≤ 2 ^ 128
most_bound w1 = lit≤ tt
most_bound w2 = lit≤ tt
most_bound w4 = lit≤ tt
most_bound w8 = lit≤ tt
most_bound w16 = lit≤ tt

narrow_bound : (k : Leaf) → wide k ≡ false → bound k ≤ 2 ^ 64
narrow_bound unit e = lit≤ tt
narrow_bound bool e = lit≤ tt
narrow_bound opt_bool e = lit≤ tt
narrow_bound (fixed w) e = one_bound w e
narrow_bound (compact w) e = one_bound w e
narrow_bound (float w) e = one_bound w e

any_bound : (k : Leaf) → bound k ≤ 2 ^ 128
any_bound unit = lit≤ tt
any_bound bool = lit≤ tt
any_bound opt_bool = lit≤ tt
any_bound (fixed w) = most_bound w
any_bound (compact w) = most_bound w
any_bound (float w) = most_bound w

low_lt : (v : ℕ) → v % 2 ^ 64 < 2 ^ 64
low_lt v = omega arith

leaf_cells_lem : (k : Leaf) (v : ℕ) → v < bound k → All (λ x. x < 2 ^ 64) (leaf_cells k v)
unfolding leaf_cells
leaf_cells_lem k v h = go (wide k) refl
  where
    go : (b : Bool) → wide k ≡ b → All (λ x. x < 2 ^ 64) (pick b (v % 2 ^ 64 ∷ v / 2 ^ 64 ∷ []) (v ∷ []))
    go true e = (low_lt v, (shr_lt 64 64 (lt_of_lt_of_le h (any_bound k)), tt))
    go false e = (lt_of_lt_of_le h (narrow_bound k e), tt)

bits_cells_lem : (v : List Bool) → length v ≤ max_bits → All (λ x. x < 2 ^ 64) (bits_cells v)
unfolding bits_cells
bits_cells_lem v h = (omega arith, pack_all 64 (words64 (length v)) v)

pub value_cells : (t : Ty) (v : Val t) → Fits t v → Under (2 ^ 64) (cells t v)
value_cells t v h = all_under (2 ^ 64) (cells t v) (lit< tt) (units (λ x. x < 2 ^ 64) (Prim.Unit {0}) as_cells leaf_cells_lem (λ b. bits_cells_lem) t (over_any t) v h)
