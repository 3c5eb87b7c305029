-- Bounds by a type: an encoding is at most as long as the longest length, and that is at most twice the footprint. And by cells: nine bytes for each at most.
use Rattle.std.specs.Prelude.{List, ◌++◌, [], ◌∷◌, ◌≡◌, ℕ, ◌+◌, ◌*◌, ◌/◌, ◌%◌, ◌^◌, max, ◌≤◌, ◌<◌, length, Option, Some, None}
use Rattle.std.proofs.Common.{inl, inr, subst, le_of_eq, le_trans, mul-le-mul_left, lt_of_le_of_lt, lit≤, lit<, arith}
use Rattle.std.proofs.Math.ListN.{length-append}
use Rattle.rules.specs.Basics.{pick, All, flat}
use Rattle.rules.specs.Types.{Width, w1, w2, w4, w8, w16, Leaf, unit, bool, opt_bool, fixed, compact, float, size, Ty, leaf, nothing, result, pair, array, vector, bits, Val, bound, Fits}
use Rattle.rules.proofs.Laws.Bytes.{length_bytes}
use Rattle.rules.specs.Bits.{words8, words64, pack}
use Rattle.rules.proofs.Laws.Bits.{length_pack}
use Rattle.rules.specs.Form.{write}
use Rattle.rules.specs.Wire.{leaf_bytes, bits_bytes, encode}
use Rattle.rules.specs.Cells.{two, wide, leaf_cells, bits_cells, cells}
use Rattle.rules.specs.Totals.{leaf_foot, foot, longest_compact, leaf_longest, join, longest}
use Rattle.rules.proofs.Laws.Compact.Bound.{compact_longest}
use Rattle.rules.specs.Totals.Bound.{AtMost, Twice}

join_most : (f : ℕ → ℕ → ℕ) (a b : Option ℕ) (x y z : ℕ) → AtMost a x → AtMost b y → ((m n : ℕ) → x ≤ m → y ≤ n → z ≤ f m n) → AtMost (join f a b) z
join_most f (Some m) (Some n) x y z h g k = k m n h g
join_most f (Some m) None x y z h g k = tt
join_most f None b x y z h g k = tt

leaf_most : (k : Leaf) (v : ℕ) → v < bound k → length (leaf_bytes k v) ≤ leaf_longest k
unfolding leaf_bytes
leaf_most unit v h = lit≤ tt
leaf_most bool v h = lit≤ tt
leaf_most opt_bool v h = lit≤ tt
leaf_most (fixed w) v h = omega (arith, length_bytes (size w) v)
leaf_most (compact w) v h = compact_longest w v h
leaf_most (float w) v h = omega (arith, length_bytes (size w) v)

all_most : (t : Ty) (m : ℕ) → ((v : Val t) → Fits t v → length (encode t v) ≤ m) → (vs : List (Val t)) → All (Fits t) vs → length (flat (encode t) vs) ≤ length vs * m
all_most t m h [] a = omega arith
all_most t m h (v ∷ vs) a = omega (arith, h v a.0, all_most t m h vs a.1, length-append (encode t v) (flat (encode t) vs))

array_most : (n : ℕ) (t : Ty) (o : Option ℕ) → ((v : Val t) → Fits t v → AtMost o (length (encode t v))) → (vs : List (Val t)) → length vs ≡ n → All (Fits t) vs
    → AtMost (join ◌*◌ (Some n) o) (length (flat (encode t) vs))
array_most n t None h vs e a = tt
array_most n t (Some m) h vs e a = subst (λ x. length (flat (encode t) vs) ≤ x * m) e (all_most t m h vs a)

none_most : (o : Option ℕ) → AtMost o 0
none_most None = tt
none_most (Some m) = omega arith

-- every encoding is at most as long as the longest length, where there is one
pub written_most : (t : Ty) (v : Val t) → Fits t v → AtMost (longest t) (length (encode t v))
unfolding longest write
written_most (leaf k) v h = leaf_most k v h
written_most nothing v h = lit≤ tt
written_most (result t u) (inl v) h =
    join_most (λ a b. 1 + max a b) (longest t) (longest u) (length (encode t v)) 0 (length (leaf_bytes bool 0 ++ encode t v)) (written_most t v h) (none_most (longest u))
    (λ m n p q. omega (arith, length-append (leaf_bytes bool 0) (encode t v), leaf_most bool 0 (lit< tt)))
written_most (result t u) (inr v) h =
    join_most (λ a b. 1 + max a b) (longest t) (longest u) 0 (length (encode u v)) (length (leaf_bytes bool 1 ++ encode u v)) (none_most (longest t)) (written_most u v h)
    (λ m n p q. omega (arith, length-append (leaf_bytes bool 1) (encode u v), leaf_most bool 1 (lit< tt)))
written_most (pair t u) v h =
    join_most ◌+◌ (longest t) (longest u) (length (encode t v.0)) (length (encode u v.1)) _ (written_most t v.0 h.0) (written_most u v.1 h.1)
    (λ m n p q. omega (arith, length-append (encode t v.0) (encode u v.1)))
written_most (array n t) v h = array_most n t (longest t) (written_most t) v h.0 h.1
written_most (vector t) v h = tt
written_most bits v h = tt

-- ---- a longest length is at most twice the footprint

leaf_foot_lem : (k : Leaf) → leaf_longest k ≤ 2 * leaf_foot k
leaf_foot_lem unit = lit≤ tt
leaf_foot_lem bool = lit≤ tt
leaf_foot_lem opt_bool = lit≤ tt
leaf_foot_lem (fixed w) = omega arith
leaf_foot_lem (compact w) = compact_foot w
  where
    compact_foot : (w : Width) → longest_compact w ≤ 2 * size w
    compact_foot w1 = lit≤ tt
    compact_foot w2 = lit≤ tt
    compact_foot w4 = lit≤ tt
    compact_foot w8 = lit≤ tt
    compact_foot w16 = lit≤ tt
leaf_foot_lem (float w) = omega arith

join_twice : (g : ℕ → ℕ → ℕ) (a b : Option ℕ) (x y z : ℕ) → Twice a x → Twice b y → ((m n : ℕ) → m ≤ 2 * x → n ≤ 2 * y → g m n ≤ 2 * z) → Twice (join g a b) z
join_twice g (Some m) (Some n) x y z h k f = f m n h k
join_twice g (Some m) None x y z h k f = tt
join_twice g None b x y z h k f = tt

pub longest_twice : (t : Ty) → Twice (longest t) (foot t)
unfolding longest foot
longest_twice (leaf k) = leaf_foot_lem k
longest_twice nothing = lit≤ tt
longest_twice (result t u) = join_twice (λ a b. 1 + max a b) (longest t) (longest u) (foot t) (foot u) _ (longest_twice t) (longest_twice u) (λ m n p q. omega arith)
longest_twice (pair t u) = join_twice ◌+◌ (longest t) (longest u) (foot t) (foot u) _ (longest_twice t) (longest_twice u) (λ m n p q. omega arith)
longest_twice (array n t) = go (longest t) (longest_twice t)
  where
    go : (o : Option ℕ) → Twice o (foot t) → Twice (join ◌*◌ (Some n) o) (n * foot t)
    go None h = tt
    go (Some m) h = let e : n * (2 * foot t) ≡ 2 * (n * foot t) = omega arith in le_trans (mul-le-mul_left n h) (le_of_eq e)
longest_twice (vector t) = tt
longest_twice bits = tt

-- ---- an encoding has at most nine bytes for each cell

leaf_nine : (k : Leaf) (v : ℕ) → v < bound k → length (leaf_bytes k v) ≤ 9 * length (leaf_cells k v)
unfolding leaf_cells
leaf_nine k v h = omega (arith, leaf_most k v h, go k)
  where
    width_nine : (w : Width) → (size w ≤ 9 * length (pick (two w) (v % 2 ^ 64 ∷ v / 2 ^ 64 ∷ []) (v ∷ []))) × (longest_compact w ≤ 9 * length (pick (two w) (v % 2 ^ 64 ∷ v / 2 ^ 64 ∷ []) (v ∷ [])))
    width_nine w1 = (lit≤ tt, lit≤ tt)
    width_nine w2 = (lit≤ tt, lit≤ tt)
    width_nine w4 = (lit≤ tt, lit≤ tt)
    width_nine w8 = (lit≤ tt, lit≤ tt)
    width_nine w16 = (lit≤ tt, lit≤ tt)

    go : (k : Leaf) → leaf_longest k ≤ 9 * length (pick (wide k) (v % 2 ^ 64 ∷ v / 2 ^ 64 ∷ []) (v ∷ []))
    go unit = lit≤ tt
    go bool = lit≤ tt
    go opt_bool = lit≤ tt
    go (fixed w) = (width_nine w).0
    go (compact w) = (width_nine w).1
    go (float w) = (width_nine w).0

all_nine : (t : Ty) → ((v : Val t) → Fits t v → length (encode t v) ≤ 9 * length (cells t v)) → (vs : List (Val t)) → All (Fits t) vs
    → length (flat (encode t) vs) ≤ 9 * length (flat (cells t) vs)
all_nine t h [] a = lit≤ tt
all_nine t h (v ∷ vs) a =
    omega (arith, h v a.0, all_nine t h vs a.1, length-append (encode t v) (flat (encode t) vs), length-append (cells t v) (flat (cells t) vs))

pub nine_bytes : (t : Ty) (v : Val t) → Fits t v → length (encode t v) ≤ 9 * length (cells t v)
unfolding write
nine_bytes (leaf k) v h = leaf_nine k v h
nine_bytes nothing v h = lit≤ tt
nine_bytes (result t u) (inl v) h =
    omega (arith, length-append (leaf_bytes bool 0) (encode t v), length-append (leaf_cells bool 0) (cells t v), leaf_nine bool 0 (lit< tt), nine_bytes t v h)
nine_bytes (result t u) (inr v) h =
    omega (arith, length-append (leaf_bytes bool 1) (encode u v), length-append (leaf_cells bool 1) (cells u v), leaf_nine bool 1 (lit< tt), nine_bytes u v h)
nine_bytes (pair t u) v h =
    omega (arith, length-append (encode t v.0) (encode u v.1), length-append (cells t v.0) (cells u v.1), nine_bytes t v.0 h.0, nine_bytes u v.1 h.1)
nine_bytes (array n t) v h = all_nine t (nine_bytes t) v h.1
nine_bytes (vector t) v h =
    omega (arith, length-append (leaf_bytes (compact w4) (length v)) (flat (encode t) v), length-append (leaf_cells (compact w4) (length v)) (flat (cells t) v), leaf_nine (compact w4) (length v) h.0, all_nine t (nine_bytes t) v h.1)
nine_bytes bits v h =
    unfold bits_bytes bits_cells in omega (
      arith,
      length-append (leaf_bytes (compact w4) (length v)) (pack 8 (words8 (length v)) v),
      length_pack 8 (words8 (length v)) v,
      length_pack 64 (words64 (length v)) v,
      leaf_most (compact w4) (length v) (lt_of_le_of_lt h (lit< tt)),
    )
