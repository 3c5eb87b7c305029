-- What is said of a type, its footprint and longest length; and of a value, its nesting, charge and number of vectors. No limit and no running check in them.
pub mod Bound
use Rattle.std.proofs.Common.{inl, inr}
use Rattle.std.specs.Prelude.{ℕ, ◌+◌, ◌*◌, max, length, Option, Some, None}
use Rattle.rules.specs.Basics.{total, highest}
use Rattle.rules.specs.Types.{Width, w1, w2, w4, w8, w16, Leaf, unit, bool, opt_bool, fixed, compact, float, size, Ty, leaf, nothing, result, pair, array, vector, bits, Val}
use Rattle.rules.specs.Bits.{words8}

-- ---- of a type

abbrev pub leaf_foot : Leaf → ℕ
leaf_foot unit = 0
leaf_foot bool = 1
leaf_foot opt_bool = 1
leaf_foot (fixed w) = size w
leaf_foot (compact w) = size w
leaf_foot (float w) = size w

-- the footprint in bytes
unfoldable pub foot : Ty → ℕ
foot (leaf k) = leaf_foot k
foot nothing = 0
foot (result t u) = 1 + (foot t + foot u)
foot (pair t u) = foot t + foot u
foot (array n t) = n * foot t
foot (vector t) = 24
foot bits = 24

-- THE TABLE of the longest compact lengths
abbrev pub longest_compact : Width → ℕ
longest_compact w1 = 2
longest_compact w2 = 4
longest_compact w4 = 5
longest_compact w8 = 9
longest_compact w16 = 17

abbrev pub leaf_longest : Leaf → ℕ
leaf_longest unit = 0
leaf_longest bool = 1
leaf_longest opt_bool = 1
leaf_longest (fixed w) = size w
leaf_longest (compact w) = longest_compact w
leaf_longest (float w) = size w

-- where both have one
abbrev pub join : (ℕ → ℕ → ℕ) → Option ℕ → Option ℕ → Option ℕ
join f (Some a) (Some b) = Some (f a b)
join f (Some a) None = None
join f None b = None

-- the longest length, or none
unfoldable pub longest : Ty → Option ℕ
longest (leaf k) = Some (leaf_longest k)
longest nothing = Some 0
longest (result t u) = join (λ a b. 1 + max a b) (longest t) (longest u)
longest (pair t u) = join ◌+◌ (longest t) (longest u)
longest (array n t) = join ◌*◌ (Some n) (longest t)
longest (vector t) = None
longest bits = None

-- the cells of a type of footprint 0
unfoldable pub unit_cells : Ty → ℕ
unit_cells (leaf k) = 1
unit_cells nothing = 0
unit_cells (result t u) = 0
unit_cells (pair t u) = unit_cells t + unit_cells u
unit_cells (array n t) = n * unit_cells t
unit_cells (vector t) = 0
unit_cells bits = 0

-- ---- of a value

-- how deep vectors nest; a bit vector counts as one
unfoldable pub nesting : (t : Ty) → Val t → ℕ
nesting (leaf k) v = 0
nesting nothing v = 0
nesting (result t u) (inl v) = nesting t v
nesting (result t u) (inr v) = nesting u v
nesting (pair t u) v = max (nesting t v.0) (nesting u v.1)
nesting (array n t) v = highest (nesting t) v
nesting (vector t) v = 1 + highest (nesting t) v
nesting bits v = 1

-- the sum of the charges of its vectors
unfoldable pub charge : (t : Ty) → Val t → ℕ
charge (leaf k) v = 0
charge nothing v = 0
charge (result t u) (inl v) = charge t v
charge (result t u) (inr v) = charge u v
charge (pair t u) v = charge t v.0 + charge u v.1
charge (array n t) v = total (charge t) v
charge (vector t) v = length v * foot t + total (charge t) v
charge bits v = words8 (length v)

-- how many vectors it has
unfoldable pub vectors : (t : Ty) → Val t → ℕ
vectors (leaf k) v = 0
vectors nothing v = 0
vectors (result t u) (inl v) = vectors t v
vectors (result t u) (inr v) = vectors u v
vectors (pair t u) v = vectors t v.0 + vectors u v.1
vectors (array n t) v = total (vectors t) v
vectors (vector t) v = 1 + total (vectors t) v
vectors bits v = 1
