-- What the functions of this crate answer, beside rules' definitions: what is found of a node from its children's numbers.
use Rattle.std.specs.Prelude.{List, ℕ, ◌+◌, ◌-◌, ◌*◌, ◌<◌, ◌^◌, min, max, get_or, Option, Some, None, IfSome}
use Rattle.rules.specs.Totals.{leaf_longest, join}
use Rattle.node.specs.Names.{Node, leaf_node, option_node, result_node, pair_node, array_node, vector_node, bits_node, unknown}

-- ---- longest lengths

-- a tag, and the longer of two
abbrev pub behind_tag : ℕ → ℕ → ℕ
behind_tag x y = 1 + max x y

-- a node's longest length, from those of its children
unfoldable pub longest_over : (ℕ → Option ℕ) → Node → Option ℕ
longest_over f (leaf_node k) = Some (leaf_longest k)
longest_over f (option_node a) = join behind_tag (Some 0) (f a)
longest_over f (result_node a b) = join behind_tag (f a) (f b)
longest_over f (pair_node a b) = join ◌+◌ (f a) (f b)
longest_over f (array_node n a) = join ◌*◌ (Some n) (f a)
longest_over f (vector_node a) = None
longest_over f bits_node = None
longest_over f unknown = Some 0

-- a longest length that 32 bits hold, or none
abbrev pub Short : Option ℕ → Type 0
Short o = IfSome o (λ n. n < 2 ^ 32)

abbrev pub AllShort : List (Option ℕ) → Type 0
AllShort l = (i : ℕ) → Short (get_or l i None)

-- ---- units

-- a number of units as it is kept: the largest stands for as many, and for more
abbrev pub most : ℕ
most = 2 ^ 64 - 1

abbrev pub kept : ℕ → ℕ
kept x = min x most

-- how many units a node of footprint 0 has past its first, from those of its children
unfoldable pub units_over : (ℕ → ℕ) → Node → ℕ
units_over f (leaf_node k) = 0
units_over f (option_node a) = 0
units_over f (result_node a b) = 0
units_over f (pair_node a b) = kept (f a + f b + 1)
units_over f (array_node n a) = kept (n * f a + (n - 1))
units_over f (vector_node a) = 0
units_over f bits_node = 0
units_over f unknown = 0
