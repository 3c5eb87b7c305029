-- What the functions of this crate ask and answer, beside rules' definitions: how many items a node has, and its footprint from those of its children.
use Rattle.std.specs.Prelude.{ℕ, ◌+◌, ◌*◌, ◌≤◌}
use Rattle.rules.specs.Totals.{leaf_foot}
use Rattle.node.specs.Names.{Node, leaf_node, option_node, result_node, pair_node, array_node, vector_node, bits_node, unknown}

-- an array has at least one item, and at most m
abbrev pub Counted : ℕ → Node → Type 0
Counted m (leaf_node k) = Prim.Unit {0}
Counted m (option_node a) = Prim.Unit {0}
Counted m (result_node a b) = Prim.Unit {0}
Counted m (pair_node a b) = Prim.Unit {0}
Counted m (array_node n a) = (1 ≤ n) × (n ≤ m)
Counted m (vector_node a) = Prim.Unit {0}
Counted m bits_node = Prim.Unit {0}
Counted m unknown = Prim.Unit {0}

-- a node's footprint, from those of its children
unfoldable pub foot_over : (ℕ → ℕ) → Node → ℕ
foot_over f (leaf_node k) = leaf_foot k
foot_over f (option_node a) = 1 + f a
foot_over f (result_node a b) = 1 + (f a + f b)
foot_over f (pair_node a b) = f a + f b
foot_over f (array_node n a) = n * f a
foot_over f (vector_node a) = 24
foot_over f bits_node = 24
foot_over f unknown = 0
