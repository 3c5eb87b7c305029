-- What the functions of this crate answer, beside rules' definitions: the width that a number names.
use Rattle.std.specs.Prelude.{ℕ, eqb, Option, Some, None}
use Rattle.rules.specs.Basics.{pick}
use Rattle.node.specs.Names.{Width, w1, w2, w4, w8, w16, Leaf, Node, leaf_node, unknown}

-- the width that a number names
unfoldable pub width_named : ℕ → Option Width
width_named a =
    pick (eqb a 1) (Some w1)
    (pick (eqb a 2) (Some w2)
    (pick (eqb a 4) (Some w4)
    (pick (eqb a 8) (Some w8)
    (pick (eqb a 16) (Some w16) None))))

abbrev pub leaf_named : Option Leaf → Node
leaf_named (Some k) = leaf_node k
leaf_named None = unknown
