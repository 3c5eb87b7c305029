-- Laws of longest lengths: a node's from those of its children, and how long they are.
use Rattle.std.specs.Prelude.{◌≡◌, refl, ℕ, ◌≤◌, ◌<◌, Option, Some, None}
use Rattle.std.proofs.Common.{arith}
use Rattle.rules.specs.Refusals.{max_footprint}
use Rattle.rules.specs.Types.{Ty}
use Rattle.rules.specs.Totals.{foot, longest}
use Rattle.rules.specs.Totals.Bound.{Twice}
use Rattle.rules.proofs.Laws.Totals.Bound.{longest_twice}
use Rattle.rules.specs.Table.{build}
use Rattle.rules.specs.Table.Laws.{Below}
use Rattle.node.specs.Names.{Node, leaf_node, option_node, result_node, pair_node, array_node, vector_node, bits_node, unknown}
use Rattle.totals.specs.Nodes.{longest_over, Short}

pub longest_over_lem : (f : ℕ → Option ℕ) (g : ℕ → Ty) (i : ℕ) (n : Node) → Below i n → ((j : ℕ) → j < i → f j ≡ longest (g j)) → longest_over f n ≡ longest (build g n)
unfolding longest_over longest
longest_over_lem f g i (leaf_node k) b h = refl
longest_over_lem f g i (option_node a) b h = rw (h a b)
longest_over_lem f g i (result_node a c) b h = rw (h a b.0, h c b.1)
longest_over_lem f g i (pair_node a c) b h = rw (h a b.0, h c b.1)
longest_over_lem f g i (array_node n a) b h = rw (h a b)
longest_over_lem f g i (vector_node a) b h = refl
longest_over_lem f g i bits_node b h = refl
longest_over_lem f g i unknown b h = absurd b

-- ---- how long they are

-- by its footprint, a longest length is short
pub longest_short : (t : Ty) → foot t ≤ max_footprint → Short (longest t)
longest_short t small = go (longest t) (longest_twice t)
  where
    go : (o : Option ℕ) → Twice o (foot t) → Short o
    go None h = tt
    go (Some m) h = omega arith
