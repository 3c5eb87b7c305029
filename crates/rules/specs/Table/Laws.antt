-- What a checked table is, exactly.
use Rattle.std.specs.Prelude.{true, List, ◌≡◌, length}
use Rattle.std.proofs.Common.{ℕ, ◌+◌, ◌*◌, ◌≤◌, ◌<◌}
use Rattle.rules.specs.Refusals.{max_footprint}
use Rattle.rules.specs.Totals.{foot}
use Rattle.rules.specs.Table.{Node, leaf_node, option_node, result_node, pair_node, array_node, vector_node, bits_node, unknown, count, node_at, ty_at, marked}

-- ---- a node's type

-- a node's children are below i
abbrev pub Below : ℕ → Node → Type 0
Below i (leaf_node k) = Prim.Unit {0}
Below i (option_node a) = a < i
Below i (result_node a b) = (a < i) × (b < i)
Below i (pair_node a b) = (a < i) × (b < i)
Below i (array_node n a) = a < i
Below i (vector_node a) = a < i
Below i bits_node = Prim.Unit {0}
Below i unknown = ⊥

-- ---- a checked table

-- what the sentences on tables ask: the mark, from 1 to 64 nodes and the length that they take, known kinds with children below, footprints that fit
pub record Good (tb : List ℕ) : Type 0 where
  pub mark : marked tb ≡ true
  pub some : 1 ≤ count tb
  pub few : count tb ≤ 64
  pub exact : length tb ≡ 6 + 4 * count tb
  pub nodes : (i : ℕ) → i < count tb → Below i (node_at tb i)
  pub feet : (i : ℕ) → i < count tb → foot (ty_at tb i) ≤ max_footprint

-- a node that passes
pub record Passes (tb : List ℕ) (i : ℕ) : Type 0 where
  pub below : Below i (node_at tb i)
  pub footing : foot (ty_at tb i) ≤ max_footprint

-- the six bytes before the nodes, exactly
pub record Headed (tb : List ℕ) : Type 0 where
  pub mark : marked tb ≡ true
  pub some : 1 ≤ count tb
  pub few : count tb ≤ 64
  pub exact : length tb ≡ 6 + 4 * count tb
