-- The constructors of a node and its parts, under the names that rules' own definitions have for them.
pub use Rattle.rules.specs.declared.Width.{Width}
pub use Rattle.rules.specs.declared.Width.TheVariants.{W1 as w1, W2 as w2, W4 as w4, W8 as w8, W16 as w16}
pub use Rattle.rules.specs.declared.Leaf.{Leaf}
pub use Rattle.rules.specs.declared.Leaf.TheVariants.{Fixed as fixed, Compact as compact}
pub use Rattle.rules.specs.declared.Node.{Node}
pub use Rattle.rules.specs.declared.Node.TheVariants.{Leaf as leaf_node, Option as option_node, Result as result_node, Pair as pair_node, Array as array_node, Vector as vector_node, Bits as bits_node, Unknown as unknown}
