-- `node_of` meets its contract: a width that is named makes a leaf. Assumes nothing.
use Rattle.std.proofs.Common.{◌∙◌, ap}
use Rattle.rules.specs.Table.{node_of, unused as if_unused}
use Rattle.node.specs.Laws.{leaf_mapped}
use Rattle.node.proofs.node_of.Goals as goal

pub returns-in-3 : goal.returns-in-3
unfolding node_of
returns-in-3 c = rw c.in-3.is (c.unused-in-3.ensures ∙ ap (if_unused c.args.n) (leaf_mapped _ _ _ _ _ c.width_of.ensures c.map.ensures.cases c.leaf_of.ensures))

pub returns-in-4 : goal.returns-in-4
unfolding node_of
returns-in-4 c = rw c.in-4.is (c.unused-in-4.ensures ∙ ap (if_unused c.args.n) (leaf_mapped _ _ _ _ _ c.width_of-in-4.ensures c.map-in-4.ensures.cases c.leaf_of-in-4.ensures))
