use Rattle.std.proofs.Common.{arith}
use Rattle.put.proofs.Parts.{from_start, root_put, items_put, no_items}
use Rattle.put.proofs.Walking.{put_node, children}
use Rattle.rules.specs.declared.Node.TheVariants.{Vector as vector_node}
use Rattle.put.specs.Written.{Puttable}
use Rattle.put.proofs.put_root.Goals as goal
use Rattle.put.proofs.put_root.Goals.{After-root-node}

started : (c : After-root-node) → Puttable c.args.checked.now.table.now c.root-node.result 0 c.args.cells.now 0
started c = from_start _ _ c.args.checked.now.fine c.root-node.ensures.last (λ i. (c.type_inv.cells i).fits) (omega (arith, c.well_formed))

pub put_item-requires : goal.put_item-requires
put_item-requires c = started (goal.at.put_item-requires c).After-root-node

pub put_items-requires : goal.put_items-requires
put_items-requires c =
    let root = started (goal.at.put_items-requires c).After-root-node in
    put_node root (children c.args.checked.now.fine root c.node_at.ensures (vector_node _) c.in-Vector.is)

pub returns-in-Root : goal.returns-in-Root
returns-in-Root c = root_put _ _ c.args.checked.now.fine c.root-node.ensures.last c.in-Root.is c.put_item.ensures

pub returns-in-Vector : goal.returns-in-Vector
returns-in-Vector c = items_put _ _ c.args.checked.now.fine c.root-node.ensures.last c.in-Items.is c.node_at.ensures c.in-Vector.is c.put_items.ensures

pub returns-in_default : goal.returns-in_default
returns-in_default c = no_items _ _ c.args.checked.now.fine c.root-node.ensures.last c.in-Items.is c.node_at.ensures c.in_default.not-Vector c.refuse.ensures
