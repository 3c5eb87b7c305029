-- The item walker and those that it calls meet their contracts: in each, the answers of the parts give the pass of the whole, kind by kind as in `Walking`. Assumes nothing.
use Rattle.std.proofs.Common.{◌≡◌, ℕ, ◌≤◌, length, arith}
use Rattle.rules.proofs.Laws.Basics.{handed_on}
use Rattle.rules.proofs.Laws.Scan.Pass.{pass_leaf, pass_pair, pass_array}
use Rattle.rules.proofs.Laws.Scan.Single.{vector_refused}
use Rattle.rules.proofs.Laws.Scan.Walk.{result_then}
use Rattle.rules.proofs.Laws.Wire.Used.{leaf_used}
use Rattle.rules.specs.Parser.{got}
use Rattle.rules.specs.Wire.{leaf_from}
use Rattle.rules.specs.declared.Leaf.TheVariants.{Compact as compact}
use Rattle.rules.specs.declared.Node.TheVariants.{Leaf as leaf_node, Option as option_node, Result as result_node, Pair as pair_node, Array as array_node, Vector as vector_node, Bits as bits_node, Unknown as unknown}
use Rattle.rules.specs.declared.Width.TheVariants.{W4 as w4}
use Rattle.leaf.specs.Laws.{count_got, count_bad}
use Rattle.rules.proofs.Laws.Scan.Landing.{stops, same_pass_as}
use Rattle.scan.proofs.Walking.{then_stops, walk_node, walk_behind, walk_items, walk_units, walk_unit, children, by_kind, tag_held, tag_in, tag_first, tag_second, tag_alone, item_held, pair_goes, charge_lt, vector_stops, entered, vector_goes, loop_done, loop_stops, loop_goes}
use Rattle.scan.proofs.plan.Plan.+walk.Goals as goal
use Rattle.scan.proofs.plan.Plan.+walk.Goals.{result-then-s-eq0, result-else-s-eq0, vector-In_ok-n}

-- ---- an item

pub item-returns-then-self-node-eq0 : goal.item-returns-then-self-node-eq0
item-returns-then-self-node-eq0 t c =
    same_pass_as _ _ _ _ _ _ (walk_unit c.requires _ c.if-self-node-eq0.true) c.pass_units.ensures

pub item-option-requires : goal.item-option-requires
item-option-requires t c =
    let below = children c.requires c.node_at.ensures (option_node _) c.in-Option.is in
    (omega (arith, below), walk_node c.requires below)

pub item-result-requires : goal.item-result-requires
item-result-requires t c =
    let below = children c.requires c.node_at.ensures (result_node _ _) c.in-Result.is in
    (omega (arith, below), (walk_node c.requires below.0, walk_node c.requires below.1))

pub item-pair-requires : goal.item-pair-requires
item-pair-requires t c =
    let below = children c.requires c.node_at.ensures (pair_node _ _) c.in-Pair.is in
    (omega (arith, below), (walk_node c.requires below.0, walk_node c.requires below.1))

pub item-items-requires : goal.item-items-requires
item-items-requires t c =
    let below = children c.requires c.node_at.ensures (array_node _ _) c.in-Array.is in
    (omega (arith, below), walk_node c.requires below)

pub item-vector-requires : goal.item-vector-requires
item-vector-requires t c =
    let below = children c.requires c.node_at.ensures (vector_node _) c.in-Vector.is in
    (omega (arith, below), walk_node c.requires below)

pub item-returns-in-Leaf : goal.item-returns-in-Leaf
item-returns-in-Leaf t c =
    by_kind c.requires c.node_at.ensures (leaf_node _) c.in-Leaf.is _ _ (same_pass_as _ _ _ _ _ _ (pass_leaf _ _ _ _ _ _) c.scan_leaf.ensures)

pub item-returns-in-Option : goal.item-returns-in-Option
item-returns-in-Option t c = by_kind c.requires c.node_at.ensures (option_node _) c.in-Option.is _ _ c.option.ensures

pub item-returns-in-Result : goal.item-returns-in-Result
item-returns-in-Result t c = by_kind c.requires c.node_at.ensures (result_node _ _) c.in-Result.is _ _ c.result.ensures

pub item-returns-in-Pair : goal.item-returns-in-Pair
item-returns-in-Pair t c = by_kind c.requires c.node_at.ensures (pair_node _ _) c.in-Pair.is _ _ c.pair.ensures

pub item-returns-in-Array : goal.item-returns-in-Array
item-returns-in-Array t c =
    by_kind c.requires c.node_at.ensures (array_node _ _) c.in-Array.is _ _ (same_pass_as _ _ _ _ _ _ (pass_array _ _ _ _ _ _ _) c.items.ensures)

pub item-returns-in-Vector : goal.item-returns-in-Vector
item-returns-in-Vector t c = by_kind c.requires c.node_at.ensures (vector_node _) c.in-Vector.is _ _ c.vector.ensures

pub item-returns-in-Bits : goal.item-returns-in-Bits
item-returns-in-Bits t c = by_kind c.requires c.node_at.ensures bits_node c.in-Bits.is _ _ c.scan_bits.ensures

pub item-returns-in-Unknown : goal.item-returns-in-Unknown
item-returns-in-Unknown t c = absurd (children c.requires c.node_at.ensures unknown c.in-Unknown.is)

-- ---- an Option

pub option-returns-in_err-totals : goal.option-returns-in_err-totals
option-returns-in_err-totals t c = then_stops _ _ _ _ (result_then _ _ _ _ _ _ _) c.scan_leaf.ensures c.in_err-totals.was (handed_on _ _ c.from_residual.ensures.1)

pub option-bounds-s-0 : goal.option-bounds-s-0
option-bounds-s-0 t c = tag_in c.requires _ c.scan_leaf.ensures c.in_ok-totals.was

pub option-returns-then-s-eq0 : goal.option-returns-then-s-eq0
option-returns-then-s-eq0 t c = tag_alone c.requires _ c.scan_leaf.ensures c.in_ok-totals.was _ _ c.if-s-eq0.true

pub option-overflow_sub-end : goal.option-overflow_sub-end
option-overflow_sub-end t c = (tag_held c.requires _ c.scan_leaf.ensures c.in_ok-totals.was).from

pub option-slice_bounds-item-count : goal.option-slice_bounds-item-count
option-slice_bounds-item-count t c = (tag_held c.requires _ c.scan_leaf.ensures c.in_ok-totals.was).used

pub option-slice_bounds-item-start : goal.option-slice_bounds-item-start
option-slice_bounds-item-start t c = (tag_held c.requires _ c.scan_leaf.ensures c.in_ok-totals.was).used

pub option-item-requires : goal.option-item-requires
option-item-requires t c = (omega arith, walk_behind c.requires (tag_held c.requires _ c.scan_leaf.ensures c.in_ok-totals.was))

pub option-returns : goal.option-returns
option-returns t c = tag_second c.requires _ c.scan_leaf.ensures c.in_ok-totals.was _ _ _ c.if-s-eq0.false c.item.ensures

-- ---- a Result

pub result-returns-in_err-totals : goal.result-returns-in_err-totals
result-returns-in_err-totals t c = then_stops _ _ _ _ (result_then _ _ _ _ _ _ _) c.scan_leaf.ensures c.in_err-totals.was (handed_on _ _ c.from_residual.ensures.1)

pub result-bounds-s-0 : goal.result-bounds-s-0
result-bounds-s-0 t c = tag_in c.requires.first _ c.scan_leaf.ensures c.in_ok-totals.was

pub result-overflow_sub-end : goal.result-overflow_sub-end
result-overflow_sub-end t c = (tag_held c.requires.first _ c.scan_leaf.ensures c.in_ok-totals.was).from

pub result-slice_bounds-item-count : goal.result-slice_bounds-item-count
result-slice_bounds-item-count t c = (tag_held c.requires.first _ c.scan_leaf.ensures c.in_ok-totals.was).used

pub result-slice_bounds-item-start : goal.result-slice_bounds-item-start
result-slice_bounds-item-start t c = (tag_held c.requires.first _ c.scan_leaf.ensures c.in_ok-totals.was).used

pub result-item-requires : goal.result-item-requires
result-item-requires t c =
    let held = tag_held c.requires.first _ c.scan_leaf.ensures c.in_ok-totals.was in
    elim c.if-s-eq0.branch [
      | result-then-s-eq0 w ↦ (omega arith, rw w.chosen-is (walk_behind c.requires.first held))
      | result-else-s-eq0 w ↦ (omega arith, rw w.chosen-is (walk_behind c.requires.second held))
    ]

pub result-returns : goal.result-returns
result-returns t c =
    elim c.if-s-eq0.branch [
      | result-then-s-eq0 w ↦ tag_first c.requires.first _ c.scan_leaf.ensures c.in_ok-totals.was _ _ _ w.if-s-eq0.true (rw w.chosen-is at c.item.ensures)
      | result-else-s-eq0 w ↦ tag_second c.requires.first _ c.scan_leaf.ensures c.in_ok-totals.was _ _ _ w.if-s-eq0.false (rw w.chosen-is at c.item.ensures)
    ]

-- ---- a pair

pub pair-returns-in_err-totals : goal.pair-returns-in_err-totals
pair-returns-in_err-totals t c = then_stops _ _ _ _ (pass_pair _ _ _ _ _ _ _) c.item.ensures c.in_err-totals.was (handed_on _ _ c.from_residual.ensures.1)

pub pair-overflow_sub-end : goal.pair-overflow_sub-end
pair-overflow_sub-end t c = (item_held c.requires.first _ _ _ c.item.ensures c.in_ok-totals.was).from

pub pair-slice_bounds-item-count : goal.pair-slice_bounds-item-count
pair-slice_bounds-item-count t c = (item_held c.requires.first _ _ _ c.item.ensures c.in_ok-totals.was).used

pub pair-slice_bounds-item-start : goal.pair-slice_bounds-item-start
pair-slice_bounds-item-start t c = (item_held c.requires.first _ _ _ c.item.ensures c.in_ok-totals.was).used

pub pair-item-requires-2 : goal.pair-item-requires-2
pair-item-requires-2 t c = (omega arith, walk_behind c.requires.second (item_held c.requires.first _ _ _ c.item.ensures c.in_ok-totals.was))

pub pair-returns : goal.pair-returns
pair-returns t c = pair_goes c.requires.first _ _ _ c.item.ensures c.in_ok-totals.was _ c.item-2.ensures

-- ---- a vector

pub vector-returns-in_err-n : goal.vector-returns-in_err-n
vector-returns-in_err-n t c = stops _ _ _ _ _ (vector_refused _ _ _ _ _ _ _ (count_bad _ _ _ c.count_from.ensures c.in_err-n.was)) (handed_on _ _ c.from_residual.ensures.1)

-- the count that was read, and that its bytes are there
vector-count : (t : ℕ) (c : vector-In_ok-n t) → (leaf_from (compact w4) c.args.at c.args.s.now ≡ got c.in_ok-n.n c.in_ok-n.used) × (c.in_ok-n.used ≤ length c.args.s.now)
vector-count t c =
    let read = count_got _ _ _ _ c.count_from.ensures c.in_ok-n.was in
    (read, leaf_used (compact w4) _ _ _ _ read)

pub vector-overflow_mul-charge : goal.vector-overflow_mul-charge
vector-overflow_mul-charge t c =
    let read = (vector-count t (goal.at.vector-overflow_mul-charge t c).In_ok-n).0 in
    record { fits = charge_lt c.requires read }

pub vector-overflow_add-at : goal.vector-overflow_add-at
vector-overflow_add-at t c = omega (arith, (vector-count t (goal.at.vector-overflow_add-at t c).In_ok-n).1)

pub vector-returns-in_err-totals : goal.vector-returns-in_err-totals
vector-returns-in_err-totals t c =
    let read = (vector-count t (goal.at.vector-returns-in_err-totals t c).In_ok-n).0 in
    vector_stops c.requires read _ _ c.enter.ensures c.in_err-totals.was (handed_on _ _ c.from_residual-in_err-totals.ensures.1)

pub vector-overflow_add-level : goal.vector-overflow_add-level
vector-overflow_add-level t c =
    let read = (vector-count t (goal.at.vector-overflow_add-level t c).In_ok-n).0 in
    omega (arith, (entered c.requires read _ _ c.enter.ensures c.in_ok-totals.was).lets.0)

pub vector-slice_bounds-items-count : goal.vector-slice_bounds-items-count
vector-slice_bounds-items-count t c = (vector-count t (goal.at.vector-slice_bounds-items-count t c).In_ok-n).1

pub vector-slice_bounds-items-start : goal.vector-slice_bounds-items-start
vector-slice_bounds-items-start t c = (vector-count t (goal.at.vector-slice_bounds-items-start t c).In_ok-n).1

pub vector-items-requires : goal.vector-items-requires
vector-items-requires t c =
    let count = vector-count t (goal.at.vector-items-requires t c).In_ok-n in
    (omega arith, walk_items c.requires count.1 (entered c.requires count.0 _ _ c.enter.ensures c.in_ok-totals.was))

pub vector-returns : goal.vector-returns
vector-returns t c =
    let read = (vector-count t (goal.at.vector-returns t c).In_ok-n).0 in
    vector_goes c.requires read _ _ c.enter.ensures c.in_ok-totals.was c.items.ensures

-- ---- items

pub items-returns-then-self-node-eq0 : goal.items-returns-then-self-node-eq0
items-returns-then-self-node-eq0 t c = same_pass_as _ _ _ _ _ _ (walk_units c.requires _ _ c.if-self-node-eq0.true) c.pass_units.ensures

pub items-returns-in_err-t : goal.items-returns-in_err-t
items-returns-in_err-t t c = loop_stops _ c.loop.invariant c.loop-test.true c.item.ensures c.in_err-t.was (handed_on _ _ c.from_residual.ensures.1)

pub items-overflow_sub-rest : goal.items-overflow_sub-rest
items-overflow_sub-rest t c = (item_held c.loop.invariant.walkable _ _ _ c.item.ensures c.in_ok-t.was).from

pub items-slice_bounds-rest-count : goal.items-slice_bounds-rest-count
items-slice_bounds-rest-count t c = (item_held c.loop.invariant.walkable _ _ _ c.item.ensures c.in_ok-t.was).used

pub items-slice_bounds-rest-start : goal.items-slice_bounds-rest-start
items-slice_bounds-rest-start t c = (item_held c.loop.invariant.walkable _ _ _ c.item.ensures c.in_ok-t.was).used

pub items-loop-preserved : goal.items-loop-preserved
items-loop-preserved t c = loop_goes _ c.loop.invariant c.loop-test.true c.item.ensures c.in_ok-t.was

pub items-returns : goal.items-returns
items-returns t c = loop_done _ c.loop.invariant c.loop-test.false
