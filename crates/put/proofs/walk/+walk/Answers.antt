-- The item writer and those that it calls meet their contracts: in each, what the parts put gives what the whole does, kind by kind as in `Walking`. Assumes nothing.
use Rattle.std.proofs.Common.{ℕ, refl, arith}
use Rattle.rules.specs.declared.Leaf.TheVariants.{Bool as bool, Compact as compact}
use Rattle.rules.specs.declared.Node.TheVariants.{Leaf as leaf_node, Option as option_node, Result as result_node, Pair as pair_node, Array as array_node, Vector as vector_node, Bits as bits_node, Unknown as unknown}
use Rattle.rules.specs.declared.Width.TheVariants.{W4 as w4}
use Rattle.rules.proofs.Laws.Basics.{handed_on}
use Rattle.rules.proofs.Laws.Put.{put_leaf_lem}
use Rattle.put.proofs.Putting.{same_put}
use Rattle.put.proofs.Walking.{Behind, put_node, put_next, behind_item, behind_leaf, cell_there, children, by_kind, tag_stops, tag_first, tag_second, tag_alone, pair_stops, pair_goes, vector_stops, vector_goes, loop_none, loop_done, loop_stops, loop_again}
use Rattle.put.proofs.walk.+walk.Goals as goal
use Rattle.put.proofs.walk.+walk.Goals.{put_option-In_ok-next, put_result-In_ok-next, put_pair-In_ok-next, put_vector-In_ok-next, put_items-In_ok-c, put_result-then-cs-eq0, put_result-else-cs-eq0}

-- ---- an item

pub put_item-put_option-requires : goal.put_item-put_option-requires
put_item-put_option-requires t c =
    let below = children c.args.checked.now.fine c.requires c.node_at.ensures (option_node _) c.in-Option.is in
    (omega (arith, below), put_node c.requires below)

pub put_item-put_result-requires : goal.put_item-put_result-requires
put_item-put_result-requires t c =
    let below = children c.args.checked.now.fine c.requires c.node_at.ensures (result_node _ _) c.in-Result.is in
    (omega (arith, below), (put_node c.requires below.0, put_node c.requires below.1))

pub put_item-put_pair-requires : goal.put_item-put_pair-requires
put_item-put_pair-requires t c =
    let below = children c.args.checked.now.fine c.requires c.node_at.ensures (pair_node _ _) c.in-Pair.is in
    (omega (arith, below), (put_node c.requires below.0, put_node c.requires below.1))

pub put_item-put_items-requires : goal.put_item-put_items-requires
put_item-put_items-requires t c =
    let below = children c.args.checked.now.fine c.requires c.node_at.ensures (array_node _ _) c.in-Array.is in
    (omega (arith, below), put_node c.requires below)

pub put_item-put_vector-requires : goal.put_item-put_vector-requires
put_item-put_vector-requires t c =
    let below = children c.args.checked.now.fine c.requires c.node_at.ensures (vector_node _) c.in-Vector.is in
    (omega (arith, below), put_node c.requires below)

pub put_item-returns-in-Leaf : goal.put_item-returns-in-Leaf
put_item-returns-in-Leaf t c = by_kind c.args.checked.now.fine c.requires c.node_at.ensures (leaf_node _) c.in-Leaf.is (same_put (put_leaf_lem _ _ _) c.put_leaf.ensures)

pub put_item-returns-in-Option : goal.put_item-returns-in-Option
put_item-returns-in-Option t c = by_kind c.args.checked.now.fine c.requires c.node_at.ensures (option_node _) c.in-Option.is c.put_option.ensures

pub put_item-returns-in-Result : goal.put_item-returns-in-Result
put_item-returns-in-Result t c = by_kind c.args.checked.now.fine c.requires c.node_at.ensures (result_node _ _) c.in-Result.is c.put_result.ensures

pub put_item-returns-in-Pair : goal.put_item-returns-in-Pair
put_item-returns-in-Pair t c = by_kind c.args.checked.now.fine c.requires c.node_at.ensures (pair_node _ _) c.in-Pair.is c.put_pair.ensures

pub put_item-returns-in-Array : goal.put_item-returns-in-Array
put_item-returns-in-Array t c = by_kind c.args.checked.now.fine c.requires c.node_at.ensures (array_node _ _) c.in-Array.is c.put_items.ensures

pub put_item-returns-in-Vector : goal.put_item-returns-in-Vector
put_item-returns-in-Vector t c = by_kind c.args.checked.now.fine c.requires c.node_at.ensures (vector_node _) c.in-Vector.is c.put_vector.ensures

pub put_item-returns-in-Bits : goal.put_item-returns-in-Bits
put_item-returns-in-Bits t c = by_kind c.args.checked.now.fine c.requires c.node_at.ensures bits_node c.in-Bits.is c.put_bits.ensures

pub put_item-returns-in-Unknown : goal.put_item-returns-in-Unknown
put_item-returns-in-Unknown t c = absurd (children c.args.checked.now.fine c.requires c.node_at.ensures unknown c.in-Unknown.is)

-- ---- an Option

option_behind : (t : ℕ) (c : put_option-In_ok-next t) → Behind c.args.at c.args.cs.now c.in_ok-next.next c.in_ok-next.end
option_behind t c = behind_leaf _ _ bool c.requires.spare c.put_leaf.ensures c.in_ok-next.was

pub put_option-returns-in_err-next : goal.put_option-returns-in_err-next
put_option-returns-in_err-next t c = tag_stops _ _ _ _ c.put_leaf.ensures c.in_err-next.was (handed_on _ _ c.from_residual.ensures.1)

pub put_option-bounds-cs-0 : goal.put_option-bounds-cs-0
put_option-bounds-cs-0 t c = cell_there bool _ _ refl c.put_leaf.ensures c.in_ok-next.was

pub put_option-returns-then-cs-eq0 : goal.put_option-returns-then-cs-eq0
put_option-returns-then-cs-eq0 t c = tag_alone _ _ _ c.put_leaf.ensures c.in_ok-next.was c.if-cs-eq0.true

pub put_option-overflow_sub-next : goal.put_option-overflow_sub-next
put_option-overflow_sub-next t c = (option_behind t (goal.at.put_option-overflow_sub-next t c).In_ok-next).from

pub put_option-offset_bounds-cs-next : goal.put_option-offset_bounds-cs-next
put_option-offset_bounds-cs-next t c = omega (arith, option_behind t (goal.at.put_option-offset_bounds-cs-next t c).In_ok-next)

pub put_option-slice_bounds-put_item-count : goal.put_option-slice_bounds-put_item-count
put_option-slice_bounds-put_item-count t c = (option_behind t (goal.at.put_option-slice_bounds-put_item-count t c).In_ok-next).taken

pub put_option-slice_bounds-put_item-start : goal.put_option-slice_bounds-put_item-start
put_option-slice_bounds-put_item-start t c = (option_behind t (goal.at.put_option-slice_bounds-put_item-start t c).In_ok-next).taken

pub put_option-put_item-requires : goal.put_option-put_item-requires
put_option-put_item-requires t c = (omega arith, put_next c.requires (option_behind t (goal.at.put_option-put_item-requires t c).In_ok-next))

pub put_option-returns : goal.put_option-returns
put_option-returns t c = tag_second _ _ _ _ c.put_leaf.ensures c.in_ok-next.was c.if-cs-eq0.false c.put_item.ensures

-- ---- a Result

result_behind : (t : ℕ) (c : put_result-In_ok-next t) → Behind c.args.at c.args.cs.now c.in_ok-next.next c.in_ok-next.end
result_behind t c = behind_leaf _ _ bool c.requires.first.spare c.put_leaf.ensures c.in_ok-next.was

pub put_result-returns-in_err-next : goal.put_result-returns-in_err-next
put_result-returns-in_err-next t c = tag_stops _ _ _ _ c.put_leaf.ensures c.in_err-next.was (handed_on _ _ c.from_residual.ensures.1)

pub put_result-bounds-cs-0 : goal.put_result-bounds-cs-0
put_result-bounds-cs-0 t c = cell_there bool _ _ refl c.put_leaf.ensures c.in_ok-next.was

pub put_result-overflow_sub-next : goal.put_result-overflow_sub-next
put_result-overflow_sub-next t c = (result_behind t (goal.at.put_result-overflow_sub-next t c).In_ok-next).from

pub put_result-offset_bounds-cs-next : goal.put_result-offset_bounds-cs-next
put_result-offset_bounds-cs-next t c = omega (arith, result_behind t (goal.at.put_result-offset_bounds-cs-next t c).In_ok-next)

pub put_result-slice_bounds-put_item-count : goal.put_result-slice_bounds-put_item-count
put_result-slice_bounds-put_item-count t c = (result_behind t (goal.at.put_result-slice_bounds-put_item-count t c).In_ok-next).taken

pub put_result-slice_bounds-put_item-start : goal.put_result-slice_bounds-put_item-start
put_result-slice_bounds-put_item-start t c = (result_behind t (goal.at.put_result-slice_bounds-put_item-start t c).In_ok-next).taken

pub put_result-put_item-requires : goal.put_result-put_item-requires
put_result-put_item-requires t c =
    let behind = result_behind t (goal.at.put_result-put_item-requires t c).In_ok-next in
    elim c.if-cs-eq0.branch [
      | put_result-then-cs-eq0 w ↦ rw w.chosen-is (omega arith, put_next c.requires.first behind)
      | put_result-else-cs-eq0 w ↦ rw w.chosen-is (omega arith, put_next c.requires.second behind)
    ]

pub put_result-returns : goal.put_result-returns
put_result-returns t c =
    elim c.if-cs-eq0.branch [
      | put_result-then-cs-eq0 w ↦ tag_first _ _ _ _ c.put_leaf.ensures c.in_ok-next.was w.if-cs-eq0.true (rw w.chosen-is at c.put_item.ensures)
      | put_result-else-cs-eq0 w ↦ tag_second _ _ _ _ c.put_leaf.ensures c.in_ok-next.was w.if-cs-eq0.false (rw w.chosen-is at c.put_item.ensures)
    ]

-- ---- a pair

pair_behind : (t : ℕ) (c : put_pair-In_ok-next t) → Behind c.args.at c.args.cs.now c.in_ok-next.next c.in_ok-next.end
pair_behind t c = behind_item _ _ _ c.requires.first.spare c.put_item.ensures c.in_ok-next.was

pub put_pair-returns-in_err-next : goal.put_pair-returns-in_err-next
put_pair-returns-in_err-next t c = pair_stops _ _ _ _ c.put_item.ensures c.in_err-next.was (handed_on _ _ c.from_residual.ensures.1)

pub put_pair-overflow_sub-next : goal.put_pair-overflow_sub-next
put_pair-overflow_sub-next t c = (pair_behind t (goal.at.put_pair-overflow_sub-next t c).In_ok-next).from

pub put_pair-offset_bounds-cs-next : goal.put_pair-offset_bounds-cs-next
put_pair-offset_bounds-cs-next t c = omega (arith, pair_behind t (goal.at.put_pair-offset_bounds-cs-next t c).In_ok-next)

pub put_pair-slice_bounds-put_item-count : goal.put_pair-slice_bounds-put_item-count
put_pair-slice_bounds-put_item-count t c = (pair_behind t (goal.at.put_pair-slice_bounds-put_item-count t c).In_ok-next).taken

pub put_pair-slice_bounds-put_item-start : goal.put_pair-slice_bounds-put_item-start
put_pair-slice_bounds-put_item-start t c = (pair_behind t (goal.at.put_pair-slice_bounds-put_item-start t c).In_ok-next).taken

pub put_pair-put_item-requires-2 : goal.put_pair-put_item-requires-2
put_pair-put_item-requires-2 t c = (omega arith, put_next c.requires.second (pair_behind t (goal.at.put_pair-put_item-requires-2 t c).In_ok-next))

pub put_pair-returns : goal.put_pair-returns
put_pair-returns t c = pair_goes _ _ _ _ c.put_item.ensures c.in_ok-next.was c.put_item-2.ensures

-- ---- a vector

vector_behind : (t : ℕ) (c : put_vector-In_ok-next t) → Behind c.args.at c.args.cs.now c.in_ok-next.next c.in_ok-next.end
vector_behind t c = behind_leaf _ _ (compact w4) c.requires.spare c.put_leaf.ensures c.in_ok-next.was

pub put_vector-returns-in_err-next : goal.put_vector-returns-in_err-next
put_vector-returns-in_err-next t c = vector_stops _ _ _ c.put_leaf.ensures c.in_err-next.was (handed_on _ _ c.from_residual.ensures.1)

pub put_vector-bounds-cs-0 : goal.put_vector-bounds-cs-0
put_vector-bounds-cs-0 t c = cell_there (compact w4) _ _ refl c.put_leaf.ensures c.in_ok-next.was

pub put_vector-overflow_sub-next : goal.put_vector-overflow_sub-next
put_vector-overflow_sub-next t c = (vector_behind t (goal.at.put_vector-overflow_sub-next t c).In_ok-next).from

pub put_vector-offset_bounds-cs-next : goal.put_vector-offset_bounds-cs-next
put_vector-offset_bounds-cs-next t c = omega (arith, vector_behind t (goal.at.put_vector-offset_bounds-cs-next t c).In_ok-next)

pub put_vector-slice_bounds-put_items-count : goal.put_vector-slice_bounds-put_items-count
put_vector-slice_bounds-put_items-count t c = (vector_behind t (goal.at.put_vector-slice_bounds-put_items-count t c).In_ok-next).taken

pub put_vector-slice_bounds-put_items-start : goal.put_vector-slice_bounds-put_items-start
put_vector-slice_bounds-put_items-start t c = (vector_behind t (goal.at.put_vector-slice_bounds-put_items-start t c).In_ok-next).taken

pub put_vector-put_items-requires : goal.put_vector-put_items-requires
put_vector-put_items-requires t c = (omega arith, put_next c.requires (vector_behind t (goal.at.put_vector-put_items-requires t c).In_ok-next))

pub put_vector-returns : goal.put_vector-returns
put_vector-returns t c = vector_goes _ _ _ c.put_leaf.ensures c.in_ok-next.was c.put_items.ensures

-- ---- items

items_behind : (t : ℕ) (c : put_items-In_ok-c t) → Behind c.loop.next c.loop.rest.now c.in_ok-c.c c.in_ok-c.e
items_behind t c = behind_item _ _ _ c.loop.invariant.going.spare c.put_item.ensures c.in_ok-c.was

pub put_items-loop-init : goal.put_items-loop-init
put_items-loop-init t c = loop_none c.requires

pub put_items-returns-in_err-c : goal.put_items-returns-in_err-c
put_items-returns-in_err-c t c = loop_stops c.loop.invariant c.loop-test.true c.put_item.ensures c.in_err-c.was (handed_on _ _ c.from_residual.ensures.1)

pub put_items-overflow_sub-rest : goal.put_items-overflow_sub-rest
put_items-overflow_sub-rest t c = (items_behind t (goal.at.put_items-overflow_sub-rest t c).In_ok-c).from

pub put_items-offset_bounds-rest-c : goal.put_items-offset_bounds-rest-c
put_items-offset_bounds-rest-c t c = omega (arith, items_behind t (goal.at.put_items-offset_bounds-rest-c t c).In_ok-c)

pub put_items-slice_bounds-rest-count : goal.put_items-slice_bounds-rest-count
put_items-slice_bounds-rest-count t c = (items_behind t (goal.at.put_items-slice_bounds-rest-count t c).In_ok-c).taken

pub put_items-slice_bounds-rest-start : goal.put_items-slice_bounds-rest-start
put_items-slice_bounds-rest-start t c = (items_behind t (goal.at.put_items-slice_bounds-rest-start t c).In_ok-c).taken

pub put_items-loop-preserved : goal.put_items-loop-preserved
put_items-loop-preserved t c = loop_again c.loop.invariant c.loop-test.true c.put_item.ensures c.in_ok-c.was

pub put_items-returns : goal.put_items-returns
put_items-returns t c = loop_done c.loop.invariant c.loop-test.false
