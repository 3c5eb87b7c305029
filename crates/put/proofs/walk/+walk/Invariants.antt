-- What falls, and what the loop keeps. No call goes on for ever: with i for the index of the node that a call is at, or the larger of its two, an item counts 3 * i,
-- a row of items 3 * i + 1 and each kind's own function 3 * i + 2. An item's children have smaller indices, a kind's function calls items at the same index, or a row
-- of them, and a row calls its items.
use Rattle.std.proofs.Common.{◌+◌, ◌-◌, ◌*◌, max}
use Rattle.put.proofs.Walking.{Looping}
use Rattle.put.proofs.walk.+walk.Given as goal

abbrev pub decreases-put_item : goal.decreases-put_item
decreases-put_item l = 3 * l.node

abbrev pub decreases-put_option : goal.decreases-put_option
decreases-put_option l = 3 * l.a + 2

abbrev pub decreases-put_result : goal.decreases-put_result
decreases-put_result l = 3 * max l.a l.b + 2

abbrev pub decreases-put_pair : goal.decreases-put_pair
decreases-put_pair l = 3 * max l.a l.b + 2

abbrev pub decreases-put_vector : goal.decreases-put_vector
decreases-put_vector l = 3 * l.a + 2

abbrev pub decreases-put_items : goal.decreases-put_items
decreases-put_items l = 3 * l.node + 1

abbrev pub invariant-put_items-loop : goal.invariant-put_items-loop
invariant-put_items-loop l = Looping l.checked.table.now l.node l.count l.at l.cs l.pos l.initial.out l.out l.rest l.next l.end (l.count - l.counter)
