-- What falls, and what the loop keeps. No call goes on for ever: with i for the index of the node that a call is at, or the larger of its two, an item counts 3 * i,
-- a row of items 3 * i + 1 and each kind's own function 3 * i + 2. An item's children have smaller indices, a kind's function calls items at the same index, or a row
-- of them, and a row calls its items.
use Rattle.std.proofs.Common.{◌+◌, ◌*◌, max}
use Rattle.rules.specs.Scan.Pass.{pass_at}
use Rattle.scan.specs.Walk.{type_of}
use Rattle.scan.proofs.Walking.{Looping}
use Rattle.scan.proofs.plan.Plan.+walk.Given as goal

abbrev pub decreases-item : goal.decreases-item
decreases-item l = 3 * l.node

abbrev pub decreases-option : goal.decreases-option
decreases-option l = 3 * l.a + 2

abbrev pub decreases-result : goal.decreases-result
decreases-result l = 3 * max l.a l.b + 2

abbrev pub decreases-pair : goal.decreases-pair
decreases-pair l = 3 * max l.a l.b + 2

abbrev pub decreases-vector : goal.decreases-vector
decreases-vector l = 3 * l.a + 2

abbrev pub decreases-items : goal.decreases-items
decreases-items l = 3 * l.node + 1

abbrev pub invariant-items-loop : goal.invariant-items-loop
invariant-items-loop l =
    Looping (pass_at (type_of l.self l.node) l.m.limits l.level) l.self l.node l.m.limits l.count l.at l.s l.m.totals l.initial.cells l.cells l.rest l.end l.totals l.counter
