use Rattle.std.proofs.Common.{arith}
use Rattle.leaf_put.proofs.Lanes.{head_small, lanes_count, lanes_put}
use Rattle.leaf_put.proofs.put_lanes.Goals as goal

pub overflow_add-result : goal.overflow_add-result
overflow_add-result c = omega (arith, c.div_ceil.ensures, head_small c.args.n _ c.requires.all_there c.from.ensures c.put-head.ensures.answers c.requires.few)

pub returns-clause-answers : goal.returns-clause-answers
returns-clause-answers c = omega (arith, c.div_ceil.ensures, lanes_count c.args.n _ c.requires.all_there c.from.ensures c.put-head.ensures.answers)

pub returns-clause-writes : goal.returns-clause-writes
returns-clause-writes c =
    lanes_put _ _ c.requires.all_there c.from.ensures c.put-head.ensures.answers _ _ (omega (arith, c.well_formed)) c.put-head.ensures.writes
    (rw c.saturating_add.ensures at c.write.ensures.writes)
