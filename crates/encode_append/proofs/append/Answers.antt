-- `append` meets its contract: a plan that is carried out. Assumes nothing.
use Rattle.encode_append.proofs.Joining.{join_leaves}
use Rattle.encode_append.proofs.append.Goals as goal

pub returns-clause-writes : goal.returns-clause-writes
returns-clause-writes c = join_leaves c.in_ok-plan.ensures c.replace_head.ensures c.replace_head.auto.buf _ c.write_items.ensures.writes
