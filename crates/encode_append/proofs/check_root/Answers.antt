-- `check_root` meets its contract: the type that the last node says is the root. Assumes nothing.
use Rattle.std.proofs.Common.{◌∙◌}
use Rattle.rules.proofs.Laws.Basics.{handed_on}
use Rattle.encode_append.proofs.Deciding.{root_refused, root_vector, root_other}
use Rattle.encode_append.proofs.check_root.Goals as goal

pub returns-in_err-checked : goal.returns-in_err-checked
returns-in_err-checked c = handed_on _ _ c.from_residual.ensures.1 ∙ root_refused _ c.in_err-checked.ensures

pub returns-in-Vector : goal.returns-in-Vector
returns-in-Vector c = root_vector c.in_ok-checked.ensures c.in_ok-checked.checked.fine c.root.ensures.last c.node_at.ensures c.in-Vector.is

pub returns-in_default : goal.returns-in_default
returns-in_default c = c.refuse.ensures ∙ root_other c.in_ok-checked.ensures c.in_ok-checked.checked.fine c.root.ensures.last c.node_at.ensures c.in_default.not-Vector
