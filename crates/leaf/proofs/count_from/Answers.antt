use Rattle.std.proofs.Common.{◌∙◌, sym}
use Rattle.rules.proofs.Laws.Basics.{handed_on}
use Rattle.leaf.proofs.Leaves.{count_read, count_refused, count_small}
use Rattle.leaf.proofs.count_from.Goals as goal

pub returns-in_err-n : goal.returns-in_err-n
returns-in_err-n c = handed_on _ _ c.from_residual.ensures.1 ∙ count_refused _ _ (sym c.in_err-n.was ∙ c.compact_from.ensures)

pub returns : goal.returns
returns c = count_read _ _ _ (sym c.in_ok-n.was ∙ c.compact_from.ensures) (count_small _ _ _ _ (λ i. (c.type_inv.s i).fits) (sym c.in_ok-n.was ∙ c.compact_from.ensures))
