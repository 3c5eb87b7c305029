-- `footprints` meets its contract: the head's answer, or that of the nodes. Assumes nothing.
use Rattle.std.proofs.Common.{sym, ◌∙◌}
use Rattle.rules.proofs.Laws.Basics.{handed_on}
use Rattle.rules.proofs.Laws.Table.{check_head}
use Rattle.table.specs.Filling.{refused_feet}
use Rattle.table.proofs.footprints.Goals as goal

pub returns-in_err-check_head : goal.returns-in_err-check_head
returns-in_err-check_head c =
    handed_on _ _ c.from_residual.ensures.1 ∙ sym (refused_feet _ _ (check_head _ _ (sym c.check_head.ensures ∙ c.in_err-check_head.was)))
