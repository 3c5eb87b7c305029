-- `check` meets its contract: footprints are found where the check is fine, and refused where it refuses. Assumes nothing.
use Rattle.std.proofs.Common.{sym, ◌∙◌}
use Rattle.rules.proofs.Laws.Basics.{handed_on}
use Rattle.rules.proofs.Laws.Table.{footprints_found, footprints_refused}
use Rattle.table.proofs.check.Goals as goal

pub returns-in_err-footprints : goal.returns-in_err-footprints
returns-in_err-footprints c = handed_on _ _ c.from_residual.ensures.1 ∙ sym (footprints_refused _ _ (sym c.footprints.ensures ∙ c.in_err-footprints.was))

pub returns : goal.returns
returns c = sym (footprints_found _ _ (sym c.footprints.ensures ∙ c.in_ok-footprints.was)).0
