use Rattle.std.proofs.Common.{sym, ◌∙◌}
use Rattle.rules.proofs.Laws.Basics.{handed_on}
use Rattle.rules.proofs.Laws.Table.{footprints_found, footprints_refused}
use Rattle.table.proofs.checked.Goals as goal

pub returns-in_err-feet : goal.returns-in_err-feet
returns-in_err-feet c = rw (handed_on _ _ c.from_residual.ensures.1) (footprints_refused _ _ (sym c.footprints.ensures ∙ c.in_err-feet.was))

pub invariant_of-result : goal.invariant_of-result
invariant_of-result c =
    let found = footprints_found _ _ (sym c.footprints.ensures ∙ c.in_ok-feet.was) in
    record { fine = found.0; footing = found.1 }
