use Rattle.rules.proofs.Laws.Basics.{handed_on}
use Rattle.scan.proofs.Rooted.{front_refused, front_scanned}
use Rattle.scan.proofs.scan_front.Goals as goal

pub returns-in_err-checked : goal.returns-in_err-checked
returns-in_err-checked c = front_refused _ _ _ _ _ _ c.in_err-checked.ensures (handed_on _ _ c.from_residual.ensures.1)

pub returns : goal.returns
returns c = front_scanned _ _ _ _ _ _ _ c.in_ok-checked.ensures c.in_ok-checked.checked.fine c.scan_root.ensures
