-- `longest` meets its contract: the check's answer, or that of the root. Assumes nothing.
use Rattle.std.proofs.Common.{ap, ◌∙◌}
use Rattle.std.specs.Prelude.{Ok}
use Rattle.rules.specs.Table.{longest_of}
use Rattle.rules.proofs.Laws.Basics.{handed_on}
use Rattle.totals.proofs.longest.Goals as goal

pub returns-in_err-checked : goal.returns-in_err-checked
unfolding longest_of
returns-in_err-checked c = rw c.in_err-checked.ensures (handed_on _ _ c.from_residual.ensures.1)

pub returns : goal.returns
unfolding longest_of
returns c = rw (← c.in_ok-checked.ensures, c.in_ok-checked.checked.fine) (ap Ok (c.widen.ensures ∙ c.measure.ensures))
