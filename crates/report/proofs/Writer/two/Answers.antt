-- `two` meets its contract. Assumes nothing.
use Rattle.report.proofs.Writing.{then}
use Rattle.report.proofs.Writer.two.Goals as goal

pub returns-clause-adds : goal.returns-clause-adds
returns-clause-adds c = then c.number.ensures.adds c.number-2.ensures.adds
