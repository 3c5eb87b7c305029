-- `number` meets its contract: io's digits are those of `decimal`. Assumes nothing.
use Rattle.std.proofs.Common.{◌∙◌}
use Rattle.report.specs.Numerals.{decimal_is}
use Rattle.report.proofs.Writing.{then, same_text}
use Rattle.report.proofs.Writer.number.Goals as goal

pub returns-clause-adds : goal.returns-clause-adds
returns-clause-adds c =
    let told = c.decimal-k.ensures in
    then (same_text (told.digits ∙ (decimal_is _ _ c.ranges.n.fits told.len).1) c.put.ensures) c.put-2.ensures
