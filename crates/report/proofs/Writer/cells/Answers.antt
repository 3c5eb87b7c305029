use Rattle.std.proofs.Common.{arith}
use Rattle.report.proofs.Writing.{cell_more, cells_end}
use Rattle.report.proofs.Writer.cells.Goals as goal

pub number-requires : goal.number-requires
number-requires c = omega (arith, c.requires, cells_end c.args.cells.now _ _ _ (omega arith) c.loop-cell.invariant)

pub loop-cell-preserved : goal.loop-cell-preserved
loop-cell-preserved c = cell_more c.args.cells.now _ _ _ _ (omega arith) c.loop-cell.invariant c.number.ensures.adds
