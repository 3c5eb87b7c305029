-- `cells` meets its contract: after some turns the lines of as many cells are put. Assumes nothing.
use Rattle.std.proofs.Common.{take}
use Rattle.rules.specs.Basics.{flat}
use Rattle.report.specs.Text.{cell_line}
use Rattle.report.specs.Writer.{Adds}
use Rattle.report.proofs.Writer.cells.Given as goal

abbrev pub invariant-loop-cell : goal.invariant-loop-cell
invariant-loop-cell l = Adds (flat cell_line (take l.cell-index l.cells)) l.initial.self l.self
