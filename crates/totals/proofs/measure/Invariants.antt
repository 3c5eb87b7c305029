-- `measure` meets its contract. The loop's invariant is `Measuring`: the longest lengths of the nodes so far stand in `lengths`. Assumes nothing.
use Rattle.table.specs.Filling.{Measuring}
use Rattle.std.specs.Prelude.{None}
use Rattle.rules.specs.Totals.{longest}
use Rattle.totals.proofs.measure.Given as goal

abbrev pub invariant-loop-i : goal.invariant-loop-i
invariant-loop-i l = Measuring None longest l.checked.table.now l.i l.lengths
