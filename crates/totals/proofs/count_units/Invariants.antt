-- `count_units` meets its contract. The loop's invariant is `Measuring`: the numbers of the nodes so far stand in `units`. Assumes nothing.
use Rattle.rules.specs.Table.{unit_code}
use Rattle.table.specs.Filling.{Measuring}
use Rattle.totals.proofs.count_units.Given as goal

abbrev pub invariant-loop-i : goal.invariant-loop-i
invariant-loop-i l = Measuring 0 unit_code l.checked.table.now l.i l.units
