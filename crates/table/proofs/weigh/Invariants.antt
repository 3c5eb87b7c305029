-- `weigh` meets its contract. The loop's invariant is `Weighing`: the nodes so far have passed, and their footprints stand in `feet`. Assumes nothing.
use Rattle.table.specs.Filling.{Weighing}
use Rattle.table.proofs.weigh.Given as goal

abbrev pub invariant-loop-i : goal.invariant-loop-i
invariant-loop-i l = Weighing l.table l.i l.feet
