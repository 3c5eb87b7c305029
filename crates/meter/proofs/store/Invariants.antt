-- `meter::store` meets its contract: what is left of the cells, from here on, gives what all of them give from the start. Assumes nothing.
use Rattle.std.proofs.Common.{◌≡◌, drop}
use Rattle.std.proofs.lemmas.List.Edits.{sets}
use Rattle.meter.proofs.store.Given as goal

abbrev pub invariant-loop-cell : goal.invariant-loop-cell
invariant-loop-cell l = sets l.cells l.i (drop l.cell-index l.new) ≡ sets l.initial.cells l.at l.new
