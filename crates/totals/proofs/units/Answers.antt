-- `units` meets its contract: the numbers of the nodes, or none if the check refuses the table. Assumes nothing.
use Rattle.rules.specs.Table.{units_of}
use Rattle.totals.proofs.units.Goals as goal

pub returns-in-Ok : goal.returns-in-Ok
unfolding units_of
returns-in-Ok c = rw (← c.in-Ok.ensures, c.in-Ok.checked.fine) c.count_units.ensures

pub returns-in-Err : goal.returns-in-Err
unfolding units_of
returns-in-Err c = rw c.in-Err.ensures
