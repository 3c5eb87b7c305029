-- `report` meets its contract: the counted cells are those that the reading passed, and they are all there. Assumes nothing.
use Rattle.std.proofs.Common.{sym, arith, length-take-le}
use Rattle.report.proofs.Reading.{refused_put, few_cells, done_put}
use Rattle.report.proofs.report.Goals as goal

pub slice_bounds-cells-end : goal.slice_bounds-cells-end
slice_bounds-cells-end c = omega (arith, few_cells _ _ _ _ (c.read_whole.ensures.answers, c.read_whole.ensures.writes) _ _ c.in-Ok.is)

pub slice_bounds-put_done-end : goal.slice_bounds-put_done-end
slice_bounds-put_done-end c =
    sym (length-take-le _ _ (omega (arith, few_cells _ _ _ _ (c.read_whole.ensures.answers, c.read_whole.ensures.writes) _ _ c.in-Ok.is)))

pub returns-in-Err : goal.returns-in-Err
returns-in-Err c =
    let both = refused_put _ _ _ _ (c.read_whole.ensures.answers, c.read_whole.ensures.writes) _ _ _ _ c.in-Err.is (rw c.into.ensures at c.put_refused.ensures) in
    record { answers = both.answers; writes = both.writes }

pub returns-in-Ok : goal.returns-in-Ok
returns-in-Ok c =
    let both = done_put _ _ _ _ (c.read_whole.ensures.answers, c.read_whole.ensures.writes) _ _ _ _ _ c.in-Ok.is c.put_done.ensures in
    record { answers = both.answers; writes = both.writes }
