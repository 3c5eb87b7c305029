-- `main` is safe: what it writes is all of the report, since no report is longer than the memory lent for it. Assumes nothing.
use Rattle.std.proofs.Common.{sym, length-take-le}
use Rattle.wave.proofs.Room.{whole_report, whole_line}
use Rattle.wave.proofs.main.Goals as goal
use Rattle.wave.proofs.main.Goals.{in-Some-Some, in_default}

pub slice_bounds-text-end : goal.slice_bounds-text-end
slice_bounds-text-end c = elim c.match-table.branch [
  | in-Some-Some w ↦ whole_report _ _ w.length-is w.text-is w.report-length.ensures.answers w.report-length.auto.out
  | in_default w ↦ whole_line w.length-is w.text-is w.report_unreadable-length.ensures.answers w.report_unreadable-length.auto.out
]

pub slice_bounds-write_all-end : goal.slice_bounds-write_all-end
slice_bounds-write_all-end c = sym (length-take-le _ _ (elim c.match-table.branch [
  | in-Some-Some w ↦ whole_report _ _ w.length-is w.text-is w.report-length.ensures.answers w.report-length.auto.out
  | in_default w ↦ whole_line w.length-is w.text-is w.report_unreadable-length.ensures.answers w.report_unreadable-length.auto.out
]))
