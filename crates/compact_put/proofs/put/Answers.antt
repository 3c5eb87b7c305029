-- `compact_put::put` meets its contract: the front of what `write` gives is the encoding. Assumes nothing.
use Rattle.std.proofs.Common.{sym, length-take-le}
use Rattle.compact_put.specs.Laws.{written_len, written_front, written_room}
use Rattle.compact_put.proofs.put.Goals as goal

pub slice_bounds-bytes-end : goal.slice_bounds-bytes-end
slice_bounds-bytes-end c = written_room _ _ c.write-encoded.ensures

pub slice_bounds-copy_at-end : goal.slice_bounds-copy_at-end
slice_bounds-copy_at-end c = sym (length-take-le _ _ (written_room _ _ c.write-encoded.ensures))

pub returns-clause-answers : goal.returns-clause-answers
returns-clause-answers c = written_len _ _ c.write-encoded.ensures

pub returns-clause-writes : goal.returns-clause-writes
returns-clause-writes c = rw (written_front _ _ c.write-encoded.ensures) at c.copy_at.ensures
