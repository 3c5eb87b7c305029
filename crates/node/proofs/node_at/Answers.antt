-- `node_at` meets its contract: the two tests say whether the four bytes are there. Assumes nothing.
use Rattle.std.proofs.Common.{◌+◌, ◌*◌, arith, le-leb, length}
use Rattle.std.proofs.lemmas.Bool.{lt-leb}
use Rattle.rules.specs.Table.{node_at, node_in}
use Rattle.node.proofs.node_at.Goals as goal

pub returns-then-table-lt10 : goal.returns-then-table-lt10
unfolding node_in
returns-then-table-lt10 c = rw (lt-leb (6 + 4 * c.args.i + 4) (length c.args.table.now) (omega arith))

pub returns-then-table-i : goal.returns-then-table-i
unfolding node_in
returns-then-table-i c = rw (lt-leb (6 + 4 * c.args.i + 4) (length c.args.table.now) (omega arith))

pub returns : goal.returns
unfolding node_in node_at
returns c = rw (le-leb (6 + 4 * c.args.i + 4) (length c.args.table.now) (omega arith), ← c.word-b.ensures) c.node_of.ensures
