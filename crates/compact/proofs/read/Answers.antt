-- `compact::read` meets its contract: a slice that is not empty is its first byte and `&s[1..]`. Assumes nothing.
use Rattle.std.proofs.Common.{ap}
use Rattle.rules.proofs.Laws.Compact.Answers.{at_none}
use Rattle.compact.specs.Halves.{in_halves}
use Rattle.compact.proofs.read.Goals as goal

pub returns-then-s-eq0 : goal.returns-then-s-eq0
returns-then-s-eq0 c = ap in_halves (at_none _ _ c.if-s-eq0.true)
