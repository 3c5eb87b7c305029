-- `put` meets its contract: what goes in is as good as the whole text. Assumes nothing.
use Rattle.std.proofs.Common.{refl}
use Rattle.report.proofs.Writer.put.Goals as goal

pub returns : goal.returns
returns c = record {
  ends = refl;
  holds = c.copy_at.ensures;
  same_memory = refl;
}
