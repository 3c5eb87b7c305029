-- `compact::settle_long` meets its contract. Assumes nothing.
use Rattle.std.proofs.Common.{ap, ◌∙◌, arith}
use Rattle.compact.specs.Halves.{in_halves}
use Rattle.compact.proofs.Answers.{refuse_max, settled_max}
use Rattle.compact.specs.Sizes.{under, over}
use Rattle.compact.proofs.settle_long.Goals as goal

pub returns-then-significant-n : goal.returns-then-significant-n
returns-then-significant-n c = refuse_max _ _ _ _ _ (under _ _ (omega arith) (omega arith))

pub returns : goal.returns
returns c = c.settle.ensures ∙ ap in_halves (settled_max _ _ _ _ _ (over _ _ (omega arith)))
