-- `compact::one` meets its contract: what `settle` ensures, at what `upper` ensures. Assumes nothing.
use Rattle.std.proofs.Common.{◌∙◌}
use Rattle.rules.specs.Compact.{form0}
use Rattle.compact.proofs.Answers.{one_half}
use Rattle.compact.proofs.one.Goals as goal

pub returns : goal.returns
unfolding form0
returns c = c.settle.ensures ∙ one_half _ _ _ _ _ _ c.from.ensures c.upper.ensures
