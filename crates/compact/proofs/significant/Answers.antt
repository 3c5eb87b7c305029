-- `compact::significant` meets its contract: the leading zeros of a half say its highest byte. Assumes nothing.
use Rattle.std.proofs.Common.{ap, ◌∙◌, arith}
use Rattle.rules.specs.Compact.{significant}
use Rattle.compact.specs.Sizes.{whole_low, significant_low, significant_high}
use Rattle.compact.proofs.significant.Goals as goal

pub returns-then-value-eq0 : goal.returns-then-value-eq0
returns-then-value-eq0 c = significant_low _ (omega arith) ∙ ap significant (whole_low _ _ c.if-value-eq0.true)

pub returns-else-value-eq0 : goal.returns-else-value-eq0
returns-else-value-eq0 c = significant_high _ _ (omega arith) (omega arith) c.if-value-eq0.false
