-- `compact::settle` meets its contract. Assumes nothing.
use Rattle.std.proofs.Common.{⊎_elim, arith}
use Rattle.compact.specs.Laws.{size_le}
use Rattle.compact.specs.Sizes.{under_low, over_low, over_high}
use Rattle.compact.proofs.Answers.{refuse_low, refuse_wide, accept}
use Rattle.compact.proofs.settle.Goals as goal

pub returns-then-size-significant : goal.returns-then-size-significant
returns-then-size-significant c = refuse_wide _ _ _ _ (rw (← c.size.ensures, ← c.significant.ensures) c.if-size-significant.true)

pub returns-then-value-least : goal.returns-then-value-least
returns-then-value-least c = refuse_low _ _ _ _ (under_low _ _ _ c.if-value-eq0.true c.if-value-least.true)

pub returns : goal.returns
returns c =
    accept _ _ _ _ _ (size_le c.args.width) (omega arith) (rw (← c.size.ensures, ← c.significant.ensures) c.if-size-significant.false)
    (⊎_elim (λ p. over_low _ _ _ p.1) (λ p. over_high _ _ _ p c.ranges.least.fits) c.else-value-eq0.either)
