-- `compact::two` meets its contract. Assumes nothing.
use Rattle.std.proofs.Common.{◌∙◌, lt-ltb, le-ltb}
use Rattle.rules.specs.Compact.{form1}
use Rattle.compact.proofs.Answers.{one_half}
use Rattle.compact.proofs.two.Goals as goal

pub returns-then-s-lt1 : goal.returns-then-s-lt1
unfolding form1
returns-then-s-lt1 c = simp (lt-ltb _ _ c.if-s-lt1.true)

pub returns : goal.returns
unfolding form1
returns c = simp (le-ltb _ _ c.if-s-lt1.false) (c.settle.ensures ∙ one_half _ _ _ _ _ _ c.from.ensures c.joined.ensures)
