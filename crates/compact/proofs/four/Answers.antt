-- `compact::four` meets its contract. Assumes nothing.
use Rattle.std.proofs.Common.{◌≤◌, ◌<◌, ◌∙◌, arith, lt-ltb, le-ltb}
use Rattle.rules.specs.Types.{size}
use Rattle.rules.specs.Compact.{form2}
use Rattle.compact.proofs.Answers.{one_half}
use Rattle.compact.proofs.four.Goals as goal
use Rattle.compact.proofs.four.Goals.{Else-size-lt2}

wide : (c : Else-size-lt2) → 2 ≤ size c.args.width
wide c = omega (arith, c.size.ensures)

pub returns-then-size-lt2 : goal.returns-then-size-lt2
unfolding form2
returns-then-size-lt2 c = let small : size c.args.width < 2 = omega (arith, c.size.ensures) in simp (lt-ltb _ _ small)

pub returns-then-s-lt3 : goal.returns-then-s-lt3
unfolding form2
returns-then-s-lt3 c = simp (le-ltb _ _ (wide (goal.at.returns-then-s-lt3 c).Else-size-lt2), lt-ltb _ _ c.if-s-lt3.true)

pub returns : goal.returns
unfolding form2
returns c =
    simp (le-ltb _ _ (wide (goal.at.returns c).Else-size-lt2), le-ltb _ _ c.if-s-lt3.false)
    (c.settle.ensures ∙ one_half _ _ _ _ _ _ c.from.ensures c.joined.ensures)
