-- `compact::many` meets its contract: each return rewrites by the tests that led there, and the last puts the two halves together. Assumes nothing.
use Rattle.std.proofs.Common.{◌≡◌, ◌≤◌, ◌<◌, ap, ◌∙◌, arith, lt-ltb, le-ltb, eq-eqb, ne_eqb}
use Rattle.rules.specs.Types.{size}
use Rattle.rules.specs.Compact.{form3}
use Rattle.rules.proofs.Laws.Compact.Answers.{form3_there}
use Rattle.compact.specs.Halves.{in_halves}
use Rattle.compact.specs.Laws.{size_le}
use Rattle.compact.proofs.Answers.{halves_whole}
use Rattle.compact.proofs.many.Goals as goal
use Rattle.compact.proofs.many.Goals.{Then-size-n, Else-size-n}

narrow : (c : Then-size-n) → size c.args.width < c.args.n
narrow c = omega (arith, c.size.ensures)

wide : (c : Else-size-n) → c.args.n ≤ size c.args.width
wide c = omega (arith, c.size.ensures)

pub returns-then-size-eq4 : goal.returns-then-size-eq4
unfolding form3
returns-then-size-eq4 c =
    let four : size c.args.width ≡ 4 = omega (arith, c.size-then-size-n.ensures) in
    simp (lt-ltb _ _ (narrow (goal.at.returns-then-size-eq4 c).Then-size-n), eq-eqb _ _ four)

pub returns-then-size-n : goal.returns-then-size-n
unfolding form3
returns-then-size-n c = simp (lt-ltb _ _ (narrow (goal.at.returns-then-size-n c).Then-size-n), ne_eqb _ _ (λ e. c.if-size-eq4.false (c.size-then-size-n.ensures ∙ e)))

pub returns-then-s-count : goal.returns-then-s-count
unfolding form3
returns-then-s-count c = simp (le-ltb _ _ (wide (goal.at.returns-then-s-count c).Else-size-n), lt-ltb _ _ c.if-s-count.true)

pub returns : goal.returns
returns c =
    let a = c.args in
    let there = wide (goal.at.returns c).Else-size-n in
    c.settle_long.ensures
    ∙ ap in_halves (form3_there (size a.width) a.n _ a.s.now there c.if-s-count.false (halves_whole a.n a.s.now _ (omega (arith, there, size_le a.width)) c.halves.ensures))
