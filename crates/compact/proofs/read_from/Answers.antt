-- `compact::read_from` meets its contract: the form is the first byte modulo 4, and each form's function gives its answer. Assumes nothing.
use Rattle.std.proofs.Common.{◌≡◌, ap, sym, ◌∙◌, ℕ, ◌+◌, ◌%◌, arith}
use Rattle.rules.specs.Types.{size}
use Rattle.rules.specs.Compact.{form3}
use Rattle.rules.proofs.Laws.Compact.Answers.{at_0, at_1, at_2, at_3}
use Rattle.compact.specs.Halves.{in_halves}
use Rattle.compact.proofs.read_from.Goals as goal

pub returns-in-0 : goal.returns-in-0
returns-in-0 c = c.one.ensures ∙ ap in_halves (at_0 _ _ _ (sym c.form.ensures ∙ c.in-0.is))

pub returns-in-1 : goal.returns-in-1
returns-in-1 c = c.two.ensures ∙ ap in_halves (at_1 _ _ _ (sym c.form.ensures ∙ c.in-1.is))

pub returns-in-2 : goal.returns-in-2
returns-in-2 c = c.four.ensures ∙ ap in_halves (at_2 _ _ _ (sym c.form.ensures ∙ c.in-2.is))

pub returns-in_default : goal.returns-in_default
returns-in_default c =
    let a = c.args in
    let e : a.b % 4 ≡ 3 = omega arith in
    c.many.ensures ∙ ap (λ (n : ℕ). in_halves (form3 (size a.width) (n + 4) a.s.now)) c.upper.ensures ∙ ap in_halves (at_3 _ _ _ e)
