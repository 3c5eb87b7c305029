use Rattle.std.proofs.Common.{◌∙◌, ap, arith}
use Rattle.compact.specs.Laws.{size_le}
use Rattle.rules.specs.Wire.{number_from}
use Rattle.leaf.proofs.Leaves.{number_short, number_there}
use Rattle.leaf.specs.Taken.{halved}
use Rattle.leaf.proofs.number_from.Goals as goal

pub returns-then-s-n : goal.returns-then-s-n
returns-then-s-n c = c.refuse.ensures ∙ number_short _ _ _ c.if-s-n.true ∙ ap (λ n. halved (number_from n c.args.at c.args.s.now)) c.size-n.ensures

pub returns : goal.returns
returns c =
    number_there _ c.args.at _ _ c.if-s-n.false (omega (arith, c.size-n.ensures, size_le c.args.width)) c.halves.ensures
    ∙ ap (λ n. halved (number_from n c.args.at c.args.s.now)) c.size-n.ensures
