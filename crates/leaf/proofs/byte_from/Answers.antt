use Rattle.std.proofs.Common.{◌∙◌}
use Rattle.leaf.proofs.Leaves.{byte_none, byte_large, byte_small}
use Rattle.leaf.proofs.byte_from.Goals as goal

pub returns-then-s-eq0 : goal.returns-then-s-eq0
returns-then-s-eq0 c = c.refuse.ensures ∙ byte_none _ _ _ c.if-s-eq0.true

pub returns-then-m-s : goal.returns-then-m-s
returns-then-m-s c = c.refuse-then-m-s.ensures ∙ byte_large _ _ _ c.if-s-eq0.false c.if-m-s.true

pub returns : goal.returns
returns c = byte_small _ _ _ _ c.if-s-eq0.false c.if-m-s.false (c.type_inv.s 0).fits c.from.ensures
