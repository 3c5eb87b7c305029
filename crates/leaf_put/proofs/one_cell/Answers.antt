use Rattle.std.proofs.Common.{◌∙◌}
use Rattle.leaf_put.proofs.Leaves.{one_none, one_large, one_small}
use Rattle.leaf_put.proofs.one_cell.Goals as goal

pub returns-then-cs-eq0 : goal.returns-then-cs-eq0
returns-then-cs-eq0 c = c.refuse.ensures ∙ one_none _ _ c.if-cs-eq0.true

pub returns-then-m-cs : goal.returns-then-m-cs
returns-then-m-cs c = c.refuse-then-m-cs.ensures ∙ one_large _ _ c.if-cs-eq0.false c.if-m-cs.true

pub returns : goal.returns
returns c = one_small _ _ _ c.if-cs-eq0.false c.if-m-cs.false (c.type_inv.cs 0).fits c.from.ensures
