use Rattle.std.proofs.Common.{◌∙◌}
use Rattle.leaf_put.proofs.Leaves.{halves_few, halves_both}
use Rattle.leaf_put.proofs.two_cells.Goals as goal

pub returns-then-cs-lt2 : goal.returns-then-cs-lt2
returns-then-cs-lt2 c = c.refuse.ensures ∙ halves_few _ c.if-cs-lt2.true

pub returns : goal.returns
returns c = halves_both _ c.if-cs-lt2.false (c.type_inv.cs 0).fits
