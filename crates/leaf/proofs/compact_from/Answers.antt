use Rattle.std.proofs.Common.{◌∙◌, ap, sym}
use Rattle.std.specs.Prelude.{Err}
use Rattle.rules.specs.Refusals.{because}
use Rattle.rules.specs.Wire.{leaf_from}
use Rattle.leaf.proofs.Leaves.{compact_read, compact_refused}
use Rattle.leaf.proofs.compact_from.Goals as goal

pub returns-in-Ok : goal.returns-in-Ok
unfolding leaf_from
returns-in-Ok c = compact_read _ _ _ _ (sym c.in-Ok.is ∙ c.read.ensures)

pub returns-in-Err : goal.returns-in-Err
unfolding leaf_from
returns-in-Err c = c.refuse.ensures ∙ ap (λ r. Err (because r c.args.at)) c.from.ensures ∙ compact_refused _ _ _ (sym c.in-Err.is ∙ c.read.ensures)
