use Rattle.std.proofs.Common.{sym, ◌∙◌}
use Rattle.leaf.specs.Laws.{leaf_got, leaf_bad}
use Rattle.rules.proofs.Laws.Basics.{handed_on}
use Rattle.leaf_put.proofs.Leaves.{taken_fits}
use Rattle.leaf_put.proofs.Putting.{none_put, all_put}
use Rattle.leaf_put.proofs.put_leaf.Goals as goal

pub returns-in_err-value : goal.returns-in_err-value
returns-in_err-value c = rw (handed_on _ _ c.from_residual.ensures.1) (none_put _ _ _ (leaf_bad _ _ _ c.leaf_taken.ensures c.in_err-value.was))

pub put_value-requires : goal.put_value-requires
put_value-requires c = taken_fits _ _ _ _ (λ i. (c.type_inv.cs i).fits) (sym c.in_ok-value.was ∙ c.leaf_taken.ensures)

pub returns : goal.returns
returns c = all_put _ _ _ (leaf_got _ _ _ _ c.leaf_taken.ensures c.in_ok-value.was).0 c.put_value.ensures.answers c.put_value.ensures.writes
