use Rattle.std.proofs.Common.{◌∙◌, sym, arith}
use Rattle.rules.proofs.Laws.Basics.{handed_on}
use Rattle.rules.proofs.Laws.Scan.Landing.{stops, same_pass_as}
use Rattle.scan.proofs.Leaves.{leaf_none, leaf_within, leaf_wide, leaf_narrow}
use Rattle.scan.proofs.single.scan_leaf.Goals as goal

pub returns-in_err-value : goal.returns-in_err-value
returns-in_err-value c = stops _ _ _ _ _ (leaf_none _ _ _ _ _ _ c.leaf_from.ensures _ c.in_err-value.was) (handed_on _ _ c.from_residual.ensures.1)

pub overflow_add-end : goal.overflow_add-end
overflow_add-end c = omega (arith, leaf_within _ c.args.m.limits _ _ c.args.m.totals _ c.leaf_from.ensures _ _ c.in_ok-value.was)

pub returns-then-is_wide : goal.returns-then-is_wide
returns-then-is_wide c =
    same_pass_as _ _ _ _ _ _ (leaf_wide _ _ _ _ _ _ c.leaf_from.ensures _ _ c.in_ok-value.was (sym c.is_wide.ensures ∙ c.if-is_wide.true)) c.pass.ensures

pub returns : goal.returns
returns c =
    same_pass_as _ _ _ _ _ _
    (leaf_narrow _ _ _ _ _ _ c.leaf_from.ensures _ _ c.in_ok-value.was (sym c.is_wide.ensures ∙ c.if-is_wide.false) (λ i. (c.type_inv.s i).fits)) c.pass-2.ensures
