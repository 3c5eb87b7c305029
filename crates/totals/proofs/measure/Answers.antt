-- `measure` meets its contract: the longest lengths of the nodes so far stand in `lengths`, and the root's is the last. Assumes nothing.
use Rattle.std.proofs.Common.{◌<◌, ap, ◌∙◌, arith, get_or}
use Rattle.std.specs.Prelude.{None}
use Rattle.rules.specs.Table.{count}
use Rattle.rules.specs.Table.Laws.{Good}
use Rattle.rules.proofs.Laws.Table.{check_good}
use Rattle.table.specs.Filling.{measuring_none, measuring_more}
use Rattle.totals.specs.Filling.{length_root, length_next}
use Rattle.totals.proofs.measure.Goals as goal

pub loop-i-init : goal.loop-i-init
loop-i-init c = measuring_none _ _ _

pub narrow-requires : goal.narrow-requires
narrow-requires c = (length_next _ (check_good _ c.args.checked.now.fine) _ _ c.loop-i.invariant (omega (arith, c.loop-i-test.true, c.count-i-end.ensures.counted)) _ c.node_at.ensures _ c.longest_of.ensures).1

pub loop-i-preserved : goal.loop-i-preserved
loop-i-preserved c =
    let good : Good c.args.checked.now.table.now = check_good _ c.args.checked.now.fine in
    let there : c.loop-i.i < count c.args.checked.now.table.now = omega (arith, c.loop-i-test.true, c.count-i-end.ensures.counted) in
    measuring_more c.loop-i.invariant good.few there _ (c.narrow.ensures ∙ (length_next _ good _ _ c.loop-i.invariant there _ c.node_at.ensures _ c.longest_of.ensures).0)

pub returns : goal.returns
returns c =
    let good : Good c.args.checked.now.table.now = check_good _ c.args.checked.now.fine in
    ap (λ k. get_or c.loop-i.lengths k None) c.root.ensures.last ∙ length_root _ good _ _ c.loop-i.invariant (omega (arith, c.loop-i-test.false, c.count-i-end.ensures.counted))
