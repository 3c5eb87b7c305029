-- `count_units` meets its contract: the numbers of the nodes so far stand in `units`. Assumes nothing.
use Rattle.std.proofs.Common.{◌≡◌, ◌<◌, ap, ap₂, ◌∙◌, arith, get_or, eqb}
use Rattle.rules.specs.Basics.{pick}
use Rattle.rules.specs.Totals.{foot}
use Rattle.rules.specs.Table.{count, node_at, ty_at}
use Rattle.rules.specs.Table.Laws.{Good}
use Rattle.rules.proofs.Laws.Table.{check_good}
use Rattle.node.specs.Laws.{node_good}
use Rattle.table.specs.Filling.{measuring_none, measuring_more, measuring_all}
use Rattle.totals.specs.Nodes.{units_over}
use Rattle.totals.specs.Units.{feet_at, units_found}
use Rattle.totals.proofs.count_units.Goals as goal

pub loop-i-init : goal.loop-i-init
loop-i-init c = measuring_none _ _ _

pub loop-i-preserved : goal.loop-i-preserved
loop-i-preserved c =
    let checked = c.args.checked.now in
    let good : Good checked.table.now = check_good _ checked.fine in
    let there : c.loop-i.i < count checked.table.now = omega (arith, c.loop-i-test.true, c.count-i-end.ensures.counted) in
    let footprint : get_or checked.feet c.loop-i.i 0 ≡ foot (ty_at checked.table.now c.loop-i.i) = ap (λ l. get_or l c.loop-i.i 0) checked.footing ∙ feet_at _ good _ there in
    let node : c.node_at.result ≡ node_at checked.table.now c.loop-i.i = c.node_at.ensures ∙ node_good _ good _ there in
    measuring_more c.loop-i.invariant good.few there _
    (c.units_of.ensures ∙ ap₂ (λ z n. pick (eqb z 0) (units_over (λ j. get_or c.loop-i.units j 0) n) 0) footprint node ∙ units_found _ good _ there _ c.loop-i.invariant.done)

pub returns : goal.returns
returns c = measuring_all c.loop-i.invariant (check_good _ c.args.checked.now.fine).few (omega (arith, c.loop-i-test.false, c.count-i-end.ensures.counted))
