use Rattle.std.proofs.Common.{refl, sym, ◌∙◌, arith, drop}
use Rattle.rules.proofs.Laws.Places.{sets_out}
use Rattle.meter.proofs.Stores.{stored_next, stored_all}
use Rattle.meter.proofs.store.Goals as goal

pub loop-cell-init : goal.loop-cell-init
loop-cell-init c = refl

pub returns-then-cells-i : goal.returns-then-cells-i
returns-then-cells-i c =
    let turn = c.loop-cell in
    sym (sets_out (drop turn.cell-index c.args.new.now) turn.cells turn.i (omega (arith, c.if-cells-i.true))) ∙ turn.invariant

pub loop-cell-preserved : goal.loop-cell-preserved
loop-cell-preserved c = stored_next _ _ _ c.args.new.now c.loop-cell-test.true ∙ c.loop-cell.invariant

pub returns : goal.returns
returns c = sym (stored_all _ c.loop-cell.cell-index _ c.args.new.now (omega (arith, c.loop-cell-test.false))) ∙ c.loop-cell.invariant
