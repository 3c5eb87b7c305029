use Rattle.rules.proofs.Laws.Basics.{handed_on}
use Rattle.put.proofs.Parts.{table_stops, part_stops, part_stays, part_whole}
use Rattle.put.proofs.put_part.Goals as goal

pub returns-in_err-checked : goal.returns-in_err-checked
returns-in_err-checked c = table_stops _ _ _ _ c.in_err-checked.ensures (handed_on _ _ c.from_residual.ensures.1)

pub returns-in_err-taken : goal.returns-in_err-taken
returns-in_err-taken c =
    part_stops _ _ c.args.cells.now c.args.out.now c.in_ok-checked.ensures c.in_ok-checked.checked.fine c.put_root.ensures.answers c.in_err-taken.was
    (handed_on _ _ c.from_residual-in_err-taken.ensures.1)

pub returns-then-taken-cells : goal.returns-then-taken-cells
returns-then-taken-cells c =
    part_stays _ _ c.args.cells.now c.args.out.now c.in_ok-checked.ensures c.in_ok-checked.checked.fine c.put_root.ensures.answers c.in_ok-taken.was c.then-taken-cells.either

pub returns : goal.returns
returns c =
    part_whole _ _ c.args.cells.now c.args.out.now c.in_ok-checked.ensures c.in_ok-checked.checked.fine c.put_root.ensures.answers c.in_ok-taken.was c.if-taken-cells.false c.if-out-used.false
    c.put_root-2.ensures
