use Rattle.std.proofs.Common.{[], ◌≡◌, refl, ap, sym, ◌∙◌, ◌+◌, ◌-◌, ◌*◌, arith}
use Rattle.rules.proofs.Laws.Scan.Landing.{stops, lands}
use Rattle.rules.specs.Scan.Units.{zeros, units_at}
use Rattle.rules.proofs.Laws.Scan.Units.{units_fit, units_stop, units_none}
use Rattle.meter.proofs.Stores.{room_holds, room_ends, units_full}
use Rattle.meter.proofs.Meter.pass_units.Goals as goal

pub returns-then-self-t : goal.returns-then-self-t
returns-then-self-t c =
    stops _ _ _ _ _ (units_full _ _ _ _ c.if-self-t.true) c.refuse.ensures

pub returns-then-n-eq0 : goal.returns-then-n-eq0
returns-then-n-eq0 c =
    let z : c.args.n * (c.args.more + 1) ≡ 0 = rw c.if-n-eq0.true (omega arith) in
    lands _ _ _ [] _ _ _ (ap (units_at _ _ _) z ∙ sym (units_none _ _ _ (omega (arith, c.if-self-t.false)))) refl refl

pub returns-then-left-n : goal.returns-then-left-n
returns-then-left-n c =
    let start = c.args in
    let full = room_ends start.n start.more c.room-left.result c.if-n-eq0.false c.if-left-n.true in
    lands _ _ _ (zeros (start.self.limits.cells - start.self.totals.cells)) _ _ _
    (units_stop _ _ _ _ (omega (arith, full, c.if-self-t.false, c.room-left.ensures))) c.refuse-then-left-n.ensures
    (rw c.room-left.ensures at c.store_zeros.ensures)

pub returns : goal.returns
returns c =
    let start = c.args in
    let fits = room_holds start.n start.more c.room-left.result c.if-n-eq0.false c.if-left-n.false in
    lands _ _ _ (zeros (start.n * (start.more + 1))) _ _ _
    (units_fit _ _ _ _ (omega (arith, fits, c.room-left.ensures, c.if-self-t.false))) refl
    c.store_zeros-2.ensures
