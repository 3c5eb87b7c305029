use Rattle.std.proofs.Common.{[], ◌∷◌, arith}
use Rattle.rules.proofs.Laws.Scan.Single.{entry_deep, entry_dear, entry_full, entry_passes}
use Rattle.rules.proofs.Laws.Scan.Landing.{stops, lands, same_done}
use Rattle.meter.proofs.Meter.enter.Goals as goal

pub returns-then-self-level : goal.returns-then-self-level
returns-then-self-level c =
    stops _ _ _ _ _ (entry_deep _ _ _ _ (omega (arith, c.if-self-level.true))) c.refuse.ensures

pub returns-then-self-total : goal.returns-then-self-total
returns-then-self-total c =
    stops _ _ _ _ _ (entry_dear _ _ _ _ (omega (arith, c.if-self-level.false)) (rw (← c.saturating_add-total.ensures) c.if-self-total.true)) c.refuse-then-self-total.ensures

pub returns-then-room-extra : goal.returns-then-room-extra
returns-then-room-extra c =
    stops _ _ _ _ _
    (entry_full _ _ _ _ (omega (arith, c.if-self-level.false)) (rw (← c.saturating_add-total.ensures) c.if-self-total.false) (omega (arith, c.room.ensures, c.if-room-extra.true))) c.refuse-then-room-extra.ensures

pub returns : goal.returns
returns c =
    lands _ _ _ (c.args.n ∷ []) _ _ _
    (entry_passes _ _ _ _ (omega (arith, c.if-self-level.false)) (rw (← c.saturating_add-total.ensures) c.if-self-total.false) (omega (arith, c.room.ensures, c.if-room-extra.false)))
    (same_done _ _ _ _ _ _ c.max-depth.ensures c.saturating_add-total.ensures) c.store.ensures
