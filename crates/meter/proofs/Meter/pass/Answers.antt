use Rattle.std.proofs.Common.{refl, ⊎_elim, arith}
use Rattle.rules.proofs.Laws.Scan.Single.{plain_stops, plain_passes}
use Rattle.rules.proofs.Laws.Scan.Landing.{stops, lands}
use Rattle.meter.proofs.Meter.pass.Goals as goal

pub returns-then-self-t : goal.returns-then-self-t
returns-then-self-t c =
    stops _ _ _ _ _ (plain_stops _ _ _ c.args.new.now _ (⊎_elim (λ p. omega arith) (λ p. omega (arith, p.0, p.1, c.room-room.ensures)) c.then-self-t.either)) c.refuse.ensures

pub returns : goal.returns
returns c =
    lands _ _ _ c.args.new.now _ _ _ (plain_passes _ _ _ c.args.new.now _ (omega (arith, c.room-room.ensures))) refl c.store.ensures
