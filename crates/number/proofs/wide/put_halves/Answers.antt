use Rattle.std.proofs.Common.{arith}
use Rattle.number.proofs.Parts.{halves_put}
use Rattle.number.proofs.wide.put_halves.Goals as goal

pub returns : goal.returns
returns c =
    halves_put c.args.n _ _ _ _ _ _ (omega (arith, c.well_formed)) (omega arith) (rw c.min.ensures at c.put.ensures)
    (rw (c.saturating_add.ensures, c.saturating_sub.ensures) at c.put-2.ensures)
