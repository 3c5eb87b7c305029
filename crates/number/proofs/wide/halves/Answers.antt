use Rattle.number.proofs.Parts.{halves_read, narrow_read}
use Rattle.number.proofs.wide.halves.Goals as goal

pub returns-then-n-le8 : goal.returns-then-n-le8
returns-then-n-le8 c = narrow_read c.args.n _ _ c.args.t.now (λ i. (c.type_inv.t i).fits) c.if-n-le8.true c.word.ensures c.from.ensures

pub returns : goal.returns
returns c =
    halves_read c.args.n _ _ c.min-below.result c.args.t.now (λ i. (c.type_inv.t i).fits) (rw c.min.ensures at c.min-below.ensures) c.word-2.ensures
    (rw c.saturating_sub.ensures at c.word-3.ensures)
