-- `put_refused` meets its contract, likewise. Assumes nothing.
use Rattle.std.proofs.Common.{rules}
use Rattle.report.specs.Text.{refused, refused_line}
use Rattle.report.proofs.Writing.{then_two, given_back}
use Rattle.report.proofs.put_refused.Goals as goal

pub returns : goal.returns
unfolding refused_line
returns c =
    let a = c.args in
    given_back (then_two refused a.number a.place 10 c.put.ensures c.two.ensures.adds) (search rules)
