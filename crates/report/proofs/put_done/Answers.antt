-- `put_done` meets its contract: each part ends where the next begins. Assumes nothing.
use Rattle.std.proofs.Common.{◌++◌, rules}
use Rattle.report.specs.Text.{spaced, ok, ok_line}
use Rattle.report.proofs.Writing.{then, then_two, given_back}
use Rattle.report.proofs.put_done.Goals as goal

pub returns : goal.returns
unfolding ok_line
returns c =
    let n = c.args.used in
    let u = c.args.totals in
    let two = then_two ok n u.cells 32 c.put.ensures c.two.ensures.adds in
    given_back (then (then_two ((ok ++ spaced n) ++ spaced u.cells) u.charge u.depth 10 two c.two-2.ensures.adds) c.cells.ensures) (search rules)
