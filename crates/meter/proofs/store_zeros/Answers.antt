use Rattle.std.proofs.Common.{◌≡◌, ◌+◌, ◌-◌, arith, length-take-le, length-drop, drop, replicate}
use Rattle.meter.proofs.Stores.{zeros_filled}
use Rattle.meter.proofs.store_zeros.Goals as goal

pub returns : goal.returns
returns c =
    let a = c.args in
    let place = c.min-at.result in
    let n = c.min-n.result in
    let fit : place + n - place ≡ n = omega arith in
    let zeros : c.fill.new.self ≡ replicate _ 0 = c.fill.ensures.after (λ y e. e) in
    rw (zeros, fit, length-take-le n (drop place a.cells.now) (omega (arith, length-drop place a.cells.now))) (zeros_filled a.n a.at place n a.cells.now c.min-at.ensures c.min-n.ensures)
