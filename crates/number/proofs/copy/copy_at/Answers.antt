use Rattle.std.proofs.Common.{◌≡◌, ◌+◌, ◌-◌, arith}
use Rattle.rules.proofs.Laws.Places.{part_set}
use Rattle.number.proofs.copy.copy_at.Goals as goal

pub returns : goal.returns
returns g c =
    let a = c.args in
    let place = c.min-at.result in
    let n = c.min-n.result in
    let fit : place + n - place ≡ n = omega arith in
    rw (c.copy_from_slice.ensures.after, fit) (part_set a.from.now a.to.now a.at place n (omega arith) (omega arith))
