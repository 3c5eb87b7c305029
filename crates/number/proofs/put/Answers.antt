use Rattle.std.proofs.Common.{◌+◌, ◌-◌, ◌∙◌, refl, arith}
use Rattle.number.proofs.Bytes.{put_step, put_whole}
use Rattle.number.proofs.put.Goals as goal

pub loop-byte-preserved : goal.loop-byte-preserved
loop-byte-preserved c = put_step _ _ _ _ _ c.loop-byte-test.true refl ∙ c.loop-byte.invariant

pub returns : goal.returns
returns c =
    let a = c.args in
    let turn = c.loop-byte in
    let place = c.min-at.result in
    put_whole turn.byte-index place (place + c.min.result - place) a.at a.n turn.left a.x a.out.now turn.part
    (omega arith) (omega arith) (omega (arith, c.loop-byte-test.false)) turn.auto.part turn.invariant
