-- `bit_vec::read` meets its contract: the part of the message that is handed on is as long as the bits ask. Assumes nothing.
use Rattle.std.proofs.Common.{◌≡◌, refl, arith}
use Rattle.rules.specs.Bits.{words8}
use Rattle.rules.specs.Wire.{lanes_in, lanes_from}
use Rattle.rules.proofs.Laws.Wire.{whole_there, whole_short}
use Rattle.bit_vec.specs.Moves.{bits_read, cells_read}
use Rattle.bit_vec.proofs.Words.{numbers_stored}
use Rattle.bit_vec.proofs.read.Goals as goal

pub returns-then-s-used : goal.returns-then-s-used
unfolding bits_read cells_read lanes_from
returns-then-s-used c =
    let a = c.args in
    rw (whole_short (words8 a.n) _ a.s.now (lanes_in a.n a.start) (omega arith)) (record { answers = c.refuse.ensures; writes = refl })

pub returns : goal.returns
unfolding bits_read cells_read lanes_from lanes_in
returns c =
    let a = c.args in
    let used : c.div_ceil-used.result ≡ words8 a.n = omega arith in
    rw (whole_there (words8 a.n) _ a.s.now (lanes_in a.n a.start) (omega arith), ← used)
    (record { answers = refl; writes = numbers_stored 8 64 a.n _ _ a.at _ _ _ (omega arith) c.store.ensures })
