-- `bit_vec::write` meets its contract: the cells that are handed on are as many as the bits ask. Assumes nothing.
use Rattle.std.proofs.Common.{◌≡◌, refl, ap, length, arith, lt-ltb, le-ltb}
use Rattle.rules.specs.Bits.{words64}
use Rattle.std.specs.Prelude.{Some}
use Rattle.bit_vec.specs.Moves.{bits_written, bytes_written}
use Rattle.bit_vec.proofs.Words.{numbers_stored}
use Rattle.bit_vec.proofs.write.Goals as goal

pub returns-then-cells-used : goal.returns-then-cells-used
unfolding bits_written bytes_written
returns-then-cells-used c =
    let a = c.args in
    rw (lt-ltb (length a.cells.now) (words64 a.n) (omega arith)) (record { answers = refl; writes = refl })

pub returns : goal.returns
unfolding bits_written bytes_written
returns c =
    let a = c.args in
    let used : c.div_ceil-used.result ≡ words64 a.n = omega arith in
    rw (le-ltb (length a.cells.now) (words64 a.n) (omega arith), ← used)
    (record { answers = ap Some (omega arith); writes = numbers_stored 64 8 a.n _ _ a.at _ _ _ (omega arith) c.store.ensures })
