-- `bit_vec::clear` meets its contract: whole cells have no bit past n, and a cell below 2^(n % 64) has none. Assumes nothing.
use Rattle.std.proofs.Common.{◌≡◌, ◌<◌, ◌*◌, ◌/◌, ◌%◌, ◌^◌, ltb, get_or, ap, sym, ◌∙◌, arith}
use Rattle.std.proofs.Math.Pow.{pow-lt}
use Rattle.rules.specs.Bits.{words64}
use Rattle.rules.proofs.Laws.Bits.Places.{clear_whole, clear_last}
use Rattle.bit_vec.specs.Moves.{clear_cells}
use Rattle.bit_vec.proofs.clear.Goals as goal

pub returns-then-min-whole : goal.returns-then-min-whole
unfolding clear_cells
returns-then-min-whole c =
    let a = c.args in
    sym (clear_whole 64 a.n (words64 a.n) a.cells.now (λ i. (c.type_inv.cells i).fits) (omega arith))

pub returns : goal.returns
unfolding clear_cells
returns c =
    let a = c.args in
    let r = a.n % 64 in
    let p : 2 ^ r < 2 ^ 64 = pow-lt {i = r} {j = 64} (omega arith) in
    let e : 1 * 2 ^ r % 2 ^ 64 ≡ 2 ^ r = omega arith in
    ap (ltb (get_or a.cells.now (a.n / 64) 0)) e
    ∙ sym (clear_last 64 a.n (words64 a.n) a.cells.now (omega arith) (λ i. (c.type_inv.cells i).fits) (omega arith) (omega arith))
