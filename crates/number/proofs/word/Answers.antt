-- `number::word` meets its contract: std reads eight bytes, and what was not asked for is taken off; or the bytes that are there, and zeros. Assumes nothing.
use Rattle.std.proofs.Common.{arith}
use Rattle.number.proofs.Bytes.{word_value, eight_value}
use Rattle.number.proofs.word.Goals as goal

pub returns : goal.returns
returns c = word_value c.args.n c.min-n.result _ c.args.t.now c.copy_from_slice.new.self (omega arith) c.copy_from_slice.ensures.after c.from_le_bytes-2.ensures

pub returns-in-Some : goal.returns-in-Some
returns-in-Some c = eight_value c.args.n _ _ c.args.t.now c.in-Some.eight.now (λ i. (c.type_inv.t i).fits) c.in-Some.ensures.cases.enough c.in-Some.ensures.cases.same c.from_le_bytes.ensures c.lowest.ensures
