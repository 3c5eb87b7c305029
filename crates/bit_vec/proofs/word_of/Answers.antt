use Rattle.std.proofs.Common.{◌∙◌, arith}
use Rattle.rules.proofs.Laws.Bits.Places.{gathered_all, gathered_lt}
use Rattle.bit_vec.proofs.Words.{word_there, no_bit, bit_more}
use Rattle.bit_vec.proofs.word_of.Goals as goal

pub loop-left-init : goal.loop-left-init
loop-left-init g c = no_bit _ _ _ _ _ _ _ c.requires.all_there (omega arith)

pub bounds-from-i : goal.bounds-from-i
bounds-from-i g c = rw c.BITS-in-loop-left.ensures (word_there _ _ _ _ g.met.F.Word.some_bits c.requires.all_there (omega arith))

pub overflow_mul-value : goal.overflow_mul-value
overflow_mul-value g c = omega (arith, gathered_lt _ _ _ 63 _ _ c.loop-left.invariant (omega (arith, g.met.T.Word.at_most_64)))

pub overflow_add-value : goal.overflow_add-value
overflow_add-value g c = omega (arith, gathered_lt _ _ _ 63 _ _ c.loop-left.invariant (omega (arith, g.met.T.Word.at_most_64)))

pub loop-left-preserved : goal.loop-left-preserved
loop-left-preserved g c =
    let turn = c.loop-left in
    let y = rw (c.BITS-in-loop-left-2.ensures, c.number.ensures.value) at c.bit.ensures in
    let word = rw c.BITS-in-loop-left.ensures at c.index-from-i.is in
    bit_more _ _ _ _ _ _ _ _ _ _ g.met.F.Word.some_bits c.requires.all_there c.loop-left-test.true (omega arith) turn.invariant word y

pub from_number-requires : goal.from_number-requires
from_number-requires g c = gathered_lt _ _ _ _ _ _ c.loop-left.invariant (omega arith)

pub returns : goal.returns
returns g c = rw c.BITS.ensures at (c.from_number.ensures ∙ c.loop-left.invariant ∙ gathered_all _ _ _ _ c.loop-left-test.false)
