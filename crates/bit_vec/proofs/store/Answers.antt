use Rattle.std.proofs.Common.{arith}
use Rattle.rules.proofs.Laws.Bits.Places.{stored_all}
use Rattle.bit_vec.proofs.Words.{word_more, words_done}
use Rattle.bit_vec.proofs.store.Goals as goal

pub loop-j-init : goal.loop-j-init
loop-j-init g c = stored_all _ _ _ _ _

pub loop-j-preserved : goal.loop-j-preserved
loop-j-preserved g c =
    let count = rw c.BITS.ensures at c.div_ceil.ensures in
    word_more g.T.Word.value _ _ _ _ _ _ _ _ (omega (arith, count)) c.word_of.ensures c.loop-j.invariant

pub returns : goal.returns
returns g c =
    let count = rw c.BITS.ensures at c.div_ceil.ensures in
    words_done g.T.Word.value _ _ _ _ c.loop-j.j _ _ (omega (arith, count)) c.loop-j.invariant
