-- `bit_vec::word_of` meets its contract. The invariant: `value` is what the word's bits say from the one on that has `left` bits of the word before it. Assumes nothing.
use Rattle.std.proofs.Common.{◌≡◌, map}
use Rattle.rules.specs.Bits.{lanes}
use Rattle.rules.specs.Bits.Places.{gathered}
use Rattle.bit_vec.proofs.word_of.Given as goal

abbrev pub invariant-loop-left : goal.invariant-loop-left
invariant-loop-left g l = l.value ≡ gathered g.T.Word.BITS l.first l.left (lanes g.F.Word.BITS l.n (map g.F.Word.value l.from))
