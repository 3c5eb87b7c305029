-- `bit_vec::store` meets its contract. The invariant: storing the words that are left, from here on, gives what storing all would have given. Assumes nothing.
use Rattle.std.proofs.Common.{◌≡◌, map}
use Rattle.std.specs.Int.{div_ceil}
use Rattle.std.proofs.lemmas.List.Edits.{sets}
use Rattle.rules.specs.Bits.{pack, lanes}
use Rattle.rules.specs.Bits.Places.{stored}
use Rattle.bit_vec.proofs.store.Given as goal

abbrev pub invariant-loop-j : goal.invariant-loop-j
invariant-loop-j g l =
    let w = g.T.Word.BITS in
    let bits = lanes g.F.Word.BITS l.n (map g.F.Word.value l.from) in
    let k = div_ceil l.n w in
    stored w k bits l.at l.j (map g.T.Word.value l.to) ≡ sets (map g.T.Word.value l.initial.to) l.at (pack w k bits)
