-- The example of the rules, whose four lines `example` of proofs/Example.antt computes: a table, and two 16-bit numbers.
use Rattle.std.specs.Prelude.{List, [], ◌∷◌, ℕ}

-- 57 54 44 01 00 02 03 02 00 00 0a 00 00 00: a vector of 16-bit numbers
abbrev pub shorts : List ℕ
shorts = 0x57 ∷ 0x54 ∷ 0x44 ∷ 0x01 ∷ 0x00 ∷ 0x02 ∷ 0x03 ∷ 0x02 ∷ 0x00 ∷ 0x00 ∷ 0x0a ∷ 0x00 ∷ 0x00 ∷ 0x00 ∷ []

-- 08 01 00 02 00: 1 and 2
abbrev pub one_and_two : List ℕ
one_and_two = 0x08 ∷ 0x01 ∷ 0x00 ∷ 0x02 ∷ 0x00 ∷ []
