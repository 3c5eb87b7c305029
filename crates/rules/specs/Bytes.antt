-- Numbers as bytes, lowest byte first.
use Rattle.std.specs.Prelude.{List, [], ◌∷◌, ℕ, zero, suc, ◌+◌, ◌*◌, ◌/◌, ◌%◌, ◌^◌}
use Rattle.rules.specs.declared.Halves.{Halves}

-- the number that a list of bytes says
unfoldable pub le_value : List ℕ → ℕ
le_value [] = 0
le_value (b ∷ s) = b + 256 * le_value s

-- the lowest n bytes of a number
unfoldable pub le_bytes : ℕ → ℕ → List ℕ
le_bytes zero v = []
le_bytes (suc n) v = v % 256 ∷ le_bytes n (v / 256)

-- a number of 128 bits from its halves, and in them
abbrev pub whole : ℕ → ℕ → ℕ
whole low high = low + high * 2 ^ 64

abbrev pub halves : ℕ → Halves
halves v = record { low = v % 2 ^ 64; high = v / 2 ^ 64 }
