-- Bits in words, over the width of a word: a word gathered from its last bit to its first, and words stored one after another.
use Rattle.std.specs.Prelude.{Bool, List, ℕ, ◌+◌, ◌-◌, ◌*◌, drop, take}
use Rattle.std.proofs.lemmas.List.Edits.{sets}
use Rattle.rules.specs.Bits.{bits_value, pack}

-- ---- a word gathered from its last bit to its first

-- of the word of w bits that starts at bit `from`: what its bits say from the one on that has `left` bits of the word before it
unfoldable pub gathered : ℕ → ℕ → ℕ → List Bool → ℕ
gathered w from left v = bits_value (take (w - left) (drop (from + left) v))

-- ---- words stored one after another

-- a list after the words from word j on are stored, where the place of word 0 is `at`
unfoldable pub stored : ℕ → ℕ → List Bool → ℕ → ℕ → List ℕ → List ℕ
stored w k v at j out = sets out (at + j) (pack w (k - j) (drop (j * w) v))
