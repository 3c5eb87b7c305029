-- Bits in words of w bits, lowest bit first: the bytes of a bit vector are words of 8 bits and its cells words of 64, by the same definitions.
pub mod Laws
pub mod Places
use Rattle.std.specs.Prelude.{Bool, true, false, ◌&&◌, List, ◌++◌, [], ◌∷◌, ℕ, zero, suc, ◌+◌, ◌-◌, ◌*◌, ◌/◌, ◌%◌, ◌^◌, min, ltb, eqb, drop, take}

abbrev pub bit : Bool → ℕ
bit true = 1
bit false = 0

-- the number that bits say
unfoldable pub bits_value : List Bool → ℕ
bits_value [] = 0
bits_value (b ∷ v) = bit b + 2 * bits_value v

-- the lowest w bits of a number
unfoldable pub digits : ℕ → ℕ → List Bool
digits zero c = []
digits (suc w) c = eqb (c % 2) 1 ∷ digits w (c / 2)

-- how many words of 8 and of 64 bits hold n bits
abbrev pub words8 : ℕ → ℕ
words8 n = (n + 7) / 8

abbrev pub words64 : ℕ → ℕ
words64 n = (n + 63) / 64

-- bits in k words of w, bits past the last 0
unfoldable pub pack : ℕ → ℕ → List Bool → List ℕ
pack w zero v = []
pack w (suc k) v = bits_value (take w v) ∷ pack w k (drop w v)

-- the first n bits of words of w
unfoldable pub lanes : ℕ → ℕ → List ℕ → List Bool
lanes w n [] = []
lanes w n (c ∷ cs) = digits (min w n) c ++ lanes w (n - w) cs

-- no bit past n is set
unfoldable pub clear : ℕ → ℕ → List ℕ → Bool
clear w n [] = true
clear w n (c ∷ cs) = ltb c (2 ^ min w n) && clear w (n - w) cs

-- how many bits count in each of k words
unfoldable pub counted : ℕ → ℕ → ℕ → List ℕ
counted w zero n = []
counted w (suc k) n = min w n ∷ counted w k (n - w)

-- words with the bits that don't count cleared: of each the lowest so many bits are kept
abbrev pub keep : List ℕ → List ℕ → List ℕ
keep [] l = []
keep (k ∷ ks) [] = []
keep (k ∷ ks) (c ∷ l) = c % 2 ^ k ∷ keep ks l
