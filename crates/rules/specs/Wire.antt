-- The written rules over bytes. `encode t v` is what is written for a value, and `read t` what stands at the front of a message, with no limit in it.
pub mod Laws
use Rattle.std.specs.Prelude.{Bool, List, ◌++◌, [], ◌∷◌, ℕ, ltb, leb, length, take, replicate}
use Rattle.rules.specs.Refusals.{Refusal, short_at, tag_at, prefix_at, range_at, bit_count_at, max_bits}
use Rattle.rules.specs.Basics.{pick}
use Rattle.rules.specs.Types.{w4, Leaf, unit, bool, opt_bool, fixed, compact, float, size, Ty, Val}
use Rattle.rules.specs.Bytes.{le_value, le_bytes}
use Rattle.rules.specs.Compact.{compact_bytes, Answer, value, short, prefix, range, compact_from}
use Rattle.rules.specs.Bits.{words8, pack, lanes, counted}
use Rattle.rules.specs.Parser.{Res, got, bad, Parser, bind}
use Rattle.rules.specs.Form.{Form, write, Reader, parse}

-- ---- writing

unfoldable pub leaf_bytes : Leaf → ℕ → List ℕ
leaf_bytes unit v = []
leaf_bytes bool v = v ∷ []
leaf_bytes opt_bool v = v ∷ []
leaf_bytes (fixed w) v = le_bytes (size w) v
leaf_bytes (compact w) v = compact_bytes v
leaf_bytes (float w) v = le_bytes (size w) v

-- bits past the last are written as 0
unfoldable pub bits_bytes : List Bool → List ℕ
bits_bytes v = leaf_bytes (compact w4) (length v) ++ pack 8 (words8 (length v)) v

abbrev pub bytes : Form
bytes = record { leaf_out = leaf_bytes; bits_out = bits_bytes }

abbrev pub encode : (t : Ty) → Val t → List ℕ
encode = write bytes

-- How many bits count in each byte of `encode t v`: all 8, but for the last byte of a bit vector. Reading ignores the others.
abbrev pub widths : Form
widths = record {
  leaf_out = λ k v. replicate (length (leaf_bytes k v)) 8;
  bits_out = λ v. replicate (length (leaf_bytes (compact w4) (length v))) 8 ++ counted 8 (words8 (length v)) (length v);
}

-- ---- reading

-- a byte below m
unfoldable pub byte_from : ℕ → Parser ℕ
byte_from m at [] = bad (short_at at)
byte_from m at (b ∷ s) = pick (ltb b m) (got b 1) (bad (tag_at at))

-- what stands in the first n bytes, or the refusal y where they are not all there
unfoldable pub whole : {A : Type 0} → ℕ → Refusal → List ℕ → (List ℕ → Res A) → Res A
whole n y s g = pick (ltb (length s) n) (bad y) (g (take n s))

-- a number of n bytes
unfoldable pub number_from : ℕ → Parser ℕ
number_from n at s = whole n (short_at at) s (λ l. got (le_value l) n)

-- an answer of the compact rule
unfoldable pub placed : ℕ → Answer → Res ℕ
placed at (value v n) = got v n
placed at short = bad (short_at at)
placed at prefix = bad (prefix_at at)
placed at range = bad (range_at at)

unfoldable pub leaf_from : Leaf → Parser ℕ
leaf_from unit at s = got 0 0
leaf_from bool at s = byte_from 2 at s
leaf_from opt_bool at s = byte_from 3 at s
leaf_from (fixed w) at s = number_from (size w) at s
leaf_from (compact w) at s = placed at (compact_from (size w) s)
leaf_from (float w) at s = number_from (size w) at s

-- n bits in the bytes that hold them, of a bit vector that starts at `at`
unfoldable pub lanes_in : ℕ → ℕ → List ℕ → Res (List Bool)
lanes_in n at l = got (lanes 8 n l) (words8 n)

-- the bytes of n bits, of a bit vector that starts at `at`; they start at `from`
unfoldable pub lanes_from : ℕ → ℕ → Parser (List Bool)
lanes_from n at from s = whole (words8 n) (short_at at) s (lanes_in n at)

-- what stands after its head
unfoldable pub bits_body : ℕ → ℕ → Parser (List Bool)
bits_body n at from s = pick (leb n max_bits) (lanes_from n at from s) (bad (bit_count_at at))

unfoldable pub bits_from : Parser (List Bool)
bits_from at s = bind (leaf_from (compact w4)) (λ n. bits_body n at) at s

abbrev pub from_bytes : Reader
from_bytes = record { leaf_in = leaf_from; bits_in = bits_from }

abbrev pub read : (t : Ty) → Parser (Val t)
read = parse from_bytes
