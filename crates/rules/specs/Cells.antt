-- The same over 64-bit cells: `cells t v` are the cells of a value, and `unpack t` takes cells for a value, as writing does, with refusals 20, 21 and 14.
pub mod Laws
use Rattle.std.specs.Prelude.{Bool, true, false, List, [], ◌∷◌, ℕ, ◌+◌, ◌*◌, ◌/◌, ◌%◌, ◌^◌, ltb, leb, length, take}
use Rattle.rules.specs.Refusals.{bit_count_at, cells_end_at, unfit_at, max_bits}
use Rattle.rules.specs.Basics.{pick}
use Rattle.rules.specs.Types.{Width, w1, w2, w4, w8, w16, Leaf, unit, bool, opt_bool, fixed, compact, float, Ty, Val, bound}
use Rattle.rules.specs.Bits.{words64, pack, lanes, clear}
use Rattle.rules.specs.Parser.{got, bad, Parser}
use Rattle.rules.specs.Form.{Form, write, Reader, parse}

-- takes two cells
abbrev pub two : Width → Bool
two w1 = false
two w2 = false
two w4 = false
two w8 = false
two w16 = true

abbrev pub wide : Leaf → Bool
wide unit = false
wide bool = false
wide opt_bool = false
wide (fixed w) = two w
wide (compact w) = two w
wide (float w) = two w

-- the low half first
unfoldable pub leaf_cells : Leaf → ℕ → List ℕ
leaf_cells k v = pick (wide k) (v % 2 ^ 64 ∷ v / 2 ^ 64 ∷ []) (v ∷ [])

unfoldable pub bits_cells : List Bool → List ℕ
bits_cells v = length v ∷ pack 64 (words64 (length v)) v

abbrev pub as_cells : Form
as_cells = record { leaf_out = leaf_cells; bits_out = bits_cells }

abbrev pub cells : (t : Ty) → Val t → List ℕ
cells = write as_cells

-- one cell, below m
unfoldable pub one : ℕ → Parser ℕ
one m at [] = bad (cells_end_at at)
one m at (c ∷ s) = pick (ltb c m) (got c 1) (bad (unfit_at at))

unfoldable pub halves : Parser ℕ
halves at [] = bad (cells_end_at at)
halves at (a ∷ []) = bad (cells_end_at (at + 1))
halves at (a ∷ b ∷ s) = got (a + b * 2 ^ 64) 2

unfoldable pub leaf_taken : Leaf → Parser ℕ
leaf_taken k at s = pick (wide k) (halves at s) (one (bound k) at s)

-- the count, all the cells, and then the bits past n, which stand in the last cell
unfoldable pub bits_taken : Parser (List Bool)
bits_taken at [] = bad (cells_end_at at)
bits_taken at (n ∷ s) =
    pick (leb n max_bits)
    (pick (ltb (length s) (words64 n)) (bad (cells_end_at (at + 1 + length s)))
    (pick (clear 64 n (take (words64 n) s)) (got (lanes 64 n (take (words64 n) s)) (1 + words64 n))
    (bad (unfit_at (at + words64 n)))))
    (bad (bit_count_at at))

abbrev pub from_cells : Reader
from_cells = record { leaf_in = leaf_taken; bits_in = bits_taken }

abbrev pub unpack : (t : Ty) → Parser (Val t)
unpack = parse from_cells
