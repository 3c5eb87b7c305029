-- What moving n bits answers and what it leaves: from the bytes of a message into 64-bit cells, and from cells into bytes. Nothing moves where the words that
-- should hold the bits are not all there, and `sets` leaves out what falls past the end of a list.
use Rattle.std.specs.Prelude.{Bool, List, ℕ, ltb, length, take, Option, Some, None, Ok, Err}
use Rattle.std.proofs.lemmas.List.Edits.{sets}
use Rattle.rules.specs.Basics.{pick}
use Rattle.rules.specs.Bits.{words8, words64, pack, lanes, clear}
use Rattle.rules.specs.Parser.{Res, got, bad}
use Rattle.rules.specs.Refusals.{Answer}
use Rattle.rules.specs.Wire.{lanes_from}

-- how many bytes were read
abbrev pub moved : Res (List Bool) → Answer ℕ
moved (got v k) = Ok k
moved (bad y) = Err y

abbrev pub stored : ℕ → List ℕ → ℕ → Res (List Bool) → List ℕ
stored n cells at (got v k) = sets cells at (pack 64 (words64 n) v)
stored n cells at (bad y) = cells

-- (the place where the bits' own bytes start plays no part)
unfoldable pub bits_read : ℕ → ℕ → List ℕ → Answer ℕ
bits_read n start s = moved (lanes_from n start start s)

unfoldable pub cells_read : ℕ → ℕ → List ℕ → List ℕ → ℕ → List ℕ
cells_read n start s cells at = stored n cells at (lanes_from n start start s)

unfoldable pub bits_written : ℕ → List ℕ → Option ℕ
bits_written n cells = pick (ltb (length cells) (words64 n)) None (Some (words8 n))

unfoldable pub bytes_written : ℕ → List ℕ → List ℕ → ℕ → List ℕ
bytes_written n cells out at = pick (ltb (length cells) (words64 n)) out (sets out at (pack 8 (words8 n) (lanes 64 n (take (words64 n) cells))))

-- no bit past n is set in the cells that hold n bits
unfoldable pub clear_cells : ℕ → List ℕ → Bool
clear_cells n cells = clear 64 n (take (words64 n) cells)
