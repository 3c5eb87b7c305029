-- Writing, kind by kind: the bytes of the value that cells say, and how many cells it takes. A writer makes no value.
pub mod Relative
use Rattle.std.specs.Prelude.{List, ◌++◌, ℕ, ◌+◌, length, Ok, Err}
use Rattle.rules.specs.Types.{Leaf, Ty}
use Rattle.rules.specs.Refusals.{Answer}
use Rattle.rules.specs.Parser.{Res, got, bad, Parser, next, map_res}
use Rattle.rules.specs.Wire.{leaf_bytes, encode}
use Rattle.rules.specs.Cells.{leaf_taken, unpack}

-- how far writing got: the index behind the last cell that was taken, and behind the last byte that was put
abbrev pub Put : Type 0
Put = Answer (ℕ × ℕ)

-- the bytes, in place of the value
unfoldable pub put : Ty → Parser (List ℕ)
put t at cs = map_res (encode t) (unpack t at cs)

-- how far writing got, with the first cell at index `at` and the first byte at `pos`
unfoldable pub put_of : ℕ → ℕ → Res (List ℕ) → Put
put_of at pos (got l n) = Ok (at + n, pos + length l)
put_of at pos (bad y) = Err y

-- what f gives of the first, and then the bytes of what follows it
abbrev pub ahead : {A : Type 0} → (A → List ℕ) → (A → ℕ → Res (List ℕ)) → Res A → Res (List ℕ)
ahead f q r = next r (λ v n. map_res (λ l. f v ++ l) (q v n))

abbrev pub put_leaf : Leaf → Parser (List ℕ)
put_leaf k at cs = map_res (leaf_bytes k) (leaf_taken k at cs)
