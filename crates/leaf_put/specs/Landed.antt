-- What putting a leaf or bits answers and leaves.
use Rattle.std.specs.Prelude.{List, ◌≡◌, ℕ}
use Rattle.std.proofs.lemmas.List.Edits.{sets}
use Rattle.rules.specs.Parser.{Res, got, bad}
use Rattle.rules.specs.Put.{Put, put_of}

-- the output afterwards: the bytes from `pos` on, as far as there is room, and what it was where the cells are refused
unfoldable pub landed_of : ℕ → Res (List ℕ) → List ℕ → List ℕ
landed_of pos (got l n) out = sets out pos l
landed_of pos (bad y) out = out

-- how many cells were taken and how many bytes they have, and the output afterwards
pub record Puts (pos : ℕ) (bytes : Res (List ℕ)) (old new : List ℕ) (answer : Put) : Type 0 where
  pub answers : answer ≡ put_of 0 0 bytes
  pub writes : new ≡ landed_of pos bytes old
