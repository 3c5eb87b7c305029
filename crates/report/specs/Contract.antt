-- What the contracts of the public functions say, for a text: r is the answer, l the lent memory and m what it is afterwards.
use Rattle.std.specs.Prelude.{List, ◌≡◌, ℕ, length}
use Rattle.std.proofs.lemmas.List.Edits.{sets}

pub record Contract (text l : List ℕ) (r : ℕ) (m : List ℕ) : Type 0 where
  pub answers : r ≡ length text
  pub writes : m ≡ sets l 0 text
