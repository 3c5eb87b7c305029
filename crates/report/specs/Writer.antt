-- What the writer's methods do, and the text of one.
use Rattle.std.specs.Prelude.{List, ◌++◌, [], ◌∷◌, ◌≡◌, ℕ, ◌+◌, length}
use Rattle.std.proofs.lemmas.List.Edits.{sets}
use Rattle.report.specs.declared.Writer.{Writer}
use Rattle.report.specs.Text.{decimal}

-- w is v with a text put behind its own, as far as the lent memory goes, which is the same
pub record Adds (text : List ℕ) (v w : Writer) : Type 0 where
  pub ends : w.end ≡ v.end + length text
  pub holds : w.out.now ≡ sets v.out.now v.end text
  pub same_memory : w.out.ghost_name ≡ v.out.ghost_name

-- n in decimal, and a byte behind it
abbrev pub ended : ℕ → ℕ → List ℕ
ended n last = decimal n ++ (last ∷ [])
