-- What the demands say of whole jobs: a value that was written, and an answer that was decided without cells.
use Rattle.std.specs.Prelude.{List, ◌≡◌, ℕ, ◌≤◌, length, Ok}
use Rattle.rules.specs.Types.{Ty, Val, Fits}
use Rattle.rules.specs.Wire.{encode}
use Rattle.rules.specs.Cells.{cells}
use Rattle.rules.specs.Totals.{longest}
use Rattle.rules.specs.Totals.Bound.{AtMost}
use Rattle.rules.specs.Scan.{Limits, Totals, Scan, scan}
use Rattle.rules.specs.Table.{fine, root, check_table}

pub record Wrote (t : Ty) (cs : List ℕ) (room : ℕ) (l : List ℕ) (v : Val t) : Type 0 where
  pub fits : Fits t v
  pub given : cells t v ≡ cs
  pub bytes : l ≡ encode t v
  pub holds : length l ≤ room
  -- every accepted write is at most as long as the longest length, where there is one
  pub most : AtMost (longest t) (length l)

-- an answer that was decided without cells: where it is done, the table is fine and the scan is done so
abbrev pub Decided : List ℕ → List ℕ → Limits → Scan → Type 0
Decided tb s lim r = (u : Totals) (n : ℕ) → r ≡ Ok (u, n) → (check_table tb ≡ fine) × (scan (root tb) lim s ≡ Ok (u, n))
