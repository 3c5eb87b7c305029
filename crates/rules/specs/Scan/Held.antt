-- What a pass that is done says of its numbers: its bytes are there, and its cells are counted and within C.
use Rattle.std.specs.Prelude.{List, ◌≡◌, ℕ, ◌+◌, ◌-◌, ◌≤◌, length}
use Rattle.rules.specs.Scan.{Limits, Totals}

-- a pass that is done
pub record Held (lim : Limits) (st : Totals) (at : ℕ) (s : List ℕ) (cs : List ℕ) (u : Totals) (e : ℕ) : Type 0 where
  pub from : at ≤ e
  pub used : e - at ≤ length s
  pub counted : u.cells ≡ st.cells + length cs
  pub within : u.cells ≤ lim.cells
