-- What the walkers need of their arguments, and the cells that a walk passes.
use Rattle.std.specs.Prelude.{List, [], ℕ, ◌+◌, ◌^◌, ◌≤◌, ◌<◌, length}
use Rattle.rules.specs.Scan.{scanned}
use Rattle.rules.specs.Table.{count, ty_at, check_table, after_check, root}
use Rattle.rules.specs.Types.{Ty}
use Rattle.rules.specs.declared.Limits.{Limits}
use Rattle.rules.specs.declared.Totals.{Totals}
use Rattle.scan.specs.declared.plan.Plan.{Plan}

-- the type that a node of a plan's table denotes
abbrev pub type_of : Plan → ℕ → Ty
type_of P = ty_at P.checked.table.now

-- a node of the table, which has at most 64, a message whose offsets fit, and limits that the totals keep within
pub record Walkable (P : Plan) (node at : ℕ) (s : List ℕ) (lim : Limits) (st : Totals) : Type 0 where
  pub there : node < count P.checked.table.now
  pub few : node < 64
  pub place : at + length s < 2 ^ 64
  pub within : st.cells ≤ lim.cells
  pub room : lim.cells < 2 ^ 64
  pub depth : lim.depth < 2 ^ 32

-- the cells of the items that a walk passes: none by a table that is refused
unfoldable pub passed_in : List ℕ → Limits → List ℕ → List ℕ
passed_in tb lim s = after_check (check_table tb) (λ _. []) (scanned (root tb) lim s)
