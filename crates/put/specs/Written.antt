-- What the writer's parts answer and leave, and what they need.
use Rattle.std.specs.Prelude.{List, ◌≡◌, ℕ, ◌+◌, ◌*◌, ◌^◌, ◌<◌, length, Ok, Err}
use Rattle.std.proofs.lemmas.List.Edits.{sets}
use Rattle.rules.specs.Basics.{Under}
use Rattle.rules.specs.Jobs.{Output, write_cells, of_vector, write_items}
use Rattle.rules.specs.Parser.{Res, got, bad}
use Rattle.rules.specs.Put.{Put, put, put_of}
use Rattle.rules.specs.Refusals.{because, append_root}
use Rattle.rules.specs.Table.{count, root, check_table, after_check}
use Rattle.rules.specs.Types.{Ty, array}
pub use Rattle.put.specs.declared.Part.{Part}
pub use Rattle.put.specs.declared.Part.TheVariants.{Root as whole_root, Items as root_items}

-- the output afterwards: the bytes from `pos` on, as far as there is room; nothing is said where the cells are refused, which is decided with no output
abbrev pub Landed : ℕ → Res (List ℕ) → List ℕ → List ℕ → Type 0
Landed pos (got l n) out later = later ≡ sets out pos l
Landed pos (bad y) out later = Prim.Unit {0}

-- what a writer of bytes answers and leaves, where the first cell is at index `at` and the first byte at `pos`
pub record PutsAt (at pos : ℕ) (bytes : Res (List ℕ)) (old new : List ℕ) (answer : Put) : Type 0 where
  pub answers : answer ≡ put_of at pos bytes
  pub writes : Landed pos bytes old new

-- an answer that counts from a value's own first cell and byte, where these are at `at` and `pos`; and that its numbers fit there
unfoldable pub placed_of : ℕ → ℕ → Put → Put
placed_of at pos (Ok (n, used)) = Ok (at + n, pos + used)
placed_of at pos (Err y) = Err (because y.reason (at + y.place))

abbrev pub Placeable : ℕ → ℕ → Put → Type 0
Placeable at pos (Ok (n, used)) = (at + n < 2 ^ 64) × (pos + used < 2 ^ 64)
Placeable at pos (Err y) = at + y.place < 2 ^ 64

-- 64-bit cells, with indices of cells and bytes that fit: each cell gives at most nine bytes
pub record Spare (at : ℕ) (cs : List ℕ) (pos : ℕ) : Type 0 where
  pub words : Under (2 ^ 64) cs
  pub taking : at + length cs < 2 ^ 60
  pub putting : pos + 9 * length cs < 2 ^ 64

-- a node of a table, with such indices
pub record Puttable (tb : List ℕ) (node at : ℕ) (cs : List ℕ) (pos : ℕ) : Type 0 where
  pub there : node < count tb
  pub spare : Spare at cs pos

-- ---- the jobs

-- the bytes of a part, for a root t
abbrev pub part_put : Part → Ty → List ℕ → Res (List ℕ)
part_put whole_root t cs = put t 0 cs
part_put (root_items k) t cs = of_vector (λ u. put (array k u) 0 cs) (bad append_root) t

-- by a table, which is checked first
unfoldable pub part_in : Part → List ℕ → List ℕ → Res (List ℕ)
part_in part tb cs = after_check (check_table tb) bad (part_put part (root tb) cs)

-- writing it
abbrev pub part_out : Part → List ℕ → List ℕ → ℕ → Output
part_out whole_root tb cs room = write_cells tb cs room
part_out (root_items k) tb cs room = write_items tb k cs room
