-- Types of footprint 0, which are units and pairs and arrays of them, take no bytes. So what a reader meets there is known from the number of their cells, without a
-- walk: either all of them are passed, or as many as there is room for.
use Rattle.std.specs.Prelude.{List, ℕ, ◌+◌, ◌-◌, min, ltb, replicate, Ok, Err}
use Rattle.rules.specs.Refusals.{room_at}
use Rattle.rules.specs.Basics.{pick}
use Rattle.rules.specs.Scan.{Limits, Totals}
use Rattle.rules.specs.Scan.Pass.{Pass}

-- m more cells
abbrev pub plus_cells : Totals → ℕ → Totals
plus_cells st m = record { depth = st.depth; charge = st.charge; cells = st.cells + m }

-- n zeros
abbrev pub zeros : ℕ → List ℕ
zeros n = replicate n 0

-- m units at an offset
unfoldable pub units_at : Limits → Totals → ℕ → ℕ → Pass
units_at lim st at m = record {
  answer = pick (ltb lim.cells (st.cells + m)) (Err (room_at at)) (Ok (plus_cells st m, at));
  cells = zeros (min m (lim.cells - st.cells));
}
