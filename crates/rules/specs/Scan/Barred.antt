-- When a limit bars an item: exactly if the item does not keep within D, M and C. And when limits are larger.
use Rattle.std.specs.Prelude.{◌⊎◌, ◌≡◌, ◌+◌, ◌≤◌, ◌<◌, length, Option, Some, None}
use Rattle.rules.specs.Refusals.{Refusal, depth_at, memory_at, room_at, number_of}
use Rattle.rules.specs.Trace.{Event, plain, enter}
use Rattle.rules.specs.Scan.{Limits, Totals, sat}

-- the number of a limit
abbrev pub Limit : Refusal → Type 0
Limit y = (number_of y.reason ≡ 15) ⊎ ((number_of y.reason ≡ 16) ⊎ (number_of y.reason ≡ 17))

-- the limits let an item pass
abbrev pub Lets : Limits → Totals → Event → Type 0
Lets lim st (plain p cs) = st.cells + length cs ≤ lim.cells
Lets lim st (enter h) = (h.level ≤ lim.depth) × (sat (st.charge + h.charge) < lim.memory) × (st.cells + (1 + h.extra) ≤ lim.cells)

-- which limit bars an item, and where: the first of depth, memory and cells that it does not keep within
abbrev pub Bars : Limits → Totals → Event → Refusal → Type 0
Bars lim st (plain p cs) y = (lim.cells < st.cells + length cs) × (y ≡ room_at p)
Bars lim st (enter h) y =
    ((lim.depth < h.level) × (y ≡ depth_at h.place))
    ⊎ (((h.level ≤ lim.depth) × (lim.memory ≤ sat (st.charge + h.charge)) × (y ≡ memory_at h.place))
    ⊎ ((h.level ≤ lim.depth) × (sat (st.charge + h.charge) < lim.memory) × (lim.cells < st.cells + (1 + h.extra)) × (y ≡ room_at h.place)))

-- what is said of an answer
abbrev pub Told : Limits → Totals → Event → Option Refusal → Type 0
Told lim st e None = Lets lim st e
Told lim st e (Some y) = Bars lim st e y

pub record Wider (lim lim' : Limits) : Type 0 where
  pub depths : lim.depth ≤ lim'.depth
  pub memories : lim.memory ≤ lim'.memory
  pub rooms : lim.cells ≤ lim'.cells
