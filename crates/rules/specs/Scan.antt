-- The limited reader: it goes along the trace, and stops at the first item that a limit or the bytes refuse. Its state has numbers only, as the code's has;
-- `finished` are the cells of the items that it passed.
pub mod Pass
pub mod Barred
pub mod Accept
pub mod Steady
pub mod Refuse
pub mod Held
pub mod Units
pub mod Single
pub mod Landing
use Rattle.std.specs.Prelude.{List, ◌++◌, [], ◌∷◌, ℕ, ◌+◌, ◌-◌, ◌^◌, max, min, ltb, leb, length, Option, Some, None, Ok, Err}
use Rattle.rules.specs.Refusals.{Refusal, Answer, depth_at, memory_at, room_at, bytes_left_at}
use Rattle.rules.specs.Basics.{pick}
use Rattle.rules.specs.Types.{Ty}
use Rattle.rules.specs.Trace.{Event, plain, enter, Trace, ended, refused, item, trace}
pub use Rattle.rules.specs.declared.Limits.{Limits}
pub use Rattle.rules.specs.declared.Totals.{Totals}

-- what a scan answers: what was met, and where it ended
abbrev pub Scan : Type 0
Scan = Answer (Totals × ℕ)

-- sums saturate at 2^64 - 1
abbrev pub sat : ℕ → ℕ
sat n = min n (2 ^ 64 - 1)

-- the limit that bars an item, in their order
unfoldable pub barred : Limits → Totals → Event → Option Refusal
barred lim st (plain p cs) = pick (ltb lim.cells (st.cells + length cs)) (Some (room_at p)) None
barred lim st (enter h) =
    pick (ltb lim.depth h.level) (Some (depth_at h.place))
    (pick (leb lim.memory (sat (st.charge + h.charge))) (Some (memory_at h.place))
    (pick (ltb lim.cells (st.cells + (1 + h.extra))) (Some (room_at h.place)) None))

-- the refusal, where there is one
unfoldable pub unless : Option Refusal → Scan → Scan
unless (Some y) x = Err y
unless None x = x

unfoldable pub finish : Totals → Event → Totals
finish st (plain p cs) = record { depth = st.depth; charge = st.charge; cells = st.cells + length cs }
finish st (enter h) = record { depth = max st.depth h.level; charge = sat (st.charge + h.charge); cells = st.cells + 1 }

unfoldable pub run : Limits → Totals → Trace → Scan
run lim st (ended n) = Ok (st, n)
run lim st (refused y) = Err y
run lim st (item e t) = unless (barred lim st e) (run lim (finish st e) t)

abbrev pub start : Totals
start = record { depth = 0; charge = 0; cells = 0 }

-- ---- the cells of the items that were passed, at the end or at a refusal

abbrev pub cells_of : Event → List ℕ
cells_of (plain p cs) = cs
cells_of (enter h) = h.cell ∷ []

-- where no limit bars an item
unfoldable pub kept : Option Refusal → List ℕ → List ℕ
kept (Some y) l = []
kept None l = l

unfoldable pub finished : Limits → Totals → Trace → List ℕ
finished lim st (ended n) = []
finished lim st (refused y) = []
finished lim st (item e t) = kept (barred lim st e) (cells_of e ++ finished lim (finish st e) t)

-- ---- a value at the front of a message, and a message that it must fill: bytes left over are 18, last

unfoldable pub scan : Ty → Limits → List ℕ → Scan
scan t lim s = run lim start (trace t 0 0 s)

unfoldable pub scanned : Ty → Limits → List ℕ → List ℕ
scanned t lim s = finished lim start (trace t 0 0 s)

unfoldable pub filling : List ℕ → Scan → Scan
filling s (Ok (st, n)) = pick (ltb n (length s)) (Err (bytes_left_at n)) (Ok (st, n))
filling s (Err y) = Err y

unfoldable pub scan_all : Ty → Limits → List ℕ → Scan
scan_all t lim s = filling s (scan t lim s)
