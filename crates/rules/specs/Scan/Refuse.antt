-- Why a scan is refused: by a limit, at the first item that it bars, or by the written rule, where the limits let every item pass.
use Rattle.std.specs.Prelude.{List, ◌⊎◌, ◌≡◌, ℕ}
use Rattle.rules.specs.Refusals.{Refusal}
use Rattle.rules.specs.Types.{Ty}
use Rattle.rules.specs.Parser.{bad}
use Rattle.rules.specs.Wire.{read}
use Rattle.rules.specs.Trace.{Event, Trace, ended, refused, item, trace}
use Rattle.rules.specs.Trace.Sums.{ending}
use Rattle.rules.specs.Scan.{Limits, Totals, finish, start}
use Rattle.rules.specs.Scan.Barred.{Lets, Bars}

-- a run gets to item e, with totals u: the limits let all items before it pass
abbrev pub Meets : Limits → Totals → Trace → Totals → Event → Type 0
Meets lim st (ended n) u e = ⊥
Meets lim st (refused y) u e = ⊥
Meets lim st (item f t) u e = ((st ≡ u) × (f ≡ e)) ⊎ (Lets lim st f × Meets lim (finish st f) t u e)

-- .. and to the end
abbrev pub Through : Limits → Totals → Trace → Type 0
Through lim st (ended n) = Prim.Unit {0}
Through lim st (refused y) = Prim.Unit {0}
Through lim st (item f t) = Lets lim st f × Through lim (finish st f) t

pub data Stops (lim : Limits) (st : Totals) (t : Trace) (y : Refusal) : Type 0 where
  barring : (u : Totals) (e : Event) → Meets lim st t u e → Bars lim u e y → Stops lim st t y
  ruling : Through lim st t → ending t ≡ bad y → Stops lim st t y

-- the same of a scan
pub data Refuses (t : Ty) (lim : Limits) (s : List ℕ) (y : Refusal) : Type 0 where
  by_limit : (u : Totals) (e : Event) → Meets lim start (trace t 0 0 s) u e → Bars lim u e y → Refuses t lim s y
  by_rule : Through lim start (trace t 0 0 s) → read t 0 s ≡ bad y → Refuses t lim s y
