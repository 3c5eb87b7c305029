-- DEMAND 3, its sentence: `Accepted` says when a value at the front of a message is accepted under D, M and C, and `answer` what is answered. `Ran` says the same of a trace.
use Rattle.std.specs.Prelude.{List, ◌⊎◌, ℕ, ◌+◌, max, ◌≤◌, ◌<◌, length, Ok, Err}
use Rattle.std.proofs.Math.Path.{◌≡◌}
use Rattle.rules.specs.Types.{Ty, Val}
use Rattle.rules.specs.Parser.{got, bad}
use Rattle.rules.specs.Wire.{read}
use Rattle.rules.specs.Cells.{cells}
use Rattle.rules.specs.Totals.{nesting, charge, vectors}
use Rattle.rules.specs.Trace.{Trace}
use Rattle.rules.specs.Trace.Sums.{Sums, sums, ending}
use Rattle.rules.specs.Scan.{Limits, Totals, Scan}

-- ---- along a trace

pub record Within (lim : Limits) (st : Totals) (a : Sums) : Type 0 where
  pub deep : a.deep ≤ lim.depth
  pub room : st.cells + length a.list ≤ lim.cells
  pub memory : (a.vecs ≡ 0) ⊎ (st.charge + a.fee < lim.memory)

abbrev pub plus : Totals → Sums → Totals
plus st a = record { depth = max st.depth a.deep; charge = st.charge + a.fee; cells = st.cells + length a.list }

-- what the answer of a run says
unfoldable pub Ran : Limits → Totals → Trace → Scan → Type 0
Ran lim st t (Ok (u, n)) = (ending t ≡ got tt n) × Within lim st (sums t) × (u ≡ plus st (sums t))
Ran lim st t (Err y) = (sums t).extra ≡ 0 → Within lim st (sums t) → ending t ≡ bad y

-- ---- at the front of a message

-- a value without vectors reaches no level, and one with them their nesting more than its own
abbrev pub Reached : ℕ → ℕ → ℕ → ℕ → Type 0
Reached lv vs ns r = ((vs ≡ 0) × (ns ≡ 0) × (r ≡ 0)) ⊎ ((0 < vs) × (0 < ns) × (r ≡ lv + ns))

-- the demand's sentence, in the written rule's terms alone
pub record Accepted (t : Ty) (lim : Limits) (s : List ℕ) (v : Val t) (n : ℕ) : Type 0 where
  pub reads : read t 0 s ≡ got v n
  pub nests : nesting t v ≤ lim.depth
  pub fills : length (cells t v) ≤ lim.cells
  pub charges : (vectors t v ≡ 0) ⊎ (charge t v < lim.memory)

-- and the whole answer: the value's nesting, charge and number of cells
abbrev pub answer : (t : Ty) → Val t → Totals
answer t v = record { depth = nesting t v; charge = charge t v; cells = length (cells t v) }
