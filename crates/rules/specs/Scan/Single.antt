-- One item under the limits, for the code that passes scalars, heads and units.
use Rattle.std.specs.Prelude.{Bool, ◌≡◌, Ok, Err}
use Rattle.std.proofs.Common.{List, [], ◌∷◌, ℕ, ◌+◌, max}
use Rattle.rules.specs.Bits.{words64, pack}
use Rattle.rules.specs.Parser.{Res, got, bad}
use Rattle.rules.specs.Wire.{lanes_from}
use Rattle.rules.specs.Trace.{Head, enter}
use Rattle.rules.specs.Scan.{Limits, Totals, sat}
use Rattle.rules.specs.Scan.Pass.{Pass, pass_none, behind, passing, entry_pass}
use Rattle.rules.specs.Scan.Barred.{Lets}
use Rattle.rules.specs.Scan.Units.{plus_cells}

-- the totals behind a head
abbrev pub entered : Totals → Head → Totals
entered st h = record { depth = max st.depth h.level; charge = sat (st.charge + h.charge); cells = st.cells + 1 }

-- what follows a head: where a limit bars it nothing, and else what goes on from its totals
pub record Entering (lim : Limits) (st : Totals) (h : Head) (e : ℕ) (u : Totals) (e' : ℕ) : Type 0 where
  pub lets : Lets lim st (enter h)
  pub totals : u ≡ entered st h
  pub place : e' ≡ e
  pub cells : (entry_pass lim st h e).cells ≡ h.cell ∷ []
  pub goes : (f : Totals → Pass) → passing lim st (enter h) f ≡ behind (h.cell ∷ []) (f u)

-- the bytes of n bits behind a head that asked for their room: their cells, or why they are refused
unfoldable pub lanes_done : ℕ → ℕ → Totals → Res (List Bool) → Pass
lanes_done n e u (got v k) = record { answer = Ok (plus_cells u (words64 n), e + k); cells = pack 64 (words64 n) v }
lanes_done n e u (bad y) = pass_none (Err y)

unfoldable pub lanes_pass : ℕ → ℕ → ℕ → List ℕ → Totals → Pass
lanes_pass n at e s u = lanes_done n e u (lanes_from n at e s)
