-- The limited reader kind by kind. `pass_at` is a reader at level lv and offset `at`, with the totals so far: its answer, with the offset where it ended, and the cells of the
-- items that it passed.
use Rattle.std.specs.Prelude.{List, ◌++◌, [], ℕ, zero, suc, ◌+◌, ◌-◌, leb, drop, Option, Some, None, Ok, Err}
use Rattle.std.proofs.lemmas.List.Edits.{sets}
use Rattle.rules.specs.Refusals.{Refusal, bit_count_at, max_bits}
use Rattle.rules.specs.Basics.{pick}
use Rattle.rules.specs.Types.{Leaf, Ty}
use Rattle.rules.specs.Parser.{Res, got, bad}
use Rattle.rules.specs.Wire.{leaf_from}
use Rattle.rules.specs.Cells.{leaf_cells}
use Rattle.rules.specs.Trace.{Head, Event, plain, enter, Trace, bits_head, lane_trace, trace}
use Rattle.rules.specs.Scan.{Limits, Totals, Scan, barred, finish, run, cells_of, finished}

pub record Pass : Type 0 where
  pub answer : Scan
  pub cells : List ℕ

-- n bytes more were used
unfoldable pub further : ℕ → Scan → Scan
further n (Ok (u, m)) = Ok (u, n + m)
further n (Err y) = Err y

-- a run along a trace that starts at an offset
unfoldable pub pass_from : Limits → Totals → ℕ → Trace → Pass
pass_from lim st at t = record { answer = further at (run lim st t); cells = finished lim st t }

abbrev pub Passer : Type 0
Passer = ℕ → List ℕ → Totals → Pass

unfoldable pub pass_at : Ty → Limits → ℕ → Passer
pass_at t lim lv at s st = pass_from lim st at (trace t lv at s)

-- nothing was passed
abbrev pub pass_none : Scan → Pass
pass_none x = record { answer = x; cells = [] }

-- the cells l before it
abbrev pub behind : List ℕ → Pass → Pass
behind l p = record { answer = p.answer; cells = l ++ p.cells }

-- go on where the first is done, at the offset where it ended
unfoldable pub then_from : Scan → List ℕ → (Totals → ℕ → Pass) → Pass
then_from (Ok (u, e)) l k = behind l (k u e)
then_from (Err y) l k = record { answer = Err y; cells = l }

abbrev pub and_then : Pass → (Totals → ℕ → Pass) → Pass
and_then p k = then_from p.answer p.cells k

-- what stands behind an item that ended at offset e, of a message that is s from offset `at` on
abbrev pub after : Passer → ℕ → List ℕ → Totals → ℕ → Pass
after p at s u e = p e (drop (e - at) s) u

-- n items
unfoldable pub items : ℕ → Passer → Passer
items zero p at s st = pass_none (Ok (st, at))
items (suc n) p at s st = and_then (p at s st) (after (items n p) at s)

-- an item that no limit bars, then on
unfoldable pub unless_barred : Option Refusal → List ℕ → Pass → Pass
unless_barred (Some y) l p = pass_none (Err y)
unless_barred None l p = behind l p

abbrev pub passing : Limits → Totals → Event → (Totals → Pass) → Pass
passing lim st x k = unless_barred (barred lim st x) (cells_of x) (k (finish st x))

-- cells at an offset, that end at offset e; and a head likewise
unfoldable pub plain_pass : Limits → Totals → ℕ → List ℕ → ℕ → Pass
plain_pass lim st at cs e = passing lim st (plain at cs) (λ u. pass_none (Ok (u, e)))

unfoldable pub entry_pass : Limits → Totals → Head → ℕ → Pass
entry_pass lim st h e = passing lim st (enter h) (λ u. pass_none (Ok (u, e)))

-- the lent cells, with those that a pass leaves in their places: what falls past the end is not written
unfoldable pub landed : List ℕ → Totals → Pass → List ℕ
landed l st p = sets l st.cells p.cells

-- a scalar, a tag or a head that is read at an offset, then its limits, then on from where it ended
unfoldable pub headed : Limits → Totals → ℕ → Res ℕ → (ℕ → Event) → (ℕ → ℕ → Totals → Pass) → Pass
headed lim st at (got v n) x k = passing lim st (x v) (k v (at + n))
headed lim st at (bad y) x k = pass_none (Err y)

-- a scalar or a tag at an offset
unfoldable pub leaf_pass : Leaf → Limits → Passer
leaf_pass k lim at s st = headed lim st at (leaf_from k at s) (λ v. plain at (leaf_cells k v)) (λ v e u. pass_none (Ok (u, e)))

-- the bytes of c bits of a bit vector that starts at `at`, from offset e on
unfoldable pub lanes_at : Limits → ℕ → ℕ → List ℕ → ℕ → Totals → Pass
lanes_at lim c at s e u = pass_from lim u e (lane_trace c at e (drop (e - at) s))

-- a bit vector, after its count
unfoldable pub bits_at : Limits → ℕ → ℕ → List ℕ → Totals → Res ℕ → Pass
bits_at lim lv at s st (bad y) = pass_none (Err y)
bits_at lim lv at s st (got c n) = pick (leb c max_bits) (passing lim st (bits_head lv at c) (lanes_at lim c at s (at + n))) (pass_none (Err (bit_count_at at)))
