-- The items of a message in reading order, up to its end or to the first item whose bytes are refused: what a limited reader meets, before any limit.
pub mod Sums
pub mod Follows
pub mod Grow
use Rattle.std.specs.Prelude.{List, ℕ, zero, suc, ◌+◌, ◌*◌, leb, drop}
use Rattle.rules.specs.Refusals.{Refusal, bit_count_at, max_bits}
use Rattle.rules.specs.Basics.{pick, choose}
use Rattle.rules.specs.Types.{w4, bool, compact, Ty, leaf, nothing, result, pair, array, vector, bits}
use Rattle.rules.specs.Bits.{words8, words64, pack}
use Rattle.rules.specs.Parser.{Res, got, bad}
use Rattle.rules.specs.Wire.{leaf_from, lanes_from}
use Rattle.rules.specs.Cells.{leaf_cells}
use Rattle.rules.specs.Totals.{foot}

-- what the head of a vector or a bit vector asks of the limits
pub record Head : Type 0 where
  pub place : ℕ
  pub level : ℕ
  pub charge : ℕ
  -- its own cell, the count, and how many cells beyond it it asks room for at once
  pub cell : ℕ
  pub extra : ℕ

pub data Event : Type 0 where
  -- a scalar, a tag, or the bits of a bit vector: its place and its cells
  plain : ℕ → List ℕ → Event
  enter : Head → Event

pub data Trace : Type 0 where
  -- the bytes that were used
  ended : ℕ → Trace
  refused : Refusal → Trace
  item : Event → Trace → Trace

abbrev pub Tracer : Type 0
Tracer = ℕ → List ℕ → Trace

-- n bytes more were used
unfoldable pub longer : ℕ → Trace → Trace
longer n (ended m) = ended (n + m)
longer n (refused y) = refused y
longer n (item e t) = item e (longer n t)

infixl 50 ◌▷◌
unfoldable pub ◌▷◌ : Trace → (ℕ → Trace) → Trace
◌▷◌ (ended n) k = longer n (k n)
◌▷◌ (refused y) k = refused y
◌▷◌ (item e t) k = item e (t ▷ k)

-- one after another
abbrev pub follow : Tracer → Tracer → Tracer
follow p q at s = p at s ▷ (λ n. q (at + n) (drop n s))

unfoldable pub repeat : ℕ → Tracer → Tracer
repeat zero p = λ at s. ended 0
repeat (suc n) p = follow p (repeat n p)

-- the bytes of a scalar, a tag or a head, then on
unfoldable pub on : {A : Type 0} → Res A → (A → ℕ → Trace) → Trace
on (got v n) k = k v n
on (bad y) k = refused y

-- one item of n bytes
abbrev pub step : Event → ℕ → Trace
step e n = item e (ended n)

-- the head of a vector of c items of footprint f, and of a bit vector of c bits, inside lv vectors
abbrev pub vector_head : ℕ → ℕ → ℕ → ℕ → Event
vector_head f lv at c = enter (record { place = at; level = lv + 1; charge = c * f; cell = c; extra = 0 })

abbrev pub bits_head : ℕ → ℕ → ℕ → Event
bits_head lv at c = enter (record { place = at; level = lv + 1; charge = words8 c; cell = c; extra = words64 c })

-- the bytes of c bits, of a bit vector that starts at `at`
unfoldable pub lane_trace : ℕ → ℕ → Tracer
lane_trace c at from s = on (lanes_from c at from s) (λ v n. step (plain at (pack 64 (words64 c) v)) n)

-- the trace of a type at level lv, the number of vectors around it
unfoldable pub trace : Ty → ℕ → Tracer
trace (leaf k) lv at s = on (leaf_from k at s) (λ v n. step (plain at (leaf_cells k v)) n)
trace nothing lv at s = ended 0
trace (result t u) lv at s = on (leaf_from bool at s) (λ b n. step (plain at (leaf_cells bool b)) n ▷ (λ m. choose b (trace t lv) (trace u lv) (at + m) (drop m s)))
trace (pair t u) lv at s = follow (trace t lv) (trace u lv) at s
trace (array n t) lv at s = repeat n (trace t lv) at s
trace (vector t) lv at s = on (leaf_from (compact w4) at s) (λ c n. step (vector_head (foot t) lv at c) n ▷ (λ m. repeat c (trace t (lv + 1)) (at + m) (drop m s)))
trace bits lv at s =
    on (leaf_from (compact w4) at s)
    (λ c n. pick (leb c max_bits) (step (bits_head lv at c) n ▷ (λ m. lane_trace c at (at + m) (drop m s))) (refused (bit_count_at at)))
