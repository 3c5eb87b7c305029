-- When a type's trace follows its reader, and what a value adds to the sums.
use Rattle.std.specs.Prelude.{List, ℕ, ◌+◌, max}
use Rattle.std.proofs.Common.{inl, inr}
use Rattle.rules.specs.Basics.{flat, total, highest}
use Rattle.rules.specs.Types.{Ty, leaf, nothing, result, pair, array, vector, bits, Val}
use Rattle.rules.specs.Wire.{read}
use Rattle.rules.specs.Cells.{cells}
use Rattle.rules.specs.Totals.{charge, vectors}
use Rattle.rules.specs.Trace.{trace}
use Rattle.rules.specs.Trace.Sums.{Sums, ◌⊕◌, Traces}

-- the deepest level that a value at level lv reaches, or 0 where it has no vector
unfoldable pub reach : (t : Ty) → ℕ → Val t → ℕ
reach (leaf k) lv v = 0
reach nothing lv v = 0
reach (result t u) lv (inl v) = reach t lv v
reach (result t u) lv (inr v) = reach u lv v
reach (pair t u) lv v = max (reach t lv v.0) (reach u lv v.1)
reach (array n t) lv v = highest (reach t lv) v
reach (vector t) lv v = max (lv + 1) (highest (reach t (lv + 1)) v)
reach bits lv v = lv + 1

-- what a value adds
abbrev pub sums_of : (t : Ty) → ℕ → Val t → Sums
sums_of t lv v = record { deep = reach t lv v; fee = charge t v; vecs = vectors t v; extra = 0; list = cells t v }

abbrev pub sums_all : (t : Ty) → ℕ → List (Val t) → Sums
sums_all t lv v = record { deep = highest (reach t lv) v; fee = total (charge t) v; vecs = total (vectors t) v; extra = 0; list = flat (cells t) v }

-- a tracer follows a reader at level lv
abbrev pub Along : (t : Ty) → ℕ → Type 0
Along t lv = (at : ℕ) (s : List ℕ) (z : Sums) → Traces z (trace t lv at s) (read t at s) (λ v. z ⊕ sums_of t lv v)
