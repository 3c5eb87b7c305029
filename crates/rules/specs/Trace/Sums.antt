-- What a trace adds up to, and where it ends; how both go along `▷`.
use Rattle.std.specs.Prelude.{List, ◌++◌, [], ◌∷◌, ℕ, ◌+◌, ◌-◌, max, length}
use Rattle.std.proofs.Math.Path.{◌≡◌}
use Rattle.rules.specs.Parser.{Res, got, bad}
use Rattle.rules.specs.Trace.{Event, plain, enter, Trace, ended, refused, item}

-- the deepest level, the charges, the number of vectors, the room that was asked for and never filled, the cells
pub record Sums : Type 0 where
  pub deep : ℕ
  pub fee : ℕ
  pub vecs : ℕ
  pub extra : ℕ
  pub list : List ℕ

infixl 60 ◌⊕◌
abbrev pub ◌⊕◌ : Sums → Sums → Sums
◌⊕◌ a b = record { deep = max a.deep b.deep; fee = a.fee + b.fee; vecs = a.vecs + b.vecs; extra = max (a.extra - length b.list) b.extra; list = a.list ++ b.list }

abbrev pub nil : Sums
nil = record { deep = 0; fee = 0; vecs = 0; extra = 0; list = [] }

abbrev pub of : Event → Sums
of (plain p cs) = record { deep = 0; fee = 0; vecs = 0; extra = 0; list = cs }
of (enter h) = record { deep = h.level; fee = h.charge; vecs = 1; extra = h.extra; list = h.cell ∷ [] }

unfoldable pub sums : Trace → Sums
sums (ended n) = nil
sums (refused y) = nil
sums (item e t) = of e ⊕ sums t

unfoldable pub ending : Trace → Res (Prim.Unit {0})
ending (ended n) = got tt n
ending (refused y) = bad y
ending (item e t) = ending t

-- A trace follows a reading: it ends as the reading does, and where there is a value v, it adds up from z to h v.
unfoldable pub Traces : {A : Type 0} → Sums → Trace → Res A → (A → Sums) → Type 0
Traces z t (got v n) h = (ending t ≡ got tt n) × (z ⊕ sums t ≡ h v)
Traces z t (bad y) h = ending t ≡ bad y
