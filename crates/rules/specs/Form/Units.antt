-- The types whose units a law holds of: those with no bit vector in them, or any.
use Rattle.rules.specs.Types.{Ty, leaf, nothing, result, pair, array, vector, bits}

-- a type with no bit vector in it, for B = ⊥, and any type, for B = Unit
abbrev pub Over : Type 0 → Ty → Type 0
Over B (leaf k) = Prim.Unit {0}
Over B nothing = Prim.Unit {0}
Over B (result t u) = Over B t × Over B u
Over B (pair t u) = Over B t × Over B u
Over B (array n t) = Over B t
Over B (vector t) = Over B t
Over B bits = B
