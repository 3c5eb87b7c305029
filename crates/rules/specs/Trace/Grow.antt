-- When a trace of a message with bytes added has the same items, or the first ones up to a refusal as short.
use Rattle.std.specs.Prelude.{List, ◌++◌, ◌⊎◌, ℕ}
use Rattle.std.proofs.Math.Path.{◌≡◌}
use Rattle.rules.specs.Refusals.{number_of}
use Rattle.rules.specs.Parser.{Res, got, bad}
use Rattle.rules.specs.Trace.{Trace, ended, refused, item, Tracer}

-- the same, or a refusal 10
unfoldable pub Extends : {A : Type 0} → Res A → Res A → Type 0
Extends (got v n) r = r ≡ got v n
Extends (bad y) r = (number_of y.reason ≡ 10) ⊎ (r ≡ bad y)

-- the same items, or the first up to a refusal 10
unfoldable pub Grown : Trace → Trace → Type 0
Grown (ended n) t = t ≡ ended n
Grown (refused y) t = (number_of y.reason ≡ 10) ⊎ (t ≡ refused y)
Grown (item e t) t' = (u : Trace) × (t' ≡ item e u) × Grown t u

-- a tracer at a message, and at the message with bytes added
abbrev pub Growing : Tracer → Type 0
Growing p = (at : ℕ) (s x : List ℕ) → Grown (p at s) (p at (s ++ x))
