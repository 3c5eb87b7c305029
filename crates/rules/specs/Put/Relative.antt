-- Places are relative: the same answer further on, and the readers that give it.
use Rattle.std.specs.Prelude.{List, ◌≡◌, ℕ, ◌+◌, ◌≤◌, length}
use Rattle.rules.specs.Parser.{Res, got, bad, Parser}
use Rattle.rules.specs.Refusals.{because}

-- the same answer, further on
unfoldable pub shifted : {A : Type 0} → ℕ → Res A → Res A
shifted at (got v n) = got v n
shifted at (bad y) = bad (because y.reason (at + y.place))

-- what is refused stands in the first n places, or right behind them
abbrev pub Within : {A : Type 0} → ℕ → Res A → Type 0
Within n (got v k) = Prim.Unit {0}
Within n (bad y) = y.place ≤ n

-- S is what R is, further on
abbrev pub Moved : {A : Type 0} → ℕ → ℕ → Res A → Res A → Type 0
Moved at n R S = (S ≡ shifted at R) × Within n R

abbrev pub Relative : {A : Type 0} → Parser A → Type 0
Relative p = (at : ℕ) (s : List ℕ) → Moved at (length s) (p 0 s) (p at s)
