-- A bound, where there is a longest length.
use Rattle.std.specs.Prelude.{ℕ, ◌*◌, ◌≤◌, Option, Some, None}

-- at most the bound, where there is one
abbrev pub AtMost : Option ℕ → ℕ → Type 0
AtMost None l = Prim.Unit {0}
AtMost (Some m) l = l ≤ m

-- the bound, as a number where there is a longest length
abbrev pub Twice : Option ℕ → ℕ → Type 0
Twice None f = Prim.Unit {0}
Twice (Some m) f = m ≤ 2 * f
