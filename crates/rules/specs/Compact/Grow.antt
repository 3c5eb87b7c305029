-- The reading of a compact number with bytes added.
use Rattle.std.specs.Prelude.{◌⊎◌, ◌≡◌}
use Rattle.rules.specs.Compact.{Answer, short}

-- the same, or short
abbrev pub Grows : Answer → Answer → Type 0
Grows a b = (a ≡ short) ⊎ (a ≡ b)
