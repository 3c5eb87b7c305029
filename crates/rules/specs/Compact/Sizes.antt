-- When a value has so many significant bytes.
use Rattle.std.specs.Prelude.{ℕ, suc, ◌*◌, ◌^◌, ◌≤◌, ◌<◌}

-- v has suc n significant bytes
abbrev pub Has : ℕ → ℕ → Type 0
Has v n = (2 ^ (8 * n) ≤ v) × (v < 2 ^ (8 * suc n))
