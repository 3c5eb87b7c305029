-- Refused by a limit, and refused as short: what larger limits and added bytes can change.
use Rattle.std.specs.Prelude.{Ok, Err}
use Rattle.std.proofs.Math.Path.{◌≡◌}
use Rattle.rules.specs.Refusals.{Refusal, number_of}
use Rattle.rules.specs.Scan.{Scan}
use Rattle.rules.specs.Scan.Barred.{Limit}

-- ---- larger limits

-- a limit refused it
unfoldable pub ByLimit : Scan → Type 0
ByLimit (Ok (u, n)) = ⊥
ByLimit (Err y) = Limit y

-- ---- added bytes

-- refused as short
abbrev pub Short : Scan → Type 0
Short x = (y : Refusal) × (number_of y.reason ≡ 10) × (x ≡ Err y)
