-- What writing back what was read gives.
use Rattle.std.specs.Prelude.{List, ◌≡◌, ℕ, ◌≤◌, length, take}
use Rattle.rules.specs.Types.{Ty, Val, Fits}
use Rattle.rules.specs.Bits.{keep}
use Rattle.rules.specs.Form.{write}
use Rattle.rules.specs.Wire.{encode, widths}

-- what was read is written back, with the bits that don't count cleared: those past n in the last byte of a bit vector
pub record Back (t : Ty) (s : List ℕ) (v : Val t) (n : ℕ) : Type 0 where
  pub there : n ≤ length s
  pub fits : Fits t v
  pub used : length (encode t v) ≡ n
  pub same : encode t v ≡ keep (write widths t v) (take n s)
