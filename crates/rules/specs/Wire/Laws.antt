-- When what was read is written back but for the bits past n of a bit vector.
use Rattle.std.specs.Prelude.{Bool, List, ℕ, ◌≤◌, ◌<◌, take}
use Rattle.std.proofs.Math.Path.{◌≡◌}
use Rattle.std.proofs.Math.ListN.{length}
use Rattle.rules.specs.Types.{Leaf, bound}
use Rattle.rules.specs.Bits.{words8, pack, lanes, counted}
use Rattle.rules.specs.Bits.Laws.{Like}
use Rattle.rules.specs.Wire.{leaf_bytes}

-- exactly so, at a leaf
abbrev pub Exact : Leaf → ℕ → List ℕ → Type 0
Exact k v l = (v < bound k) × (leaf_bytes k v ≡ l)

-- what it says that n bits were read
pub record Laned (n : ℕ) (s : List ℕ) (v : List Bool) (j : ℕ) : Type 0 where
  pub there : words8 n ≤ length s
  pub bits : lanes 8 n (take (words8 n) s) ≡ v
  pub used : words8 n ≡ j

-- n bits v from the bytes l
abbrev pub Lanes : ℕ → List Bool → List ℕ → Type 0
Lanes n v l = (length v ≡ n) × Like (counted 8 (words8 n) n) (pack 8 (words8 n) v) l
