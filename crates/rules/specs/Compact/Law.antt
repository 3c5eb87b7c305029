-- When bytes open with the one encoding of a value: what THE LAW of compact numbers (`compact_exactly`) is about.
use Rattle.std.specs.Prelude.{true, List, ◌≡◌, length}
use Rattle.std.proofs.Common.{ℕ}
use Rattle.std.proofs.Math.ListN.{take}
use Rattle.rules.specs.Compact.{compact_bytes, fits}

-- s opens with the encoding of v, which has n bytes and fits w
pub record Opens (w v n : ℕ) (s : List ℕ) : Type 0 where
  pub fitting : fits w v ≡ true
  pub used : n ≡ length (compact_bytes v)
  pub bytes : take n s ≡ compact_bytes v
