-- When reading undoes writing, and writing reading, for a form: what is asked of its leaves and bit vectors, and what follows of every type.
use Rattle.std.specs.Prelude.{Bool, length}
use Rattle.std.proofs.Common.{List, ℕ, ◌≤◌, ◌<◌}
use Rattle.rules.specs.Refusals.{max_bits}
use Rattle.rules.specs.Basics.{All, flat}
use Rattle.rules.specs.Types.{Leaf, Ty, Val, bound, Fits}
use Rattle.rules.specs.Bits.Laws.{Like}
use Rattle.rules.specs.Parser.Laws.{Writes, Backs}
use Rattle.rules.specs.Form.{Form, write, Reader}

-- ---- reading what was written

pub record Reads (f : Form) (r : Reader) : Type 0 where
  pub leaf_reads : (k : Leaf) (v : ℕ) → v < bound k → Writes (r.leaf_in k) v (f.leaf_out k v)
  pub bits_reads : (v : List Bool) → length v ≤ max_bits → Writes r.bits_in v (f.bits_out v)

-- ---- writing what was read: `wd` says how many bits count in each unit that is written

pub record Returns (f wd : Form) (r : Reader) (m : ℕ) : Type 0 where
  pub leaf_back : (k : Leaf) → Backs m (λ v l. (v < bound k) × Like (wd.leaf_out k v) (f.leaf_out k v) l) (r.leaf_in k)
  pub bits_back : Backs m (λ v l. (length v ≤ max_bits) × Like (wd.bits_out v) (f.bits_out v) l) r.bits_in

-- a value v that was read from l
abbrev pub From : Form → Form → (t : Ty) → Val t → List ℕ → Type 0
From f wd t v l = Fits t v × Like (write wd t v) (write f t v) l

abbrev pub FromAll : Form → Form → (t : Ty) → List (Val t) → List ℕ → Type 0
FromAll f wd t v l = All (Fits t) v × Like (flat (write wd t) v) (flat (write f t) v) l
