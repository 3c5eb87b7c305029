-- When a reader undoes a writer, and the other way round.
use Rattle.std.specs.Prelude.{List, ◌++◌, ℕ, ◌≤◌, take}
use Rattle.std.proofs.Math.Path.{◌≡◌}
use Rattle.std.proofs.Math.ListN.{length}
use Rattle.rules.specs.Basics.{Under}
use Rattle.rules.specs.Parser.{got, Parser}

-- ---- what a reader takes is there

abbrev pub Inside : {A : Type 0} → Parser A → Type 0
Inside p = (at : ℕ) (s : List ℕ) (v : _) (n : ℕ) → p at s ≡ got v n → n ≤ length s

-- ---- a reader reads what was written

abbrev pub Writes : {A : Type 0} → Parser A → A → List ℕ → Type 0
Writes p v l = (at : ℕ) (s : List ℕ) → p at (l ++ s) ≡ got v (length l)

-- ---- what a reader takes is there, and is as P says

abbrev pub Backs : {A : Type 0} → ℕ → (A → List ℕ → Type 0) → Parser A → Type 0
Backs m P p = (at : ℕ) (s : List ℕ) (v : _) (n : ℕ) → Under m s → p at s ≡ got v n → (n ≤ length s) × P v (take n s)
