-- For the proofs of code: what a function that passes one item has to show.
use Rattle.std.specs.Prelude.{List, ◌≡◌, ℕ}
use Rattle.rules.specs.Scan.Pass.{Pass, landed}
use Rattle.rules.specs.Scan.{Scan}
use Rattle.rules.specs.declared.Totals.{Totals}

abbrev pub Lands : Pass → List ℕ → Totals → Scan → List ℕ → Type 0
Lands p l st r m = record { answers : r ≡ p.answer; writes : m ≡ landed l st p }
