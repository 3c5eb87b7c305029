-- The memory that `main` lends has room for all of every report.
use Rattle.std.proofs.Common.{List, ◌≡◌, ℕ, ◌≤◌, length, ap, arith}
use Rattle.report.specs.Text.{report_of, unreadable, most_bytes}
use Rattle.report.proofs.Answers.{report_fits, unreadable_fits}

-- k is the answer r, and l the memory m afterwards
pub whole_report : (tb s : List ℕ) {k r : ℕ} {l m : List ℕ} → k ≡ r → l ≡ m → r ≡ length (report_of tb s) → length m ≡ most_bytes → k ≤ length l
whole_report tb s p q e f = omega (arith, report_fits tb s, ap length q)

pub whole_line : {k r : ℕ} {l m : List ℕ} → k ≡ r → l ≡ m → r ≡ length unreadable → length m ≡ most_bytes → k ≤ length l
whole_line p q e f = omega (arith, unreadable_fits, ap length q)
