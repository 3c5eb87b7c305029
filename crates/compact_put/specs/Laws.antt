-- The laws of the public answers: what was written is read back, and nothing that is written is longer than the table says. Then what a caller
-- knows of an encoding that was written.
use Rattle.std.specs.Prelude.{List, ◌++◌, ◌≡◌, refl, ℕ, ◌+◌, ◌-◌, ◌*◌, ◌^◌, ◌≤◌, ◌<◌, length, replicate, Ok}
use Rattle.std.proofs.Common.{ap, ◌∙◌, lt_of_lt_of_le, arith, length-append, pow_mono, take_at}
use Rattle.rules.specs.declared.Width.{Width}
use Rattle.rules.specs.Types.{size}
use Rattle.rules.specs.Totals.{longest_compact}
use Rattle.rules.specs.Compact.{compact_bytes, compact_from}
use Rattle.rules.proofs.Laws.Compact.Answers.{lt_fits}
use Rattle.rules.proofs.Laws.Compact.Law.{compact_reads}
use Rattle.rules.proofs.Laws.Compact.Bound.{compact_longest}
use Rattle.rules.specs.Bytes.{whole}
use Rattle.compact.specs.Halves.{in_halves}
use Rattle.compact.specs.Laws.{in_halves_lem, size_le}
use Rattle.compact_put.specs.declared.Encoded.{Encoded}
use Rattle.compact_put.specs.Padded.{padded, front}

-- the encoding in front of what pads it
front_padded : (l : List ℕ) → front (padded l) ≡ l
unfolding padded
front_padded l = take_at l (replicate (17 - length l) 0) (length l) refl

-- ---- THE LAWS

-- what is written for a value of a width is no longer than the table says there
pub written_longest : (w : Width) (low high : ℕ) → whole low high < 2 ^ (8 * size w) → (padded (compact_bytes (whole low high))).len ≤ longest_compact w
unfolding padded
written_longest w low high lt = compact_longest w (whole low high) lt

-- what is written for a value of a width, with anything after it, is read there as that value, and the bytes written are those used
pub read_written : (w : Width) (low high : ℕ) (s : List ℕ) → low < 2 ^ 64 → whole low high < 2 ^ (8 * size w)
    → in_halves (compact_from (size w) (front (padded (compact_bytes (whole low high))) ++ s)) ≡ Ok (record { low = low; high = high }, (padded (compact_bytes (whole low high))).len)
unfolding padded
read_written w low high s l lt =
    let v = whole low high in
    let small : v < 2 ^ 536 = lt_of_lt_of_le lt (pow_mono {i = 8 * size w} {j = 536} (omega (arith, size_le w))) in
    rw (front_padded (compact_bytes v)) (ap in_halves (compact_reads (size w) v s small (lt_fits (size w) v lt)) ∙ in_halves_lem low high (length (compact_bytes v)) l)

-- ---- for callers

-- of an encoding l that was written: its length, its bytes, and that they are there
pub written_len : (r : Encoded) (l : List ℕ) → r ≡ padded l → r.len ≡ length l
unfolding padded
written_len r l e = ap (λ (x : Encoded). x.len) e

pub written_front : (r : Encoded) (l : List ℕ) → r ≡ padded l → front r ≡ l
written_front r l e = ap front e ∙ front_padded l

pub written_room : (r : Encoded) (l : List ℕ) → r ≡ padded l → r.len ≤ length r.bytes
unfolding padded
written_room r l e =
    let n : r.len ≡ length l = written_len r l e in
    let m : length r.bytes ≡ length l + length {A = ℕ} (replicate (17 - length l) 0) = ap (λ (x : Encoded). length x.bytes) e ∙ length-append l (replicate (17 - length l) 0) in
    omega arith
