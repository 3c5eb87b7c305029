-- The law of the public answer: a number is read exactly if the bytes open with its encoding. Then what a caller knows of a value that was read.
use Rattle.std.specs.Prelude.{List, ◌↔◌, ◌≡◌, refl, ℕ, ◌*◌, ◌/◌, ◌%◌, ◌^◌, ◌≤◌, ◌<◌, length, Ok, Err}
use Rattle.std.proofs.Common.{ap, ap₂, ◌∙◌, add_comm, arith, lit≤, pow_mono}
use Rattle.std.proofs.Math.Arith.{digits_lt}
use Rattle.rules.specs.declared.Width.{Width}
use Rattle.rules.specs.declared.Width.TheVariants.{W1, W2, W4, W8, W16}
use Rattle.rules.specs.Basics.{Under}
use Rattle.rules.specs.Types.{size}
use Rattle.rules.specs.Compact.{Answer, value, short, prefix, range, compact_from}
use Rattle.rules.proofs.Laws.Compact.Answers.{fits_lt}
use Rattle.rules.specs.Compact.Law.{Opens}
use Rattle.rules.proofs.Laws.Compact.Law.{compact_took, compact_exactly}
use Rattle.rules.specs.Bytes.{whole}
use Rattle.compact.specs.Halves.{Reading, in_halves, said, fields, refused}

-- ---- halves

-- a value in its halves
pub in_halves_lem : (low high n : ℕ) → low < 2 ^ 64 → in_halves (value (whole low high) n) ≡ Ok (record { low = low; high = high }, n)
in_halves_lem low high n lt =
    let l : whole low high % 2 ^ 64 ≡ low = omega arith in
    let h : whole low high / 2 ^ 64 ≡ high = omega arith in
    ap₂ (λ (x y : ℕ). Ok (record { low = x; high = y }, n)) l h

-- the code's answer says the rule's
pub said_back : (a : Answer) (r : Reading) → in_halves a ≡ r → a ≡ said r
said_back (value v n) r e =
    let w : v ≡ whole (v % 2 ^ 64) (v / 2 ^ 64) = omega arith in
    ap (λ (x : ℕ). value x n) w ∙ ap said e
said_back short r e = ap said e
said_back prefix r e = ap said e
said_back range r e = ap said e

pub size_le : (w : Width) → size w ≤ 16
size_le W1 = lit≤ tt
size_le W2 = lit≤ tt
size_le W4 = lit≤ tt
size_le W8 = lit≤ tt
size_le W16 = lit≤ tt

pub whole_lt : (low high : ℕ) → low < 2 ^ 64 → high < 2 ^ 64 → whole low high < 2 ^ 128
whole_lt low high l h = rw (add_comm low (high * 2 ^ 64)) (digits_lt {q = high} {m = 2 ^ 64} {r = low} {c = 2 ^ 64} h l)

-- ---- THE LAW

-- s is read as a value exactly if it opens with the encoding of that value, which fits the width
pub read_exactly : (w : Width) (s : List ℕ) (low high used : ℕ) → Under 256 s → low < 2 ^ 64
    → (in_halves (compact_from (size w) s) ≡ Ok (record { low = low; high = high }, used)) ↔ Opens (size w) (whole low high) used s
read_exactly w s low high used u lt =
    let law = compact_exactly (size w) (whole low high) used s (omega (arith, size_le w)) u in
    (λ e. law.0 (said_back _ _ e), λ o. ap in_halves (law.1 o) ∙ in_halves_lem low high used lt)

-- an answer with a number has 0 in every other field
pub refused_fields_lem : (r : Reading) → 0 < (fields r).number → fields r ≡ refused (fields r).number
refused_fields_lem (Ok (v, used)) h = absurd (omega arith)
refused_fields_lem (Err f) h = refl

-- ---- for callers

-- a value that was read: what it took is there, and it fits the width
pub record Took (w : Width) (s : List ℕ) (low high used : ℕ) : Type 0 where
  pub some : 1 ≤ used
  pub there : used ≤ length s
  pub fitting : whole low high < 2 ^ (8 * size w)

pub read_took : (w : Width) (s : List ℕ) (low high used : ℕ) → in_halves (compact_from (size w) s) ≡ Ok (record { low = low; high = high }, used) → Took w s low high used
read_took w s low high used e =
    let t = compact_took (size w) (whole low high) used s (said_back _ _ e) in
    record { some = t.0; there = t.1; fitting = fits_lt (size w) (whole low high) t.2 }

-- a value of at most 64 bits is its low half
pub low_only : (w : Width) (low high : ℕ) → size w ≤ 8 → whole low high < 2 ^ (8 * size w) → high ≡ 0
low_only w low high le lt = omega (arith, pow_mono {i = 8 * size w} {j = 64} (omega arith))
