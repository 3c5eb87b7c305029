-- The significant bytes of two halves: from the leading zeros, and as the test of a value's bounds. Then what tests on the halves say of the value.
use Rattle.std.specs.Prelude.{◌⊎◌, ◌≡◌, ℕ, suc, ◌+◌, ◌-◌, ◌*◌, ◌/◌, ◌^◌, ◌≤◌, ◌<◌}
use Rattle.std.proofs.Common.{inl, inr, ap, sym, ◌∙◌, eq-zero-or-pos, le_trans, lt_of_lt_of_le, arith, pow_mono, pow-add}
use Rattle.std.proofs.Math.Decide.{dec_lt}
use Rattle.std.specs.Int.Count.{count_leading_zeros, leading_of_zero}
use Rattle.std.proofs.lemmas.Nat.{leading_top}
use Rattle.rules.specs.Compact.{significant_in, significant}
use Rattle.rules.specs.Compact.Sizes.{Has}
use Rattle.rules.proofs.Laws.Compact.Sizes.{significant_is, significant_ge, significant_lt}
use Rattle.rules.specs.Bytes.{whole}
use Rattle.compact.specs.Laws.{whole_lt}

-- a value of the low half alone
pub whole_low : (low high : ℕ) → high ≡ 0 → low ≡ whole low high
whole_low low high e = omega arith

-- the highest set bit, j, says which byte is the last
top_byte : (a j : ℕ) → 2 ^ j ≤ a → a < 2 ^ suc j → Has a (j / 8)
top_byte a j lo hi = (
  le_trans (pow_mono {i = 8 * (j / 8)} {j = j} (omega arith)) lo,
  lt_of_lt_of_le hi (pow_mono {i = suc j} {j = 8 * suc (j / 8)} (omega arith)),
)

pub significant_low : (a : ℕ) → a < 2 ^ 64 → 8 - count_leading_zeros 64 a / 8 ≡ significant a
unfolding significant significant_in
significant_low a h = go (eq-zero-or-pos a)
  where
    go : (a ≡ 0) ⊎ (0 < a) → 8 - count_leading_zeros 64 a / 8 ≡ significant a
    go (inl e) = rw (e, leading_of_zero 64)
    go (inr p) =
        let t = leading_top 64 a p h in
        let e : count_leading_zeros 64 a + suc t.0 ≡ 64 = t.1 in
        let n : 8 - count_leading_zeros 64 a / 8 ≡ suc (t.0 / 8) = omega arith in
        n ∙ sym (significant_is (t.0 / 8) a (omega arith) (top_byte a t.0 t.2 t.3))

-- eight bytes stand below a high half
has_whole : (low high n : ℕ) → low < 2 ^ 64 → Has high n → Has (whole low high) (n + 8)
has_whole low high n lt h =
    let a = h.0 in
    let b = h.1 in
    let s : suc (n + 8) ≡ suc n + 8 = omega arith in
    let e : 2 ^ (8 * suc (n + 8)) ≡ 2 ^ (8 * suc n) * 2 ^ 64 = ap (λ (x : ℕ). 2 ^ (8 * x)) s ∙ pow_half (suc n) in
    (omega (arith, pow_half n), omega arith)
  where
    pow_half : (n : ℕ) → 2 ^ (8 * (n + 8)) ≡ 2 ^ (8 * n) * 2 ^ 64
    pow_half n =
        let e : 8 * (n + 8) ≡ 8 * n + 64 = omega arith in
        ap (λ (x : ℕ). 2 ^ x) e ∙ pow-add 2 (8 * n) 64

pub significant_high : (low high : ℕ) → low < 2 ^ 64 → high < 2 ^ 64 → (high ≡ 0 → ⊥) → 16 - count_leading_zeros 64 high / 8 ≡ significant (whole low high)
significant_high low high l h nz =
    let t = leading_top 64 high (omega arith) h in
    let e : count_leading_zeros 64 high + suc t.0 ≡ 64 = t.1 in
    let n : 16 - count_leading_zeros 64 high / 8 ≡ suc (t.0 / 8 + 8) = omega arith in
    n ∙ sym (significant_is (t.0 / 8 + 8) (whole low high) (omega arith) (has_whole low high (t.0 / 8) l (top_byte high t.0 t.2 t.3)))

pub significant_16 : (low high : ℕ) → low < 2 ^ 64 → high < 2 ^ 64 → significant (whole low high) ≤ 16
significant_16 low high l h = significant_lt 16 (whole low high) (whole_lt low high l h)

-- ---- the test and the bound

pub under : (n v : ℕ) → n ≤ 16 → significant v ≤ n → v < 2 ^ (8 * n)
under n v le h = go (dec_lt v (2 ^ (8 * n)))
  where
    go : Dec (v < 2 ^ (8 * n)) → v < 2 ^ (8 * n)
    go (yes lt) = lt
    go (no ge) = absurd (omega (arith, significant_ge n v (omega arith) (omega arith)))

pub over : (n v : ℕ) → n < significant v → 2 ^ (8 * n) ≤ v
over n v h = go (dec_lt v (2 ^ (8 * n)))
  where
    go : Dec (v < 2 ^ (8 * n)) → 2 ^ (8 * n) ≤ v
    go (yes lt) = absurd (omega (arith, significant_lt n v lt))
    go (no ge) = omega arith

-- ---- from the tests on the halves

pub under_low : (low high least : ℕ) → high ≡ 0 → low < least → whole low high < least
under_low low high least e lt = omega arith

pub over_low : (low high least : ℕ) → least ≤ low → least ≤ whole low high
over_low low high least h = omega arith

pub over_high : (low high least : ℕ) → (high ≡ 0 → ⊥) → least < 2 ^ 64 → least ≤ whole low high
over_high low high least n h = omega arith
