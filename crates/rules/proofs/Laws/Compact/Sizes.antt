-- Laws of `significant`, the number of significant bytes.
use Rattle.std.specs.Prelude.{◌⊎◌, ◌≡◌, refl, ℕ, zero, suc, ◌*◌, ◌/◌, ◌^◌, ◌≤◌, ◌<◌}
use Rattle.std.proofs.Common.{inl, inr, ap, ◌∙◌, zero-le, suc-le-suc, not-suc-le-zero, le_of_suc-le-suc, eq-zero-or-pos, zero-lt-suc, arith, lit<, pow_pos}
use Rattle.rules.proofs.Laws.Bytes.{pow8}
use Rattle.rules.specs.Compact.{significant_in, significant}
use Rattle.rules.specs.Compact.Sizes.{Has}

none : (k : ℕ) → significant_in k 0 ≡ 0
unfolding significant_in
none zero = refl
none (suc k) = refl

is_in : (k n v : ℕ) → n < k → Has v n → significant_in k v ≡ suc n
unfolding significant_in
is_in zero n v lt h = absurd (not-suc-le-zero lt)
is_in (suc k) n zero lt h = absurd (omega (arith, pow_pos (8 * n), h.0))
is_in (suc k) zero (suc v) lt h =
    let e : suc v / 256 ≡ 0 = omega (arith, h.1) in
    ap suc (ap (significant_in k) e ∙ none k)
is_in (suc k) (suc n) (suc v) lt h = ap suc (is_in k n (suc v / 256) (le_of_suc-le-suc lt) (omega (arith, h.0, h.1, pow8 n), omega (arith, h.0, h.1, pow8 (suc n))))

-- the bounds say the number of significant bytes
pub significant_is : (n v : ℕ) → n < 67 → Has v n → significant v ≡ suc n
unfolding significant
significant_is n v lt h = is_in 67 n v lt h

of_in : (k v : ℕ) → 0 < v → v < 2 ^ (8 * k) → (n : ℕ) × (n < k) × (2 ^ (8 * n) ≤ v) × (v < 2 ^ (8 * suc n))
of_in zero v p h = absurd (omega arith)
of_in (suc k) v p h = go (λ q. of_in k (v / 256) q (omega (arith, pow8 k))) (eq-zero-or-pos (v / 256))
  where
    go : (0 < v / 256 → (n : ℕ) × (n < k) × (2 ^ (8 * n) ≤ v / 256) × (v / 256 < 2 ^ (8 * suc n)))
        → (v / 256 ≡ 0) ⊎ (0 < v / 256) → (n : ℕ) × (n < suc k) × (2 ^ (8 * n) ≤ v) × (v < 2 ^ (8 * suc n))
    go rest (inl e) = (0, zero-lt-suc k, p, omega arith)
    go rest (inr q) =
        let t = rest q in
        (suc t.0, omega (arith, t.1), omega (arith, t.2, pow8 t.0), omega (arith, t.3, pow8 (suc t.0)))

-- and a number below 2 ^ 536 other than 0 has such bounds
pub significant_of : (v : ℕ) → 0 < v → v < 2 ^ 536 → (n : ℕ) × (n < 67) × (2 ^ (8 * n) ≤ v) × (v < 2 ^ (8 * suc n))
significant_of v p h = of_in 67 v p h

le_in : (k v : ℕ) → significant_in k v ≤ k
unfolding significant_in
le_in zero v = zero-le
le_in (suc k) zero = zero-le
le_in (suc k) (suc v) = suc-le-suc (le_in k (suc v / 256))

pub significant_le : (v : ℕ) → significant v ≤ 67
unfolding significant
significant_le v = le_in 67 v

-- ---- each bound by itself

ge_in : (k n v : ℕ) → n < k → 2 ^ (8 * n) ≤ v → suc n ≤ significant_in k v
unfolding significant_in
ge_in zero n v lt h = absurd (not-suc-le-zero lt)
ge_in (suc k) n zero lt h = absurd (omega (arith, pow_pos (8 * n)))
ge_in (suc k) zero (suc v) lt h = suc-le-suc zero-le
ge_in (suc k) (suc n) (suc v) lt h = suc-le-suc (ge_in k n (suc v / 256) (le_of_suc-le-suc lt) (omega (arith, pow8 n)))

pub significant_ge : (n v : ℕ) → n < 67 → 2 ^ (8 * n) ≤ v → suc n ≤ significant v
unfolding significant
significant_ge n v lt h = ge_in 67 n v lt h

lt_in : (k n v : ℕ) → v < 2 ^ (8 * n) → significant_in k v ≤ n
unfolding significant_in
lt_in zero n v h = zero-le
lt_in (suc k) n zero h = zero-le
lt_in (suc k) zero (suc v) h = absurd (omega arith)
lt_in (suc k) (suc n) (suc v) h = suc-le-suc (lt_in k n (suc v / 256) (omega (arith, pow8 n)))

pub significant_lt : (n v : ℕ) → v < 2 ^ (8 * n) → significant v ≤ n
unfolding significant
significant_lt n v h = lt_in 67 n v h

-- a larger number has no fewer
mono_in : (k v w : ℕ) → v ≤ w → significant_in k v ≤ significant_in k w
unfolding significant_in
mono_in zero v w h = zero-le
mono_in (suc k) zero w h = zero-le
mono_in (suc k) (suc v) zero h = absurd (not-suc-le-zero h)
mono_in (suc k) (suc v) (suc w) h = suc-le-suc (mono_in k (suc v / 256) (suc w / 256) (omega arith))

pub significant_mono : (v w : ℕ) → v ≤ w → significant v ≤ significant w
unfolding significant
significant_mono v w h = mono_in 67 v w h

-- the long form's sizes
pub significant_4 : (v : ℕ) → 2 ^ 30 ≤ v → 4 ≤ significant v
significant_4 v h = significant_ge 3 v (lit< tt) (omega arith)
