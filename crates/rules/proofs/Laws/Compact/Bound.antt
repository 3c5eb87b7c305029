-- No encoding of a value is longer than THE TABLE says at its width, and that of a larger one is no shorter.
use Rattle.std.specs.Prelude.{ℕ, ◌+◌, ◌*◌, ◌^◌, ◌≤◌, ◌<◌, length}
use Rattle.std.proofs.Math.Decide.{dec_lt}
use Rattle.std.proofs.Common.{arith, lit≤}
use Rattle.rules.specs.Types.{Width, w1, w2, w4, w8, w16, size}
use Rattle.rules.specs.Compact.{compact_bytes}
use Rattle.rules.proofs.Laws.Compact.Sizes.{significant_lt, significant_mono, significant_4}
use Rattle.rules.proofs.Laws.Compact.Encoding.{length_0, length_1, length_2, length_3}
use Rattle.rules.proofs.Laws.Compact.Law.{below_exp}
use Rattle.rules.specs.Totals.{longest_compact}

-- what each form asks of the table

ask_2 : (w : Width) → 2 ≤ longest_compact w
ask_2 w1 = lit≤ tt
ask_2 w2 = lit≤ tt
ask_2 w4 = lit≤ tt
ask_2 w8 = lit≤ tt
ask_2 w16 = lit≤ tt

ask_4 : (w : Width) → 14 < 8 * size w → 4 ≤ longest_compact w
ask_4 w1 h = absurd (omega arith)
ask_4 w2 h = lit≤ tt
ask_4 w4 h = lit≤ tt
ask_4 w8 h = lit≤ tt
ask_4 w16 h = lit≤ tt

ask_long : (w : Width) → 30 < 8 * size w → size w + 1 ≤ longest_compact w
ask_long w1 h = absurd (omega arith)
ask_long w2 h = absurd (omega arith)
ask_long w4 h = lit≤ tt
ask_long w8 h = lit≤ tt
ask_long w16 h = lit≤ tt

-- THE BOUND on every encoding of a value of width w
pub compact_longest : (w : Width) (v : ℕ) → v < 2 ^ (8 * size w) → length (compact_bytes v) ≤ longest_compact w
compact_longest w v f = go (dec_lt v 64) (dec_lt v (2 ^ 14)) (dec_lt v (2 ^ 30))
  where
    below : (i : ℕ) → 2 ^ i ≤ v → i < 8 * size w
    below i h = below_exp i (8 * size w) v h f

    go : Dec (v < 64) → Dec (v < 2 ^ 14) → Dec (v < 2 ^ 30) → length (compact_bytes v) ≤ longest_compact w
    go (yes h) p q = omega (arith, length_0 v h, ask_2 w)
    go (no a) (yes h) q = omega (arith, length_1 v (omega arith) h, ask_2 w)
    go (no a) (no b) (yes h) = omega (arith, length_2 v (omega arith) h, ask_4 w (below 14 (omega arith)))
    go (no a) (no b) (no d) = omega (arith, length_3 v (omega arith), significant_lt (size w) v f, ask_long w (below 30 (omega arith)))

-- a larger value's encoding is no shorter
pub larger_longer : (v w : ℕ) → v ≤ w → length (compact_bytes v) ≤ length (compact_bytes w)
larger_longer v w h = go (dec_lt w 64) (dec_lt w (2 ^ 14)) (dec_lt w (2 ^ 30))
  where
    below_14 : Dec (v < 64) → v < 2 ^ 14 → length (compact_bytes v) ≤ 2
    below_14 (yes a) b = omega (arith, length_0 v a)
    below_14 (no a) b = omega (arith, length_1 v (omega arith) b)

    below_30 : Dec (v < 2 ^ 14) → v < 2 ^ 30 → length (compact_bytes v) ≤ 4
    below_30 (yes a) b = omega (arith, below_14 (dec_lt v 64) a)
    below_30 (no a) b = omega (arith, length_2 v (omega arith) b)

    long : Dec (v < 2 ^ 30) → 2 ^ 30 ≤ w → length (compact_bytes v) ≤ length (compact_bytes w)
    long (yes a) b = omega (arith, below_30 (dec_lt v (2 ^ 14)) a, length_3 w b, significant_4 w b)
    long (no a) b = omega (arith, length_3 v (omega arith), length_3 w b, significant_mono v w h)

    go : Dec (w < 64) → Dec (w < 2 ^ 14) → Dec (w < 2 ^ 30) → length (compact_bytes v) ≤ length (compact_bytes w)
    go (yes a) p q = omega (arith, length_0 v (omega arith), length_0 w a)
    go (no a) (yes b) q = omega (arith, below_14 (dec_lt v 64) (omega arith), length_1 w (omega arith) b)
    go (no a) (no b) (yes d) = omega (arith, below_30 (dec_lt v (2 ^ 14)) (omega arith), length_2 w (omega arith) d)
    go (no a) (no b) (no d) = long (dec_lt v (2 ^ 30)) (omega arith)
