-- Laws of `compact_bytes`: which form a value takes, and how long it is.
use Rattle.std.specs.Prelude.{◌≡◌, ℕ, suc, ◌+◌, ◌*◌, ◌^◌, ◌≤◌, ◌<◌, length}
use Rattle.std.proofs.Common.{ap, ◌∙◌, arith, lt-ltb, le-ltb}
use Rattle.rules.specs.Bytes.{le_bytes}
use Rattle.rules.proofs.Laws.Bytes.{length_bytes}
use Rattle.rules.specs.Compact.{significant, long, compact_bytes}

pub encode_0 : (v : ℕ) → v < 64 → compact_bytes v ≡ le_bytes 1 (v * 4)
unfolding compact_bytes
encode_0 v h = simp (lt-ltb _ _ h)

pub encode_1 : (v : ℕ) → 64 ≤ v → v < 2 ^ 14 → compact_bytes v ≡ le_bytes 2 (v * 4 + 1)
unfolding compact_bytes
encode_1 v h h' = simp (le-ltb _ _ h, lt-ltb _ _ h')

pub encode_2 : (v : ℕ) → 2 ^ 14 ≤ v → v < 2 ^ 30 → compact_bytes v ≡ le_bytes 4 (v * 4 + 2)
unfolding compact_bytes
encode_2 v h h' =
    let a : 64 ≤ v = omega arith in
    simp (le-ltb _ _ a, le-ltb _ _ h, lt-ltb _ _ h')

pub encode_3 : (v : ℕ) → 2 ^ 30 ≤ v → compact_bytes v ≡ long (significant v) v
unfolding compact_bytes
encode_3 v h =
    let a : 64 ≤ v = omega arith in
    let b : 2 ^ 14 ≤ v = omega arith in
    simp (le-ltb _ _ a, le-ltb _ _ b, le-ltb _ _ h)

pub length_long : (n v : ℕ) → length (long n v) ≡ n + 1
unfolding long
length_long n v = ap suc (length_bytes n v) ∙ omega arith

pub length_0 : (v : ℕ) → v < 64 → length (compact_bytes v) ≡ 1
length_0 v h = ap length (encode_0 v h) ∙ length_bytes 1 (v * 4)

pub length_1 : (v : ℕ) → 64 ≤ v → v < 2 ^ 14 → length (compact_bytes v) ≡ 2
length_1 v h h' = ap length (encode_1 v h h') ∙ length_bytes 2 (v * 4 + 1)

pub length_2 : (v : ℕ) → 2 ^ 14 ≤ v → v < 2 ^ 30 → length (compact_bytes v) ≡ 4
length_2 v h h' = ap length (encode_2 v h h') ∙ length_bytes 4 (v * 4 + 2)

pub length_3 : (v : ℕ) → 2 ^ 30 ≤ v → length (compact_bytes v) ≡ significant v + 1
length_3 v h = ap length (encode_3 v h) ∙ length_long (significant v) v
