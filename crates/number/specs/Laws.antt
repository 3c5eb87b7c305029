-- For callers of `word` and `put`. A number of at most eight bytes is one word; one of more is two, the lowest eight bytes and what is above them.
use Rattle.std.specs.Prelude.{List, [], ◌∷◌, ◌++◌, ◌≡◌, ℕ, zero, suc, ◌+◌, ◌-◌, ◌*◌, ◌/◌, ◌%◌, ◌^◌, ◌≤◌, ◌<◌, min, length, drop, take}
use Rattle.std.proofs.Common.{ap, ap₂, ◌∙◌, mul_comm, mul_assoc, suc-add, zero-add, lt_of_lt_of_le, arith, pow_mono}
use Rattle.std.specs.Int.Bits.{bit_or}
use Rattle.std.proofs.lemmas.Nat.{or_shifted}
use Rattle.std.proofs.Math.Seq.{take-nil}
use Rattle.std.proofs.lemmas.List.Edits.{sets}
use Rattle.rules.specs.Basics.{Under}
use Rattle.rules.specs.Bytes.{le_value, le_bytes}
use Rattle.rules.proofs.Laws.Bytes.{pow8, value_lt, length_bytes}
use Rattle.rules.proofs.Laws.Places.{part_rest, sets_join}

-- ---- reading

-- what `word` says of at most eight bytes
pub one_word : (n r : ℕ) (s : List ℕ) → r ≡ le_value (take (min n 8) s) → n ≤ 8 → r ≡ le_value (take n s)
one_word n r s e h =
    let m : min n 8 ≡ n = omega arith in
    rw m at e

-- a byte below what at most seven bytes say: a left shift by eight loses nothing
pub shifted_in : (k b : ℕ) (s : List ℕ) (v : ℕ) → k ≤ 7 → Under 256 s → v ≡ le_value (take k s) → b < 256 → bit_or ((v * 256) % 2 ^ 64) b ≡ le_value (b ∷ take k s)
unfolding le_value
shifted_in k b s v le u e lt =
    let room : le_value (take k s) < 2 ^ 56 = lt_of_lt_of_le (value_lt k s u) (pow_mono {i = 8 * k} {j = 56} (omega arith)) in
    let same : (v * 256) % 2 ^ 64 ≡ v * 256 = omega arith in
    rw (same, or_shifted v 8 b lt) (omega arith)

-- the first k bytes and the next n
pub value_split : (k n : ℕ) (s : List ℕ) → le_value (take (k + n) s) ≡ le_value (take k s) + 2 ^ (8 * k) * le_value (take n (drop k s))
unfolding le_value
value_split zero n s = rw (zero-add n) (omega arith)
value_split (suc k) n [] = rw (suc-add k n, take-nil n) (omega arith)
value_split (suc k) n (b ∷ s) =
    rw (suc-add k n, pow8 k)
    (omega (arith, value_split k n s, mul_assoc 256 (2 ^ (8 * k)) (le_value (take n (drop k s)))))

-- n bytes by two words, of s and of `&s[8..]`
pub two_words : (n low high : ℕ) (s : List ℕ) → 8 ≤ n → n ≤ 16 → low ≡ le_value (take 8 s) → high ≡ le_value (take (min (n - 8) 8) (take (length s - 8) (drop 8 s)))
    → low + high * 2 ^ 64 ≡ le_value (take n s)
two_words n low high s h h' el eh =
    let sum : 8 + (n - 8) ≡ n = omega arith in
    let top : high ≡ le_value (take (n - 8) (drop 8 s)) = one_word (n - 8) high (drop 8 s) (rw (part_rest 8 s) at eh) (omega arith) in
    omega (arith, value_split 8 (n - 8) s, ap (λ (m : ℕ). le_value (take m s)) sum)

-- ---- writing

-- the lowest k bytes and the next n
pub bytes_split : (k n lo hi : ℕ) → lo < 2 ^ (8 * k) → le_bytes (k + n) (lo + hi * 2 ^ (8 * k)) ≡ le_bytes k lo ++ le_bytes n hi
unfolding le_bytes
bytes_split zero n lo hi h =
    let e : lo + hi * 1 ≡ hi = omega arith in
    rw (zero-add n) (ap (le_bytes n) e)
bytes_split (suc k) n lo hi h =
    let e : lo + hi * 2 ^ (8 * suc k) ≡ lo + 256 * (hi * 2 ^ (8 * k)) = rw pow8 (omega (arith, mul_comm hi (256 * 2 ^ (8 * k)), mul_assoc 256 (2 ^ (8 * k)) hi, mul_comm hi (2 ^ (8 * k)))) in
    let low : (lo + 256 * (hi * 2 ^ (8 * k))) % 256 ≡ lo % 256 = omega arith in
    let high : (lo + 256 * (hi * 2 ^ (8 * k))) / 256 ≡ lo / 256 + hi * 2 ^ (8 * k) = omega arith in
    let lt : lo / 256 < 2 ^ (8 * k) = omega (arith, pow8 k) in
    rw (suc-add k n, e)
    (ap₂ (λ (x : ℕ) (l : List ℕ). x ∷ l) low (ap (le_bytes (k + n)) high ∙ bytes_split k n (lo / 256) hi lt))

-- 8 + n bytes by two words, one after the other
pub two_puts : (i n low high : ℕ) (l a b : List ℕ) → low < 2 ^ 64 → a ≡ sets l i (le_bytes 8 low) → b ≡ sets a (i + 8) (le_bytes n high)
    → b ≡ sets l i (le_bytes (8 + n) (low + high * 2 ^ 64))
two_puts i n low high l a b lt ea eb =
    eb ∙ ap (λ (m : List ℕ). sets m (i + 8) (le_bytes n high)) ea
    ∙ rw (bytes_split 8 n low high lt) (rw (length_bytes 8 low) at (sets_join (le_bytes 8 low) (le_bytes n high) l i))
