-- Laws of `le_value` and `le_bytes`: bytes, lowest first, and the number that they say.
use Rattle.std.specs.Prelude.{List, [], ◌∷◌, ◌≡◌, refl, ℕ, zero, suc, ◌+◌, ◌*◌, ◌/◌, ◌%◌, ◌^◌, ◌<◌, length, drop, take}
use Rattle.std.proofs.Common.{ap, ◌∙◌, ap₂, mul-suc, mul_comm, arith, pow_pos, pow-add, get_or-drop}
use Rattle.rules.specs.Basics.{Under}
use Rattle.rules.specs.Bytes.{le_value, le_bytes}

pub under_drop : (m n : ℕ) (s : List ℕ) → Under m s → Under m (drop n s)
under_drop m n s h i = rw get_or-drop (h (n + i))

pub under_take : (m n : ℕ) (s : List ℕ) → Under m s → Under m (take n s)
under_take m zero s h i = omega (arith, h 0)
under_take m (suc n) [] h i = h i
under_take m (suc n) (b ∷ s) h zero = h 0
under_take m (suc n) (b ∷ s) h (suc i) = under_take m n s (λ j. h (suc j)) i

-- one byte more is 256 times as much
pub pow8 : (n : ℕ) → 2 ^ (8 * suc n) ≡ 256 * 2 ^ (8 * n)
pow8 n = rw (mul-suc 8 n, pow-add 2 (8 * n) 8) (mul_comm (2 ^ (8 * n)) 256)

pub value_lt : (n : ℕ) (s : List ℕ) → Under 256 s → le_value (take n s) < 2 ^ (8 * n)
unfolding le_value
value_lt zero s h = omega arith
value_lt (suc n) [] h = pow_pos (8 * suc n)
value_lt (suc n) (b ∷ s) h = omega (arith, pow8 n, value_lt n s (λ i. h (suc i)), h 0)

pub length_bytes : (n v : ℕ) → length (le_bytes n v) ≡ n
unfolding le_bytes
length_bytes zero v = refl
length_bytes (suc n) v = ap suc (length_bytes n (v / 256))

-- what n bytes say is the number, where it fits them
pub value_bytes : (n v : ℕ) → v < 2 ^ (8 * n) → le_value (le_bytes n v) ≡ v
unfolding le_value le_bytes
value_bytes zero v h = omega arith
value_bytes (suc n) v h =
    let e : le_value (le_bytes n (v / 256)) ≡ v / 256 = value_bytes n (v / 256) (omega (arith, pow8 n)) in
    omega arith

-- and the bytes of what bytes say are these bytes
pub bytes_value : (s : List ℕ) → Under 256 s → le_bytes (length s) (le_value s) ≡ s
unfolding le_value le_bytes
bytes_value [] h = refl
bytes_value (b ∷ s) h =
    let lt : b < 256 = h 0 in
    let low : (b + 256 * le_value s) % 256 ≡ b = omega arith in
    let high : (b + 256 * le_value s) / 256 ≡ le_value s = omega arith in
    ap₂ (λ (x : ℕ) (l : List ℕ). x ∷ l) low (ap (le_bytes (length s)) high ∙ bytes_value s (λ i. h (suc i)))
