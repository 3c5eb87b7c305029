-- Numbers in two halves: what the words of a list's bytes say, and the bytes of both halves.
use Rattle.std.specs.Prelude.{List, [], ◌∷◌, ◌≡◌, refl, ℕ, zero, suc, ◌+◌, ◌-◌, ◌*◌, ◌/◌, ◌%◌, ◌^◌, ◌≤◌, ◌<◌, min, length, drop, take, Bool, true, false, ltb}
use Rattle.std.proofs.Common.{ap, ap₂, sym, ◌∙◌, arith, mul_assoc, mul_comm, ltb-true, ltb-false, lt_of_lt_of_le, pow_mono}
use Rattle.std.proofs.Math.Decide.{dec_le}
use Rattle.std.proofs.lemmas.List.Edits.{sets}
use Rattle.rules.specs.Basics.{Under}
use Rattle.rules.specs.Bytes.{le_value, le_bytes, whole, halves}
use Rattle.rules.specs.declared.Halves.{Halves}
use Rattle.rules.proofs.Laws.Bytes.{pow8, value_lt}
use Rattle.rules.proofs.Laws.Places.{part_rest, sets_out, sets_length}
use Rattle.number.specs.Laws.{value_split, two_puts}

-- ---- reading

-- all of a list's bytes, and none behind them
drop_all : (k : ℕ) (s : List ℕ) → length s ≤ k → drop k s ≡ []
drop_all zero [] h = refl
drop_all zero (b ∷ s) h = absurd (omega arith)
drop_all (suc k) [] h = refl
drop_all (suc k) (b ∷ s) h = drop_all k s (omega arith)

drop_clamped : (k : ℕ) (s : List ℕ) → drop (min k (length s)) s ≡ drop k s
drop_clamped k s = go (dec_le k (length s))
  where
    go : Dec (k ≤ length s) → drop (min k (length s)) s ≡ drop k s
    go (yes h) = let e : min k (length s) ≡ k = omega arith in ap (λ i. drop i s) e
    go (no h) = let e : min k (length s) ≡ length s = omega arith in ap (λ i. drop i s) e ∙ drop_all (length s) s (omega arith) ∙ sym (drop_all k s (omega arith))

-- the first sixteen bytes at most, by the first eight and the others
by_halves : (n : ℕ) (s : List ℕ) → le_value (take (min n 16) s) ≡ le_value (take (min n 8) s) + 2 ^ 64 * le_value (take (min (n - 8) 8) (drop (min n 8) s))
by_halves n s = go (dec_le n 8)
  where
    go : Dec (n ≤ 8) → le_value (take (min n 16) s) ≡ le_value (take (min n 8) s) + 2 ^ 64 * le_value (take (min (n - 8) 8) (drop (min n 8) s))
    go (yes h) =
        let a : min n 16 ≡ min n 8 = omega arith in
        let b : min (n - 8) 8 ≡ 0 = omega arith in
        rw (a, b) (unfold le_value in omega arith)
    go (no h) =
        let a : min n 16 ≡ 8 + min (n - 8) 8 = omega arith in
        let b : min n 8 ≡ 8 = omega arith in
        rw (a, b) (value_split 8 (min (n - 8) 8) s)

pub halves_read : (n low high k : ℕ) (s : List ℕ) → Under 256 s → k ≡ min (min n 8) (length s) → low ≡ le_value (take (min n 8) s) → high ≡ le_value (take (min (n - 8) 8) (take (length s - k) (drop k s)))
    → ◌≡◌ {A = Halves} (record { low = low; high = high }) (halves (le_value (take (min n 16) s)))
halves_read n low high k s u ek el eh =
    let rest : take (length s - k) (drop k s) ≡ drop (min n 8) s = part_rest k s ∙ ap (λ i. drop i s) ek ∙ drop_clamped (min n 8) s in
    let top : high ≡ le_value (take (min (n - 8) 8) (drop (min n 8) s)) = eh ∙ ap (λ l. le_value (take (min (n - 8) 8) l)) rest in
    let all : le_value (take (min n 16) s) ≡ low + 2 ^ 64 * high = by_halves n s ∙ ap₂ (λ x y. x + 2 ^ 64 * y) (sym el) (sym top) in
    let small : low < 2 ^ 64 = rw el (lt_of_lt_of_le (value_lt (min n 8) s u) (pow_mono {i = 8 * min n 8} {j = 64} (omega arith))) in
    let lo : low ≡ le_value (take (min n 16) s) % 2 ^ 64 = omega arith in
    let hi : high ≡ le_value (take (min n 16) s) / 2 ^ 64 = omega arith in
    ap₂ (λ (x y : ℕ). record { low = x; high = y }) lo hi

-- eight bytes at most: one word, and no high half
pub narrow_read : (n low : ℕ) (v : Halves) (s : List ℕ) → Under 256 s → n ≤ 8 → low ≡ le_value (take (min n 8) s) → v ≡ record { low = low; high = 0 } → v ≡ halves (le_value (take (min n 16) s))
narrow_read n low v s u h el ev =
    let none : min (n - 8) 8 ≡ 0 = omega arith in
    ev ∙ halves_read n low 0 (min (min n 8) (length s)) s u refl el (rw none (unfold le_value in refl))

-- ---- writing

-- a place past 2^64 - 1 is as good as that one: both are past the end
pub sets_saturated : (vs l : List ℕ) (i : ℕ) → length l < 2 ^ 64 → sets l (min i (2 ^ 64 - 1)) vs ≡ sets l i vs
sets_saturated vs l i h = go (ltb i (2 ^ 64)) refl
  where
    go : (b : Bool) → ltb i (2 ^ 64) ≡ b → sets l (min i (2 ^ 64 - 1)) vs ≡ sets l i vs
    go true e = let z : min i (2 ^ 64 - 1) ≡ i = omega (arith, ltb-true i (2 ^ 64) e) in ap (λ k. sets l k vs) z
    go false e = let far = ltb-false i (2 ^ 64) e in sets_out vs l (min i (2 ^ 64 - 1)) (omega (arith, far)) ∙ sym (sets_out vs l i (omega (arith, far)))

-- the lowest bytes don't depend on what stands above them
low_bytes : (n k lo hi : ℕ) → n ≤ k → le_bytes n lo ≡ le_bytes n (lo + hi * 2 ^ (8 * k))
unfolding le_bytes
low_bytes zero k lo hi h = refl
low_bytes (suc n) zero lo hi h = absurd (omega arith)
low_bytes (suc n) (suc k) lo hi h =
    let e : lo + hi * 2 ^ (8 * suc k) ≡ lo + 256 * (hi * 2 ^ (8 * k)) = rw pow8 (omega (arith, mul_comm hi (256 * 2 ^ (8 * k)), mul_assoc 256 (2 ^ (8 * k)) hi, mul_comm hi (2 ^ (8 * k)))) in
    let low : (lo + 256 * (hi * 2 ^ (8 * k))) % 256 ≡ lo % 256 = omega arith in
    let high : (lo + 256 * (hi * 2 ^ (8 * k))) / 256 ≡ lo / 256 + hi * 2 ^ (8 * k) = omega arith in
    rw e (ap₂ (λ (x : ℕ) (l : List ℕ). x ∷ l) (sym low) (low_bytes n k (lo / 256) hi (omega arith) ∙ ap (le_bytes n) (sym high)))

pub halves_put : (n i low high : ℕ) (l a b : List ℕ) → length l < 2 ^ 64 → low < 2 ^ 64 → a ≡ sets l i (le_bytes (min n 8) low) → b ≡ sets a (min (i + 8) (2 ^ 64 - 1)) (le_bytes (n - 8) high)
    → b ≡ sets l i (le_bytes n (whole low high))
halves_put n i low high l a b fits lt ea eb = go (dec_le n 8)
  where
    placed : b ≡ sets a (i + 8) (le_bytes (n - 8) high)
    placed = eb ∙ sets_saturated (le_bytes (n - 8) high) a (i + 8) (omega (arith, fits, ap length ea, sets_length (le_bytes (min n 8) low) l i))

    go : Dec (n ≤ 8) → b ≡ sets l i (le_bytes n (whole low high))
    go (yes h) =
        let none : n - 8 ≡ 0 = omega arith in
        let all : min n 8 ≡ n = omega arith in
        let left : sets a (i + 8) (le_bytes 0 high) ≡ a = unfold le_bytes in refl in
        placed ∙ ap (λ k. sets a (i + 8) (le_bytes k high)) none ∙ left ∙ ea ∙ ap (λ k. sets l i (le_bytes k low)) all ∙ ap (sets l i) (low_bytes n 8 low high h)
    go (no h) =
        let eight : min n 8 ≡ 8 = omega arith in
        let sum : 8 + (n - 8) ≡ n = omega arith in
        two_puts i (n - 8) low high l a b lt (ea ∙ ap (λ k. sets l i (le_bytes k low)) eight) placed ∙ ap (λ k. sets l i (le_bytes k (whole low high))) sum
