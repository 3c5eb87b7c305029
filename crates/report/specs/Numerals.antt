-- Decimal numbers: `decimal` has at most 20 digits, gives back its number, and is what the contract of `io::decimal` says.
use Rattle.std.specs.Prelude.{Bool, true, false, cond, List, ◌++◌, [], ◌∷◌, ◌≡◌, refl, ℕ, zero, suc, ◌+◌, ◌-◌, ◌*◌, ◌/◌, ◌%◌, ◌^◌, ◌≤◌, ◌<◌, ltb, leb, length}
use Rattle.std.proofs.Common.{ap, sym, ◌∙◌, subst, le-div_iff_mul-le, div-lt_iff_lt-mul, mod-eq_of_lt, pow-suc, arith, ltb-true, lt-ltb, le-ltb, leb-true, leb-false, length-append}
use Rattle.std.proofs.Math.Nat.{one-le-pow, pow-le-pow_right}
use Rattle.io.specs.Digits.{hex_digit_ascii, last_digits, IsDigitCount}
use Rattle.rules.specs.Basics.{pick}
use Rattle.report.specs.Text.{decimal_in, decimal}

shorter : (k n : ℕ) → length (decimal_in k n) ≤ k
unfolding decimal_in
shorter zero n = omega arith
shorter (suc k) n = go (ltb n 10) (shorter k (n / 10))
  where
    go : (b : Bool) → length (decimal_in k (n / 10)) ≤ k → length (pick b (hex_digit_ascii n ∷ []) (decimal_in k (n / 10) ++ (hex_digit_ascii (n % 10) ∷ []))) ≤ suc k
    go true h = omega arith
    go false h = omega (arith, length-append (decimal_in k (n / 10)) (hex_digit_ascii (n % 10) ∷ []))

pub decimal_short : (n : ℕ) → length (decimal n) ≤ 20
unfolding decimal
decimal_short n = shorter 20 n

-- ---- the number that a text of digits is, read from the left behind the number a

abbrev pub value_of : ℕ → List ℕ → ℕ
value_of a [] = a
value_of a (d ∷ l) = value_of (a * 10 + (d - 48)) l

one_digit_more : (a : ℕ) (l : List ℕ) (d : ℕ) → value_of a (l ++ (d ∷ [])) ≡ value_of a l * 10 + (d - 48)
one_digit_more a [] d = refl
one_digit_more a (x ∷ l) d = one_digit_more (a * 10 + (x - 48)) l d

digit_value : (n : ℕ) → n < 10 → hex_digit_ascii n - 48 ≡ n
digit_value n h = ap (λ b. cond b (48 + n) (87 + n) - 48) (lt-ltb n 10 h) ∙ omega arith

value_is : (k n : ℕ) → n < 10 ^ k → value_of 0 (decimal_in k n) ≡ n
unfolding decimal_in
value_is zero n h = omega arith
value_is (suc k) n h = go (ltb n 10) refl (value_is k (n / 10))
  where
    go : (b : Bool) → ltb n 10 ≡ b → (n / 10 < 10 ^ k → value_of 0 (decimal_in k (n / 10)) ≡ n / 10)
        → value_of 0 (pick b (hex_digit_ascii n ∷ []) (decimal_in k (n / 10) ++ (hex_digit_ascii (n % 10) ∷ []))) ≡ n
    go true q f = omega (arith, digit_value n (ltb-true n 10 q))
    go false q f =
        let rest : n / 10 < 10 ^ k = (div-lt_iff_lt-mul {k = 10} {x = n} {y = 10 ^ k} (omega arith)).1 (omega (arith, pow-suc 10 k)) in
        omega (arith, one_digit_more 0 (decimal_in k (n / 10)) (hex_digit_ascii (n % 10)), f rest, digit_value (n % 10) (omega arith))

-- so no two numbers are printed alike
pub decimal_value : (n : ℕ) → n < 10 ^ 20 → value_of 0 (decimal n) ≡ n
unfolding decimal
decimal_value n h = value_is 20 n h

-- ---- what `io::decimal` writes

-- the fewest digits that hold n are those of `decimal_in`, where it has so many
fewest_are : (k n r : ℕ) → IsDigitCount 10 1 n r → r ≤ k → last_digits 10 r n ≡ decimal_in k n
unfolding decimal_in
fewest_are zero n r h g = absurd (omega (arith, h.0))
fewest_are (suc k) n zero h g = absurd (omega (arith, h.0))
fewest_are (suc k) n (suc zero) h g =
    let q : n < 10 = h.1 in
    ap (λ (x : ℕ). hex_digit_ascii x ∷ []) (mod-eq_of_lt q) ∙ sym (ap (λ b. pick b (hex_digit_ascii n ∷ []) (decimal_in k (n / 10) ++ (hex_digit_ascii (n % 10) ∷ []))) (lt-ltb n 10 q))
fewest_are (suc k) n (suc (suc r)) h g =
    let below : n < 10 ^ suc (suc r) = h.1 in
    let fewer : suc (suc r) - 1 ≡ suc r = omega arith in
    let above : 10 ^ suc r ≤ n = subst (λ (x : ℕ). 10 ^ x ≤ n) fewer (h.2 (omega arith)) in
    let least : suc r - 1 ≡ r = omega arith in
    let ten : 10 ≤ n = omega (arith, pow-suc 10 r, one-le-pow r 10 (omega arith)) in
    let rest : IsDigitCount 10 1 (n / 10) (suc r) = (
      omega arith,
      (div-lt_iff_lt-mul {k = 10} {x = n} {y = 10 ^ suc r} (omega arith)).1 (omega (arith, pow-suc 10 (suc r))),
      λ _. subst (λ (x : ℕ). 10 ^ x ≤ n / 10) (sym least) ((le-div_iff_mul-le {k = 10} {x = 10 ^ r} {y = n} (omega arith)).1 (omega (arith, pow-suc 10 r))),
    ) in
    ap (λ (l : List ℕ). l ++ (hex_digit_ascii (n % 10) ∷ [])) (fewest_are k (n / 10) (suc r) rest (omega arith))
    ∙ sym (ap (λ b. pick b (hex_digit_ascii n ∷ []) (decimal_in k (n / 10) ++ (hex_digit_ascii (n % 10) ∷ []))) (le-ltb n 10 ten))

-- and a 64-bit number has at most 20
twenty : (n r : ℕ) → n < 2 ^ 64 → IsDigitCount 10 1 n r → r ≤ 20
twenty n r h f = go (leb r 20) refl
  where
    go : (b : Bool) → leb r 20 ≡ b → r ≤ 20
    go true q = leb-true r 20 q
    go false q =
        let more : 20 < r = leb-false r 20 q in
        let high : 10 ^ 20 ≤ 10 ^ (r - 1) = pow-le-pow_right {n = 10} (omega arith) {i = 20} {j = r - 1} (omega arith) in
        absurd (omega (arith, high, f.2 (omega arith)))

pub decimal_is : (n r : ℕ) → n < 2 ^ 64 → IsDigitCount 10 1 n r → (r ≤ 20) × (last_digits 10 r n ≡ decimal n)
unfolding decimal
decimal_is n r h f = let g : r ≤ 20 = twenty n r h f in (g, fewest_are 20 n r f g)
