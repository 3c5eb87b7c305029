-- Laws of the forms of a compact number, one for each way to an answer.
use Rattle.std.specs.Prelude.{true, List, [], ◌∷◌, ◌≡◌, refl, ℕ, ◌+◌, ◌-◌, ◌*◌, ◌/◌, ◌%◌, ◌^◌, max, ◌≤◌, ◌<◌, length, take}
use Rattle.std.proofs.Common.{ap, arith, ltb-true, lt-ltb, le-ltb, le-leb}
use Rattle.std.proofs.lemmas.Bool.{lt-leb}
use Rattle.rules.specs.Bytes.{le_value}
use Rattle.rules.specs.Compact.{fits, value, short, range, settled, form0, form1, form2, form3, compact_from}

-- ---- whether a value fits: the test and the fact

pub fits_lt : (w v : ℕ) → fits w v ≡ true → v < 2 ^ (8 * w)
unfolding fits
fits_lt w v e = ltb-true v (2 ^ (8 * w)) e

pub lt_fits : (w v : ℕ) → v < 2 ^ (8 * w) → fits w v ≡ true
unfolding fits
lt_fits w v e = lt-ltb v (2 ^ (8 * w)) e

-- ---- what is settled, one law for each way

pub settled_yes : (w least v n : ℕ) → least ≤ v → fits w v ≡ true → settled w least v n ≡ value v n
unfolding settled
settled_yes w least v n h e = simp (le-leb _ _ h, e)

pub settled_low : (w least v n : ℕ) → v < least → settled w least v n ≡ range
unfolding settled
settled_low w least v n h = simp (lt-leb _ _ h)

-- ---- each form, where its bytes are there: x is what the bytes after the first say

pub form1_there : (w b x : ℕ) (s : List ℕ) → 1 ≤ length s → x ≡ le_value (take 1 s) → settled w 64 ((b + x * 256) / 4) 2 ≡ form1 w b s
unfolding form1 le_value
form1_there w b x s h e =
    let e' : (b + x * 256) / 4 ≡ (b + 256 * le_value (take 1 s)) / 4 = omega arith in
    simp (le-ltb _ _ h) (ap (λ (y : ℕ). settled w 64 y 2) e')

pub form2_there : (w b x : ℕ) (s : List ℕ) → 2 ≤ w → 3 ≤ length s → x ≡ le_value (take 3 s) → settled w (2 ^ 14) ((b + x * 256) / 4) 4 ≡ form2 w b s
unfolding form2 le_value
form2_there w b x s h h' e =
    let e' : (b + x * 256) / 4 ≡ (b + 256 * le_value (take 3 s)) / 4 = omega arith in
    simp (le-ltb _ _ h, le-ltb _ _ h') (ap (λ (y : ℕ). settled w (2 ^ 14) y 4) e')

pub form3_there : (w n x : ℕ) (s : List ℕ) → n ≤ w → n ≤ length s → x ≡ le_value (take n s) → settled w (max (2 ^ 30) (2 ^ (8 * (n - 1)))) x (n + 1) ≡ form3 w n s
unfolding form3
form3_there w n x s h h' e =
    simp (le-ltb _ _ h, le-ltb _ _ h') (ap (λ (y : ℕ). settled w (max (2 ^ 30) (2 ^ (8 * (n - 1)))) y (n + 1)) e)

-- ---- which form a first byte chooses

pub at_none : (w : ℕ) (s : List ℕ) → length s ≡ 0 → short ≡ compact_from w s
unfolding compact_from
at_none w [] e = refl
at_none w (b ∷ s) e = absurd (omega arith)

pub at_0 : (w b : ℕ) (s : List ℕ) → b % 4 ≡ 0 → form0 w b ≡ compact_from w (b ∷ s)
unfolding compact_from
at_0 w b s e = rw e

pub at_1 : (w b : ℕ) (s : List ℕ) → b % 4 ≡ 1 → form1 w b s ≡ compact_from w (b ∷ s)
unfolding compact_from
at_1 w b s e = rw e

pub at_2 : (w b : ℕ) (s : List ℕ) → b % 4 ≡ 2 → form2 w b s ≡ compact_from w (b ∷ s)
unfolding compact_from
at_2 w b s e = rw e

pub at_3 : (w b : ℕ) (s : List ℕ) → b % 4 ≡ 3 → form3 w (b / 4 + 4) s ≡ compact_from w (b ∷ s)
unfolding compact_from
at_3 w b s e = rw e
