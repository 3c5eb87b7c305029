-- The written rule of SCALE compact numbers, over naturals and lists of bytes, once for every width. A width is a count of bytes.
pub mod Sizes
pub mod Law
pub mod Grow
use Rattle.std.specs.Prelude.{Bool, List, [], ◌∷◌, ℕ, zero, suc, ◌+◌, ◌-◌, ◌*◌, ◌/◌, ◌%◌, ◌^◌, max, ltb, leb, eqb, length, take}
use Rattle.rules.specs.Basics.{pick}
use Rattle.rules.specs.Bytes.{le_value, le_bytes}

-- ---- writing

-- how many bytes of v are significant, of the first k: none for 0
unfoldable pub significant_in : ℕ → ℕ → ℕ
significant_in zero v = 0
significant_in (suc k) zero = 0
significant_in (suc k) (suc v) = suc (significant_in k (suc v / 256))

-- how many bytes of v are significant. No form holds more than 67 value bytes, so the rule is for v below 2 ^ 536.
unfoldable pub significant : ℕ → ℕ
significant v = significant_in 67 v

-- the long form: a byte that says how many value bytes follow, and these
unfoldable pub long : ℕ → ℕ → List ℕ
long n v = ((n - 4) * 4 + 3) ∷ le_bytes n v

-- the one encoding of v
unfoldable pub compact_bytes : ℕ → List ℕ
compact_bytes v =
    pick (ltb v 64) (le_bytes 1 (v * 4))
    (pick (ltb v (2 ^ 14)) (le_bytes 2 (v * 4 + 1))
    (pick (ltb v (2 ^ 30)) (le_bytes 4 (v * 4 + 2))
    (long (significant v) v)))

-- v is a value of width w
unfoldable pub fits : ℕ → ℕ → Bool
fits w v = ltb v (2 ^ (8 * w))

-- ---- reading

-- what reading answers: a value with the bytes that it took; short, 10; prefix, 12; out of range, 13
pub data Answer : Type 0 where
  value : ℕ → ℕ → Answer
  short : Answer
  prefix : Answer
  range : Answer

-- one answer for each form, which is below 4
abbrev pub by_form : ℕ → Answer → Answer → Answer → Answer → Answer
by_form zero a b c d = a
by_form (suc zero) a b c d = b
by_form (suc (suc zero)) a b c d = c
by_form (suc (suc (suc n))) a b c d = d

-- the answer a where n more bytes are there, else short
abbrev pub enough : ℕ → List ℕ → Answer → Answer
enough n s a = pick (ltb (length s) n) short a

-- the value v that n bytes said, where its form's values start at `least`
unfoldable pub settled : ℕ → ℕ → ℕ → ℕ → Answer
settled w least v n = pick (leb least v) (pick (fits w v) (value v n) range) range

-- the four forms, at width w, of a first byte b with s after it
unfoldable pub form0 : ℕ → ℕ → Answer
form0 w b = settled w 0 (b / 4) 1

unfoldable pub form1 : ℕ → ℕ → List ℕ → Answer
form1 w b s = enough 1 s (settled w 64 (le_value (b ∷ take 1 s) / 4) 2)

unfoldable pub form2 : ℕ → ℕ → List ℕ → Answer
form2 w b s = pick (ltb w 2) prefix (enough 3 s (settled w (2 ^ 14) (le_value (b ∷ take 3 s) / 4) 4))

-- n value bytes. They are refused at once where the width has fewer, by 13 at 32 bits and by 12 at any other width.
unfoldable pub form3 : ℕ → ℕ → List ℕ → Answer
form3 w n s =
    pick (ltb w n) (pick (eqb w 4) range prefix)
    (enough n s (settled w (max (2 ^ 30) (2 ^ (8 * (n - 1)))) (le_value (take n s)) (n + 1)))

-- what reading at width w answers: the low two bits of the first byte choose the form
unfoldable pub compact_from : ℕ → List ℕ → Answer
compact_from w [] = short
compact_from w (b ∷ s) = by_form (b % 4) (form0 w b) (form1 w b s) (form2 w b s) (form3 w (b / 4 + 4) s)
