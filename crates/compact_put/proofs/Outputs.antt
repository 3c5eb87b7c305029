-- Encodings as they are written: bytes in the front of an array of zeros, and the forms. `sets l at vs` is l with vs from place at on.
use Rattle.std.proofs.Common.{◌≡◌, ℕ, zero, suc, ◌+◌, ◌-◌, ◌*◌, ◌%◌, ◌^◌, ◌≤◌, ◌<◌, List, ◌∷◌, ◌++◌, length, drop, set, replicate, bit_or, refl, ap, ap₂, sym, ◌∙◌, append_assoc, arith, mod-eq_of_lt, length-append, drop_at}
use Rattle.std.proofs.lemmas.List.{length-replicate}
use Rattle.std.proofs.Math.ListN.{replicate-append-replicate}
use Rattle.std.proofs.lemmas.Nat.{or_shifted}
use Rattle.std.proofs.lemmas.List.Edits.{sets}
use Rattle.rules.specs.Bytes.{le_bytes, whole}
use Rattle.rules.specs.Compact.{significant, long, compact_bytes}
use Rattle.rules.proofs.Laws.Compact.Sizes.{significant_4}
use Rattle.rules.proofs.Laws.Compact.Encoding.{encode_0, encode_1, encode_2, length_long}
use Rattle.rules.proofs.Laws.Places.{sets_onto}
use Rattle.number.specs.Laws.{bytes_split}
use Rattle.compact_put.specs.declared.Encoded.{Encoded}
use Rattle.compact_put.specs.declared.Form.TheVariants.{One, Two, Four}
use Rattle.compact.specs.Sizes.{significant_16, under}
use Rattle.compact_put.specs.Padded.{padded, OfForm}

-- ---- bytes in the front of an array of zeros

abbrev zeros : ℕ → List ℕ
zeros n = replicate n 0

sets_front : (vs : List ℕ) (k : ℕ) → length vs + k ≡ 17 → sets (zeros 17) 0 vs ≡ vs ++ zeros k
sets_front vs k h =
    let rest : drop (length vs) (zeros 17) ≡ zeros k =
    ap (λ (m : ℕ). drop (length vs) (zeros m)) (sym h) ∙ ap (drop (length vs)) (sym (replicate-append-replicate (length vs) k 0))
    ∙ drop_at (zeros (length vs)) (zeros k) (length vs) (length-replicate (length vs) 0) in
    sets_onto vs (zeros 17) (omega arith) ∙ ap (λ (l : List ℕ). vs ++ l) rest

-- an encoding with k zeros after it, written there, is the encoding padded
pub padded_is : (bytes l : List ℕ) (k n : ℕ) → bytes ≡ sets (replicate 17 0) 0 (l ++ replicate k 0) → n ≡ length l → n + k ≤ 17
    → ◌≡◌ {A = Encoded} (record { bytes = bytes; len = n }) (padded l)
unfolding padded
padded_is bytes l k n e m h =
    let len : length (l ++ zeros k) ≡ n + k = length-append l (zeros k) ∙ ap₂ ◌+◌ (sym m) (length-replicate k 0) in
    let sum : k + (17 - (n + k)) ≡ 17 - length l = omega arith in
    let pads : zeros k ++ zeros (17 - (n + k)) ≡ zeros (17 - length l) = rw (replicate-append-replicate, sum) in
    ap₂ (λ (x : List ℕ) (y : ℕ). record { bytes = x; len = y })
    (e ∙ sets_front (l ++ zeros k) (17 - (n + k)) (omega arith) ∙ append_assoc l (zeros k) (zeros (17 - (n + k))) ∙ ap (λ (x : List ℕ). l ++ x) pads)
    m

-- ---- the forms

-- a left shift by two that loses nothing, and the form's number below it
tag : (m a f : ℕ) → a * 4 < m → f < 4 → bit_or ((a * 4) % m) f ≡ a * 4 + f
tag m a f h lt = rw (mod-eq_of_lt h) (or_shifted a 2 f lt)

pub plain_one : (low high : ℕ) → OfForm One (whole low high) → le_bytes 1 ((low * 4) % 2 ^ 64) ≡ compact_bytes (whole low high)
plain_one low high h =
    let e : (low * 4) % 2 ^ 64 ≡ whole low high * 4 = omega arith in
    ap (le_bytes 1) e ∙ sym (encode_0 (whole low high) h)

pub plain_two : (low high : ℕ) → OfForm Two (whole low high) → le_bytes 2 (bit_or ((low * 4) % 2 ^ 64) 1) ≡ compact_bytes (whole low high)
plain_two low high h =
    let e : low * 4 + 1 ≡ whole low high * 4 + 1 = omega arith in
    ap (le_bytes 2) (tag (2 ^ 64) low 1 (omega arith) (omega arith) ∙ e) ∙ sym (encode_1 (whole low high) h.0 h.1)

pub plain_four : (low high : ℕ) → OfForm Four (whole low high) → le_bytes 4 (bit_or ((low * 4) % 2 ^ 64) 2) ≡ compact_bytes (whole low high)
plain_four low high h =
    let e : low * 4 + 2 ≡ whole low high * 4 + 2 = omega arith in
    ap (le_bytes 4) (tag (2 ^ 64) low 2 (omega arith) (omega arith) ∙ e) ∙ sym (encode_2 (whole low high) h.0 h.1)

bytes_zero : (k : ℕ) → le_bytes k 0 ≡ zeros k
unfolding le_bytes
bytes_zero zero = refl
bytes_zero (suc k) = ap (λ (l : List ℕ). 0 ∷ l) (bytes_zero k)

-- bytes that are not significant are 0
bytes_pad : (n k v : ℕ) → v < 2 ^ (8 * n) → le_bytes (n + k) v ≡ le_bytes n v ++ zeros k
bytes_pad n k v h =
    let e : v ≡ v + 0 * 2 ^ (8 * n) = omega arith in
    ap (le_bytes (n + k)) e ∙ bytes_split n k v 0 h ∙ ap (λ (l : List ℕ). le_bytes n v ++ l) (bytes_zero k)

-- the long form: its first byte, and then the value in sixteen
pub counted_is : (n low high : ℕ) (b : List ℕ) → n ≡ significant (whole low high) → 2 ^ 30 ≤ whole low high → low < 2 ^ 64 → high < 2 ^ 64
    → b ≡ sets (set (replicate 17 0) 0 (bit_or (((n - 4) * 4) % 256) 3)) 1 (le_bytes 16 (whole low high))
    → ◌≡◌ {A = Encoded} (record { bytes = b; len = n + 1 }) (padded (long (significant (whole low high)) (whole low high)))
unfolding long
counted_is n low high b e large l h eb =
    let v = whole low high in
    let four : 4 ≤ n = omega (arith, significant_4 v large) in
    let most : n ≤ 16 = omega (arith, significant_16 low high l h) in
    let sum : n + (16 - n) ≡ 16 = omega arith in
    let first : bit_or (((n - 4) * 4) % 256) 3 ≡ (n - 4) * 4 + 3 = tag 256 (n - 4) 3 (omega arith) (omega arith) in
    let rest : le_bytes 16 v ≡ le_bytes n v ++ zeros (16 - n) = ap (λ (m : ℕ). le_bytes m v) (sym sum) ∙ bytes_pad n (16 - n) v (under n v most (omega arith)) in
    padded_is b (long n v) (16 - n) (n + 1) (eb ∙ ap₂ (λ (x : ℕ) (y : List ℕ). sets (set (zeros 17) 0 x) 1 y) first rest) (sym (length_long n v)) (omega arith)
    ∙ ap (λ (m : ℕ). padded (long m v)) e
