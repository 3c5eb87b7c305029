-- Bytes, lowest first, as std reads them into a word, and as the loop of `put` writes them.
use Rattle.std.proofs.Common.{◌≡◌, ℕ, zero, suc, ◌+◌, ◌-◌, ◌*◌, ◌/◌, ◌%◌, ◌^◌, ◌≤◌, ◌<◌, min, List, [], ◌∷◌, ◌++◌, length, drop, take, get_or, set, slice_index, refl, ap, sym, ◌∙◌, arith, add-one, pow-suc, mul_comm, take_all, length-append, append-nil, drop_of_length-le, length-drop, length-take-le, get_or-drop}
use Rattle.std.proofs.Math.Decide.{dec_le}
use Rattle.std.proofs.Math.Nat.{add-mul-mod_self_left, mod-eq_of_lt}
use Rattle.std.specs.Int.{w64, byte_worth, sum_through, from_le_bytes}
use Rattle.std.proofs.lemmas.List.Edits.{sets}
use Rattle.rules.specs.Bytes.{le_value, le_bytes}
use Rattle.rules.specs.Basics.{Under}
use Rattle.rules.proofs.Laws.Bytes.{pow8, length_bytes, value_lt}
use Rattle.rules.proofs.Laws.Places.{sets_onto, part_set}
use Rattle.number.specs.Laws.{value_split}

-- ---- reading

pow256 : (k : ℕ) → 2 ^ (8 * k) ≡ 256 ^ k
pow256 zero = refl
pow256 (suc k) = omega (arith, pow8 k, pow256 k, pow-suc 256 k)

value_one : (s : List ℕ) → le_value (take 1 s) ≡ get_or s 0 0
unfolding le_value
value_one [] = refl
value_one (b ∷ s) = omega arith

-- std's sum of what each byte is worth
value_through : (k : ℕ) (s : List ℕ) → sum_through (λ i. byte_worth i (slice_index s i)) k ≡ le_value (take (suc k) s)
value_through zero s = sym (value_one s)
value_through (suc k) s =
    let n : suc k + 1 ≡ suc (suc k) = add-one (suc k) in
    let next : le_value (take 1 (drop (suc k) s)) ≡ get_or s (suc k) 0 = value_one (drop (suc k) s) ∙ get_or-drop (suc k) s 0 0 ∙ ap (λ (i : ℕ). get_or s i 0) (omega arith) in
    rw (value_through k s, ← n, value_split (suc k) 1 s, next, pow256 (suc k)) (omega (arith, mul_comm (get_or s (suc k) 0) (256 ^ suc k)))

value_drop : (n : ℕ) (s : List ℕ) → le_value s ≡ 0 → le_value (drop n s) ≡ 0
unfolding le_value
value_drop zero s h = h
value_drop (suc n) [] h = h
value_drop (suc n) (b ∷ s) h = value_drop n s (omega arith)

value_append : (s t : List ℕ) → le_value t ≡ 0 → le_value (s ++ t) ≡ le_value s
unfolding le_value
value_append [] t h = h
value_append (b ∷ s) t h = rw (value_append s t h) refl

take_min : (m : ℕ) (t : List ℕ) → take (min m (length t)) t ≡ take m t
take_min m t = go (dec_le m (length t))
  where
    go : Dec (m ≤ length t) → take (min m (length t)) t ≡ take m t
    go (yes h) = let e : min m (length t) ≡ m = omega arith in ap (λ (k : ℕ). take k t) e
    go (no h) = take_all (min m (length t)) t (omega arith) ∙ sym (take_all m t (omega arith))

-- the first bytes of t, as many as are asked for and there, before zeros: `front` is copied over the first of eight zeros
pub word_value : (m n v : ℕ) (t front : List ℕ) → n ≡ min (min m 8) (length t) → front ≡ take n t
    → v ≡ from_le_bytes w64 (front ++ drop n (0 ∷ 0 ∷ 0 ∷ 0 ∷ 0 ∷ 0 ∷ 0 ∷ 0 ∷ [])) → v ≡ le_value (take (min m 8) t)
unfolding le_value
word_value m n v t front en ef ev =
    let none = 0 ∷ 0 ∷ 0 ∷ 0 ∷ 0 ∷ 0 ∷ 0 ∷ 0 ∷ [] in
    let bytes = take n t ++ drop n none in
    let all : length bytes ≤ 8 = omega (arith, length-append (take n t) (drop n none), length-take-le n t, length-drop n none) in
    let said : v ≡ from_le_bytes w64 bytes = rw ef at ev in
    said ∙ value_through 7 bytes ∙ ap le_value (take_all 8 bytes all) ∙ value_append (take n t) (drop n none) (value_drop n none refl)
    ∙ ap (λ (k : ℕ). le_value (take k t)) en ∙ ap le_value (take_min (min m 8) t)

-- where eight bytes are there: what they say, and of it the lowest n bytes
pub eight_value : (n v r : ℕ) (t eight : List ℕ) → Under 256 t → 8 ≤ length t → eight ≡ take 8 t → v ≡ from_le_bytes w64 eight → r ≡ v % 2 ^ (8 * min n 8) → r ≡ le_value (take (min n 8) t)
eight_value n v r t eight u h ee ev er =
    let m = min n 8 in
    let sum : m + (8 - m) ≡ 8 = omega arith in
    let all : le_value (take 8 t) ≡ le_value (take m t) + 2 ^ (8 * m) * le_value (take (8 - m) (drop m t)) = rw sum at (value_split m (8 - m) t) in
    let said : v ≡ le_value (take 8 t) = rw ee at ev ∙ value_through 7 (take 8 t) ∙ ap le_value (take_all 8 (take 8 t) (omega (arith, length-take-le 8 t h))) in
    er ∙ ap (λ (x : ℕ). x % 2 ^ (8 * m)) (said ∙ all) ∙ add-mul-mod_self_left (le_value (take m t)) (2 ^ (8 * m)) _ ∙ mod-eq_of_lt (value_lt m t u)

-- ---- writing

-- one byte more of n
pub put_step : (i n v b : ℕ) (out : List ℕ) → i < n → b ≡ v % 256 → sets (set out i b) (i + 1) (le_bytes (n - (i + 1)) (v / 256)) ≡ sets out i (le_bytes (n - i) v)
unfolding le_bytes
put_step i n v b out h e =
    let k : n - i ≡ suc (n - (i + 1)) = omega arith in
    rw (k, e, add-one i) refl

pub put_done : (i n v : ℕ) (out : List ℕ) → n ≤ i → sets out i (le_bytes (n - i) v) ≡ out
unfolding le_bytes
put_done i n v out h =
    let e : n - i ≡ 0 = omega arith in
    rw e refl

-- of n bytes the first k
pub bytes_front : (k n v : ℕ) → k ≤ n → take k (le_bytes n v) ≡ le_bytes k v
unfolding le_bytes
bytes_front zero n v h = refl
bytes_front (suc k) zero v h = absurd (omega arith)
bytes_front (suc k) (suc n) v h = ap (λ (l : List ℕ). v % 256 ∷ l) (bytes_front k n (v / 256) (omega arith))

-- all of the part from place j on: after i bytes, i of k, what the loop keeps gives the whole list. (j is the place, or the end, and k is how many fit.)
pub put_whole : (i j k at n left x : ℕ) (l part : List ℕ) → j ≡ min at (length l) → k ≡ min n (length l - j) → k ≤ i → length part ≡ length (take k (drop j l))
    → sets part i (le_bytes (length (take k (drop j l)) - i) left) ≡ sets (take k (drop j l)) 0 (le_bytes (length (take k (drop j l))) x)
    → take j l ++ (part ++ drop k (drop j l)) ≡ sets l at (le_bytes n x)
put_whole i j k at n left x l part ej ek h el e =
    let all : length (take k (drop j l)) ≡ k = length-take-le k (drop j l) (omega (arith, length-drop j l)) in
    let bytes : part ≡ take k (le_bytes n x) =
    sym (put_done i (length (take k (drop j l))) left part (omega (arith, all))) ∙ e ∙ sets_onto (le_bytes (length (take k (drop j l))) x) (take k (drop j l)) (omega (arith, length_bytes (length (take k (drop j l))) x))
    ∙ ap (λ (m : List ℕ). le_bytes (length (take k (drop j l))) x ++ m) (drop_of_length-le (take k (drop j l)) {i = length (le_bytes (length (take k (drop j l))) x)} (omega (arith, length_bytes (length (take k (drop j l))) x)))
    ∙ append-nil (le_bytes (length (take k (drop j l))) x) ∙ ap (λ (m : ℕ). le_bytes m x) all ∙ sym (bytes_front k n x (omega arith)) in
    rw bytes (part_set (le_bytes n x) l at j k ej (omega (arith, length_bytes n x)))
