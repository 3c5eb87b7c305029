-- Where bits stand in words, over the width of a word: bit i of all, a word gathered from its last bit to its first, words stored one after another, and the one
-- word in which a bit past n can stand.
use Rattle.std.specs.Prelude.{Bool, true, false, List, ◌++◌, [], ◌∷◌, ◌≡◌, refl, ℕ, zero, suc, ◌+◌, ◌-◌, ◌*◌, ◌/◌, ◌%◌, ◌^◌, ◌≤◌, ◌<◌, min, ltb, eqb, length, drop, take, get_or, set}
use Rattle.std.proofs.Math.Bool.{and-true}
use Rattle.std.proofs.Common.{ap, sym, ◌∙◌, ap₂, suc-mul, div-one, div-add-mod', mod-lt, add-one, arith, lt-ltb, length-drop, length-take, pow_mono, shr-shr, drop-cons, drop-drop, get_or-append-add}
use Rattle.std.proofs.Math.ListN.{get_or-append}
use Rattle.std.proofs.lemmas.List.Edits.{sets}
use Rattle.rules.specs.Basics.{Under}
use Rattle.rules.specs.Bits.{bit, bits_value, digits, pack, lanes, clear}
use Rattle.rules.proofs.Laws.Bits.{value_digits, length_digits, length_pack, length_lanes, bits_value_lt}
use Rattle.rules.proofs.Laws.Places.{sets_none}
use Rattle.rules.specs.Bits.Places.{gathered, stored}

-- ---- which bit of which word

digit_at : (w c r : ℕ) → r < w → get_or (digits w c) r false ≡ eqb (c / 2 ^ r % 2) 1
unfolding digits
digit_at zero c r h = absurd (omega arith)
digit_at (suc w) c zero h = ap (λ x. eqb (x % 2) 1) (sym (div-one c))
digit_at (suc w) c (suc r) h =
    let e : c / 2 / 2 ^ r ≡ c / 2 ^ (1 + r) = shr-shr c 1 r in
    let n : 1 + r ≡ suc r = omega arith in
    digit_at w (c / 2) r (omega arith) ∙ ap (λ x. eqb (x % 2) 1) (e ∙ ap (λ x. c / 2 ^ x) n)

-- bit r of word q is bit q * w + r of all
lane_at : (w n q r : ℕ) (cs : List ℕ) → r < w → q * w + r < n → n ≤ length cs * w → get_or (lanes w n cs) (q * w + r) false ≡ eqb (get_or cs q 0 / 2 ^ r % 2) 1
unfolding lanes
lane_at w n q r [] l h k = absurd (omega arith)
lane_at w n zero r (c ∷ cs) l h k =
    let i : 0 * w + r ≡ r = omega arith in
    ap (λ x. get_or (digits (min w n) c ++ lanes w (n - w) cs) x false) i
    ∙ get_or-append (digits (min w n) c) (lanes w (n - w) cs) false r (omega (arith, length_digits (min w n) c))
    ∙ digit_at (min w n) c r (omega arith)
lane_at w n (suc q) r (c ∷ cs) l h k =
    let m : suc q * w ≡ q * w + w = suc-mul q w in
    let j : suc (length cs) * w ≡ length cs * w + w = suc-mul (length cs) w in
    let i : suc q * w + r ≡ length (digits (min w n) c) + (q * w + r) = omega (arith, length_digits (min w n) c) in
    ap (λ x. get_or (digits (min w n) c ++ lanes w (n - w) cs) x false) i
    ∙ get_or-append-add (digits (min w n) c) (lanes w (n - w) cs) (q * w + r) false
    ∙ lane_at w (n - w) q r cs l (omega arith) (omega arith)

-- bit i of all is bit i % w of word i / w
pub bit_at : (w n i : ℕ) (cs : List ℕ) → 0 < w → i < n → n ≤ length cs * w → get_or (lanes w n cs) i false ≡ eqb (get_or cs (i / w) 0 / 2 ^ (i % w) % 2) 1
bit_at w n i cs p h k =
    let e : i / w * w + i % w ≡ i = div-add-mod' i w in
    ap (λ x. get_or (lanes w n cs) x false) (sym e) ∙ lane_at w n (i / w) (i % w) cs (mod-lt i p) (omega arith) k

value_under : (k : ℕ) (l : List Bool) → length l ≤ k → bits_value l < 2 ^ k
value_under k l h = let p : 2 ^ length l ≤ 2 ^ k = pow_mono {i = length l} {j = k} h in omega (arith, bits_value_lt l)

-- past its last bit a word says nothing
pub gathered_none : (w from left u n : ℕ) (cs : List ℕ) → n ≤ length cs * u → left ≡ min w (n - from) → gathered w from left (lanes u n cs) ≡ 0
unfolding gathered
gathered_none w from left u n cs k e =
    let v = drop (from + left) (lanes u n cs) in
    omega (arith, value_under 0 (take (w - left) v) (omega (arith, length-take (w - left) v, length-drop (from + left) (lanes u n cs), length_lanes u n cs k)))

odd : (c : ℕ) → bit (eqb (c % 2) 1) ≡ c % 2
unfolding bits_value digits
odd c = let e : bit (eqb (c % 2) 1) + 2 * 0 ≡ c % 2 = value_digits 1 c in omega arith

-- one bit more
pub gathered_step : (w from left u n : ℕ) (cs : List ℕ) (x y : ℕ) → 0 < u → n ≤ length cs * u → 0 < left → left ≤ min w (n - from)
    → x ≡ gathered w from left (lanes u n cs) → y ≡ get_or cs ((from + (left - 1)) / u) 0 / 2 ^ ((from + (left - 1)) % u) % 2
    → x * 2 + y ≡ gathered w from (left - 1) (lanes u n cs)
unfolding gathered bits_value
gathered_step w from left u n cs x y p k h l ex ey =
    let v = lanes u n cs in
    let i = from + (left - 1) in
    let next : from + left ≡ suc i = omega arith in
    let more : w - (left - 1) ≡ suc (w - left) = omega arith in
    let here : drop i v ≡ get_or v i false ∷ drop (suc i) v = drop-cons v i false (omega (arith, length_lanes u n cs k)) in
    let bit_here : bit (get_or v i false) ≡ y = ap bit (bit_at u n i cs p (omega arith) k) ∙ odd (get_or cs (i / u) 0 / 2 ^ (i % u)) ∙ sym ey in
    let behind = rw next at ex in
    rw (more, here) (omega arith)

pub gathered_all : (w from left : ℕ) (v : List Bool) → left ≤ 0 → gathered w from left v ≡ bits_value (take w (drop from v))
unfolding gathered
gathered_all w from left v h =
    let a : w - left ≡ w = omega arith in
    let b : from + left ≡ from = omega arith in
    rw (a, b)

pub gathered_lt : (w from left k : ℕ) (v : List Bool) (x : ℕ) → x ≡ gathered w from left v → w ≤ left + k → x < 2 ^ k
unfolding gathered
gathered_lt w from left k v x e h =
    let l = drop (from + left) v in
    omega (arith, value_under k (take (w - left) l) (omega (arith, length-take (w - left) l)))

pub stored_all : (w k : ℕ) (v : List Bool) (at : ℕ) (out : List ℕ) → stored w k v at 0 out ≡ sets out at (pack w k v)
unfolding stored
stored_all w k v at out =
    let a : at + 0 ≡ at = omega arith in
    let b : k - 0 ≡ k = omega arith in
    let c : 0 * w ≡ 0 = omega arith in
    rw (a, b, c)

pub stored_step : (w k : ℕ) (v : List Bool) (at j : ℕ) (out : List ℕ) (x : ℕ) → j < k → x ≡ bits_value (take w (drop (j * w) v))
    → stored w k v at (j + 1) (set out (at + j) x) ≡ stored w k v at j out
unfolding stored pack
stored_step w k v at j out x h e =
    let a : at + (j + 1) ≡ suc (at + j) = omega arith in
    let b : (j + 1) * w ≡ j * w + w = omega (arith, suc-mul j w, add-one j) in
    let c : k - j ≡ suc (k - (j + 1)) = omega arith in
    rw (a, b, c, e, drop-drop)

-- after the last word, or the last place, nothing is left to store
pub stored_none : (w k : ℕ) (v : List Bool) (at j : ℕ) (out : List ℕ) → min k (length out - at) ≤ j → stored w k v at j out ≡ out
unfolding stored
stored_none w k v at j out h =
    let l = drop (j * w) v in
    sets_none (pack w (k - j) l) out (at + j) (λ p. omega (arith, length_pack w (k - j) l))

-- ---- bits past n

-- words that are there whole have none
pub clear_whole : (w n k : ℕ) (cs : List ℕ) → Under (2 ^ w) cs → min k (length cs) * w ≤ n → clear w n (take k cs) ≡ true
unfolding clear
clear_whole w n zero cs u h = refl
clear_whole w n (suc k) [] u h = refl
clear_whole w n (suc k) (c ∷ cs) u h =
    let a : min (suc k) (suc (length cs)) ≡ suc (min k (length cs)) = omega arith in
    let b : min k (length cs) * w + w ≤ n = rw (a, suc-mul (min k (length cs)) w) at h in
    let m : min w n ≡ w = omega arith in
    rw (m, lt-ltb c (2 ^ w) (u 0)) (clear_whole w (n - w) k cs (λ i. u (suc i)) (omega arith))

last_clear : (w q r : ℕ) (cs : List ℕ) → Under (2 ^ w) cs → r < w → q < length cs → clear w (q * w + r) (take (suc q) cs) ≡ ltb (get_or cs q 0) (2 ^ r)
unfolding clear
last_clear w q r [] u l h = absurd (omega arith)
last_clear w zero r (c ∷ cs) u l h =
    let m : min w (0 * w + r) ≡ r = omega arith in
    rw m (and-true (ltb c (2 ^ r)))
last_clear w (suc q) r (c ∷ cs) u l h =
    let j : suc q * w ≡ q * w + w = suc-mul q w in
    let m : min w (suc q * w + r) ≡ w = omega arith in
    let n : suc q * w + r - w ≡ q * w + r = omega arith in
    rw (m, n, lt-ltb c (2 ^ w) (u 0)) (last_clear w q r cs (λ i. u (suc i)) l (omega arith))

-- the word that n ends in has those from its bit n % w on
pub clear_last : (w n k : ℕ) (cs : List ℕ) → 0 < w → Under (2 ^ w) cs → n / w < length cs → k ≡ suc (n / w) → clear w n (take k cs) ≡ ltb (get_or cs (n / w) 0) (2 ^ (n % w))
clear_last w n k cs p u h e = ap₂ (λ m l. clear w m (take l cs)) (sym (div-add-mod' n w)) e ∙ last_clear w (n / w) (n % w) cs u (mod-lt n p) h
