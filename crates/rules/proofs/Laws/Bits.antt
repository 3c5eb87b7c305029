-- Laws of bits in words: bits come back from their words, and words from their bits but for the bits past the last.
pub mod Places
use Rattle.std.specs.Prelude.{Bool, true, false, ◌&&◌, List, ◌++◌, [], ◌∷◌, ◌≡◌, refl, ℕ, zero, suc, ◌+◌, ◌-◌, ◌*◌, ◌/◌, ◌%◌, ◌^◌, ◌≤◌, ◌<◌, min, ltb, leb, eqb, length, drop, take, replicate}
use Rattle.std.proofs.Common.{append-nil, ap, sym, ◌∙◌, ap₂, mod-eq_of_lt, pow-suc, arith, ltb-true, lt-ltb, leb-true, leb-false, eqb-true, eq-eqb, ne_eqb, length-drop, length-append, length-take, take-append-drop, drop_of_length-le, take_all, take_at, drop_at}
use Rattle.std.proofs.Math.Nat.{mod-one}
use Rattle.std.proofs.lemmas.Bool.{eqb-false}
use Rattle.std.proofs.lemmas.Nat.{mod-pow-add}
use Rattle.rules.specs.Basics.{All, Under}
use Rattle.rules.specs.Bits.{bit, bits_value, digits, pack, lanes, clear, counted, keep}
use Rattle.rules.specs.Bits.Laws.{Like}

-- both parts of a test that holds
pub both_true : (a b : Bool) → (a && b) ≡ true → (a ≡ true) × (b ≡ true)
both_true true b e = (refl, e)
both_true false b e = absurd (let z : ◌≡◌ {A = ℕ} 0 1 = cc in omega arith)

odd_bit : (c : ℕ) → bit (eqb (c % 2) 1) ≡ c % 2
odd_bit c = go (eqb (c % 2) 1) refl
  where
    go : (b : Bool) → eqb (c % 2) 1 ≡ b → bit b ≡ c % 2
    go true e = sym (eqb-true (c % 2) 1 e)
    go false e = let n : c % 2 ≡ 1 → ⊥ = eqb-false (c % 2) 1 e in omega arith

pub value_digits : (w c : ℕ) → bits_value (digits w c) ≡ c % 2 ^ w
unfolding bits_value digits
value_digits zero c = sym (mod-one c)
value_digits (suc w) c =
    let e : c % 2 ^ (w + 1) ≡ (c / 2 % 2 ^ w) * 2 + c % 2 = mod-pow-add c w 1 in
    let n : w + 1 ≡ suc w = omega arith in
    let f : bit (eqb (c % 2) 1) + 2 * bits_value (digits w (c / 2)) ≡ c % 2 ^ (w + 1) = omega (arith, odd_bit c, value_digits w (c / 2)) in
    rw n at f

pub digits_value : (v : List Bool) → digits (length v) (bits_value v) ≡ v
unfolding bits_value digits
digits_value [] = refl
digits_value (true ∷ v) =
    let a : (1 + 2 * bits_value v) % 2 ≡ 1 = omega arith in
    let b : (1 + 2 * bits_value v) / 2 ≡ bits_value v = omega arith in
    ap₂ (λ (x : Bool) (l : List Bool). x ∷ l) (eq-eqb _ 1 a) (ap (digits (length v)) b ∙ digits_value v)
digits_value (false ∷ v) =
    let a : (0 + 2 * bits_value v) % 2 ≡ 0 = omega arith in
    let b : (0 + 2 * bits_value v) / 2 ≡ bits_value v = omega arith in
    ap₂ (λ (x : Bool) (l : List Bool). x ∷ l) (ne_eqb ((0 + 2 * bits_value v) % 2) 1 (λ e. omega arith)) (ap (digits (length v)) b ∙ digits_value v)

pub length_digits : (w c : ℕ) → length (digits w c) ≡ w
unfolding digits
length_digits zero c = refl
length_digits (suc w) c = ap suc (length_digits w (c / 2))

pub length_pack : (w k : ℕ) (v : List Bool) → length (pack w k v) ≡ k
unfolding pack
length_pack w zero v = refl
length_pack w (suc k) v = ap suc (length_pack w k (drop w v))

-- a list of no elements
nil : {A : Type 0} (v : List A) → length v ≤ 0 → v ≡ []
nil [] h = refl
nil (b ∷ v) h = absurd (omega arith)

-- bits come back from their words
pub lanes_pack : (w k : ℕ) (v : List Bool) → length v ≤ k * w → lanes w (length v) (pack w k v) ≡ v
unfolding lanes pack
lanes_pack w zero v h = sym (nil v (omega arith))
lanes_pack w (suc k) v h =
    let a : min w (length v) ≡ length (take w v) = sym (length-take w v) in
    let b : length v - w ≡ length (drop w v) = sym (length-drop w v) in
    let c : length (drop w v) ≤ k * w = omega arith in
    ap₂ (λ (x y : List Bool). x ++ y)
    (ap (λ (n : ℕ). digits n (bits_value (take w v))) a ∙ digits_value (take w v))
    (ap (λ (n : ℕ). lanes w n (pack w k (drop w v))) b ∙ lanes_pack w k (drop w v) c)
    ∙ take-append-drop w v

lanes_none : (w : ℕ) (cs : List ℕ) → lanes w 0 cs ≡ []
unfolding lanes digits
lanes_none w [] = refl
lanes_none w (c ∷ cs) =
    let a : min w 0 ≡ 0 = omega arith in
    let b : 0 - w ≡ 0 = omega arith in
    ap₂ (λ (x : ℕ) (y : ℕ). digits x c ++ lanes w y cs) a b ∙ lanes_none w cs

pub length_lanes : (w n : ℕ) (cs : List ℕ) → n ≤ length cs * w → length (lanes w n cs) ≡ n
unfolding lanes
length_lanes w n [] h = omega arith
length_lanes w n (c ∷ cs) h =
    omega (arith, length-append (digits (min w n) c) (lanes w (n - w) cs), length_digits (min w n) c, length_lanes w (n - w) cs (omega arith))

-- the front and the rest of a word's bits and those after it
lanes_front : (w n c : ℕ) (cs : List ℕ) → take w (lanes w n (c ∷ cs)) ≡ digits (min w n) c
unfolding lanes
lanes_front w n c cs = go (leb w n) refl
  where
    go : (b : Bool) → leb w n ≡ b → take w (digits (min w n) c ++ lanes w (n - w) cs) ≡ digits (min w n) c
    go true e =
        let l : w ≤ n = leb-true w n e in
        let m : length (digits (min w n) c) ≡ w = length_digits (min w n) c ∙ omega arith in
        take_at (digits (min w n) c) (lanes w (n - w) cs) w m
    go false e =
        let l : n < w = leb-false w n e in
        let z : n - w ≡ 0 = omega arith in
        let r : digits (min w n) c ++ lanes w (n - w) cs ≡ digits (min w n) c =
        ap (λ (x : ℕ). digits (min w n) c ++ lanes w x cs) z ∙ ap (λ (x : List Bool). digits (min w n) c ++ x) (lanes_none w cs) ∙ append-nil (digits (min w n) c) in
        ap (take w) r ∙ take_all w (digits (min w n) c) (omega (arith, length_digits (min w n) c))

lanes_rest : (w n c : ℕ) (cs : List ℕ) → drop w (lanes w n (c ∷ cs)) ≡ lanes w (n - w) cs
unfolding lanes
lanes_rest w n c cs = go (leb w n) refl
  where
    go : (b : Bool) → leb w n ≡ b → drop w (digits (min w n) c ++ lanes w (n - w) cs) ≡ lanes w (n - w) cs
    go true e =
        let l : w ≤ n = leb-true w n e in
        let m : length (digits (min w n) c) ≡ w = length_digits (min w n) c ∙ omega arith in
        drop_at (digits (min w n) c) (lanes w (n - w) cs) w m
    go false e =
        let l : n < w = leb-false w n e in
        let z : n - w ≡ 0 = omega arith in
        let k : lanes w (n - w) cs ≡ [] = ap (λ (x : ℕ). lanes w x cs) z ∙ lanes_none w cs in
        let r : digits (min w n) c ++ lanes w (n - w) cs ≡ digits (min w n) c = ap (λ (x : List Bool). digits (min w n) c ++ x) k ∙ append-nil (digits (min w n) c) in
        ap (drop w) r ∙ drop_of_length-le (digits (min w n) c) {i = w} (omega (arith, length_digits (min w n) c)) ∙ sym k

-- words come back from their bits, but for the bits past n
pub pack_lanes : (w n : ℕ) (cs : List ℕ) → Like (counted w (length cs) n) (pack w (length cs) (lanes w n cs)) cs
unfolding Like counted pack
pack_lanes w n [] = tt
pack_lanes w n (c ∷ cs) =
    (ap bits_value (lanes_front w n c cs) ∙ value_digits (min w n) c, rw lanes_rest (pack_lanes w (n - w) cs))

-- wholly, where no bit past n is set
pub pack_clear : (w n : ℕ) (cs : List ℕ) → clear w n cs ≡ true → pack w (length cs) (lanes w n cs) ≡ cs
unfolding clear pack
pack_clear w n [] e = refl
pack_clear w n (c ∷ cs) e =
    let a = both_true (ltb c (2 ^ min w n)) (clear w (n - w) cs) e in
    ap₂ (λ (x : ℕ) (l : List ℕ). x ∷ l)
    (ap bits_value (lanes_front w n c cs) ∙ value_digits (min w n) c ∙ mod-eq_of_lt (ltb-true c (2 ^ min w n) a.0))
    (ap (pack w (length cs)) (lanes_rest w n c cs) ∙ pack_clear w (n - w) cs a.1)

pub bits_value_lt : (v : List Bool) → bits_value v < 2 ^ length v
unfolding bits_value
bits_value_lt [] = omega arith
bits_value_lt (true ∷ v) = omega (arith, bits_value_lt v, pow-suc 2 (length v))
bits_value_lt (false ∷ v) = omega (arith, bits_value_lt v, pow-suc 2 (length v))

-- what is packed has no bit past its length
pub clear_pack : (w k : ℕ) (v : List Bool) → clear w (length v) (pack w k v) ≡ true
unfolding clear pack
clear_pack w zero v = refl
clear_pack w (suc k) v =
    let a : bits_value (take w v) < 2 ^ min w (length v) = rw (length-take w v) at (bits_value_lt (take w v)) in
    let b : length v - w ≡ length (drop w v) = sym (length-drop w v) in
    rw (lt-ltb (bits_value (take w v)) (2 ^ min w (length v)) a, b) (clear_pack w k (drop w v))

-- ---- `Like`

pub like_append : (ks w l ks' w' l' : List ℕ) → Like ks w l → Like ks' w' l' → Like (ks ++ ks') (w ++ w') (l ++ l')
unfolding Like
like_append [] [] [] ks' w' l' h g = g
like_append [] [] (c ∷ l) ks' w' l' h g = absurd h
like_append [] (b ∷ w) l ks' w' l' h g = absurd h
like_append (k ∷ ks) [] l ks' w' l' h g = absurd h
like_append (k ∷ ks) (b ∷ w) [] ks' w' l' h g = absurd h
like_append (k ∷ ks) (b ∷ w) (c ∷ l) ks' w' l' h g = (h.0, like_append ks w l ks' w' l' h.1 g)

-- where all bits of each unit count
pub like_same : (k : ℕ) (l : List ℕ) → Under (2 ^ k) l → Like (replicate (length l) k) l l
unfolding Like
like_same k [] h = tt
like_same k (c ∷ l) h = (sym (mod-eq_of_lt (h 0)), like_same k l (λ i. h (suc i)))

pub same_like : (k : ℕ) (ks w l : List ℕ) → All (λ x. x ≡ k) ks → Under (2 ^ k) l → Like ks w l → w ≡ l
unfolding Like
same_like k [] [] [] a h e = refl
same_like k [] [] (c ∷ l) a h e = absurd e
same_like k [] (b ∷ w) l a h e = absurd e
same_like k (j ∷ ks) [] l a h e = absurd e
same_like k (j ∷ ks) (b ∷ w) [] a h e = absurd e
same_like k (j ∷ ks) (b ∷ w) (c ∷ l) a h e =
    ap₂ (λ (x : ℕ) (y : List ℕ). x ∷ y) (e.0 ∙ ap (λ (x : ℕ). c % 2 ^ x) a.0 ∙ mod-eq_of_lt (h 0)) (same_like k ks w l a.1 (λ i. h (suc i)) e.1)

pub like_keep : (ks w l : List ℕ) → Like ks w l → (w ≡ keep ks l) × (length w ≡ length l)
unfolding Like
like_keep [] [] [] e = (refl, refl)
like_keep [] [] (c ∷ l) e = absurd e
like_keep [] (b ∷ w) l e = absurd e
like_keep (k ∷ ks) [] l e = absurd e
like_keep (k ∷ ks) (b ∷ w) [] e = absurd e
like_keep (k ∷ ks) (b ∷ w) (c ∷ l) e =
    let r = like_keep ks w l e.1 in
    (ap₂ (λ (x : ℕ) (y : List ℕ). x ∷ y) e.0 r.0, ap suc r.1)
