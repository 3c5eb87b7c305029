-- Lists as the code leaves them: `sets l i vs` is l with vs from place i on, as far as l goes, and `take (length s - k) (drop k s)` is the part `&s[k..]`.
use Rattle.std.specs.Prelude.{List, ◌++◌, [], ◌∷◌, ◌≡◌, refl, ℕ, suc, ◌+◌, ◌-◌, ◌≤◌, ◌<◌, min, length, drop, take, get_or, set}
use Rattle.std.proofs.Math.Decide.{dec_le}
use Rattle.std.proofs.Common.{append_assoc, ap, sym, ◌∙◌, le_of_eq, add-zero, add-one, arith, length-drop, take-append-drop, length-set, take_all, take-add, take-suc, length-take-le, drop_at, drop-drop}
use Rattle.std.proofs.lemmas.List.Edits.{sets, sets-eq}
use Rattle.std.proofs.Math.Seq.{set_out}
use Rattle.std.proofs.lemmas.List.{set_comm}
use Rattle.rules.specs.Basics.{onto}

pub sets_out : {A : Type 0} (vs l : List A) (i : ℕ) → length l ≤ i → sets l i vs ≡ l
sets_out [] l i h = refl
sets_out (v ∷ vs) l i h = ap (λ (m : List _). sets m (suc i) vs) (set_out l i v h) ∙ sets_out vs l (suc i) (omega arith)

-- no elements, or a place past the end
pub sets_none : {A : Type 0} (vs l : List A) (i : ℕ) → (0 < length vs → length l ≤ i) → sets l i vs ≡ l
sets_none [] l i h = refl
sets_none (v ∷ vs) l i h = sets_out (v ∷ vs) l i (h (omega arith))

pub sets_length : {A : Type 0} (vs l : List A) (i : ℕ) → length (sets l i vs) ≡ length l
sets_length [] l i = refl
sets_length (v ∷ vs) l i = sets_length vs (set l i v) (suc i) ∙ length-set l i v

-- one list after another
pub sets_join : {A : Type 0} (a b l : List A) (i : ℕ) → sets (sets l i a) (i + length a) b ≡ sets l i (a ++ b)
sets_join [] b l i = ap (λ (j : ℕ). sets l j b) (add-zero i)
sets_join (v ∷ a) b l i =
    let e : i + suc (length a) ≡ suc i + length a = omega arith in
    ap (λ (j : ℕ). sets (sets (set l i v) (suc i) a) j b) e ∙ sets_join a b (set l i v) (suc i)

-- the first elements of a list, and the next one behind them
pub sets_next : (s l : List ℕ) (p i : ℕ) → i < length s → set (sets l p (take i s)) (p + i) (get_or s i 0) ≡ sets l p (take (i + 1) s)
sets_next s l p i h =
    let k : length (take i s) ≡ i = length-take-le i s (omega arith) in
    ap (λ (x : ℕ). sets (sets l p (take i s)) (p + x) (get_or s i 0 ∷ [])) (sym k) ∙ sets_join (take i s) (get_or s i 0 ∷ []) l p
    ∙ ap (sets l p) (sym (take-suc s i 0 h) ∙ ap (λ (x : ℕ). take x s) (sym (add-one i)))

-- a store behind a list
pub sets_set : (vs l : List ℕ) (i j a : ℕ) → i + length vs ≤ j → sets (set l j a) i vs ≡ set (sets l i vs) j a
sets_set [] l i j a h = refl
sets_set (v ∷ vs) l i j a h =
    let far : j ≡ i → ⊥ = λ e. omega arith in
    ap (λ (m : List ℕ). sets m (suc i) vs) (set_comm l j i a v far) ∙ sets_set vs (set l i v) (suc i) j a (omega arith)

-- what stands there already
pub sets_same : (l : List ℕ) (i n : ℕ) → i + n ≤ length l → sets l i (take n (drop i l)) ≡ l
sets_same l i n h =
    let k : length (take n (drop i l)) ≡ n = length-take-le n (drop i l) (omega (arith, length-drop i l)) in
    sets-eq (take n (drop i l)) l i (omega arith) ∙ append_assoc (take i l) (take n (drop i l)) (drop (i + length (take n (drop i l))) l)
    ∙ ap (λ (x : ℕ). take i l ++ (take n (drop i l) ++ drop (i + x) l)) k ∙ ap (λ (m : List ℕ). take i l ++ (take n (drop i l) ++ m)) (sym (drop-drop n i l))
    ∙ ap (λ (m : List ℕ). take i l ++ m) (take-append-drop n (drop i l)) ∙ take-append-drop i l

-- from the front, where all of it goes in
pub sets_onto : (vs l : List ℕ) → length vs ≤ length l → sets l 0 vs ≡ onto vs l
sets_onto vs l h =
    let z : 0 + length vs ≡ length vs = omega arith in
    sets-eq vs l 0 (omega arith) ∙ ap (λ (k : ℕ). vs ++ drop k l) z

-- what a part of a list holds after all that fits it was copied there: j is the place, or the end, and k is how many fit
pub part_set : {A : Type 0} (vs l : List A) (i j k : ℕ) → j ≡ min i (length l) → k ≡ min (length vs) (length l - j) → take j l ++ (take k vs ++ drop k (drop j l)) ≡ sets l i vs
part_set vs l i j k ej ek = sym cut ∙ whole ∙ clamped (dec_le i (length l))
  where
    front : length (take k vs) ≡ k
    front = length-take-le k vs (omega arith)

    cut : sets l j (take k vs) ≡ take j l ++ (take k vs ++ drop k (drop j l))
    cut = sets-eq (take k vs) l j (omega (arith, front)) ∙ append_assoc (take j l) (take k vs) (drop (j + length (take k vs)) l) ∙ ap (λ m. take j l ++ (take k vs ++ m)) (ap (λ (x : ℕ). drop (j + x) l) front ∙ sym (drop-drop k j l))

    -- what does not fit falls past the end
    whole : sets l j (take k vs) ≡ sets l j vs
    whole =
        sym (sets_none (drop k vs) (sets l j (take k vs)) (j + k) (λ more. omega (arith, length-drop k vs, sets_length (take k vs) l j)))
        ∙ ap (λ (x : ℕ). sets (sets l j (take k vs)) (j + x) (drop k vs)) (sym front)
        ∙ sets_join (take k vs) (drop k vs) l j ∙ ap (sets l j) (take-append-drop k vs)

    clamped : Dec (i ≤ length l) → sets l j vs ≡ sets l i vs
    clamped (yes h) = let e : j ≡ i = omega arith in ap (λ (x : ℕ). sets l x vs) e
    clamped (no h) = sets_out vs l j (omega arith) ∙ sym (sets_out vs l i (omega arith))

-- two stores
pub two_stores : (l a b : List ℕ) (k x y : ℕ) → a ≡ set l k x → b ≡ set a (k + 1) y → b ≡ sets l k (x ∷ y ∷ [])
two_stores l a b k x y e f = f ∙ ap (λ (j : ℕ). set a j y) (add-one k) ∙ ap (λ (m : List ℕ). set m (suc k) y) e

-- `&s[k..]`
pub part_rest : (k : ℕ) (s : List ℕ) → take (length s - k) (drop k s) ≡ drop k s
part_rest k s = take_all (length s - k) (drop k s) (le_of_eq (length-drop k s))

-- the elements from i on of the first j
pub drop_take : (l : List ℕ) (i j : ℕ) → i ≤ j → j ≤ length l → drop i (take j l) ≡ take (j - i) (drop i l)
drop_take l i j h k =
    let e : j ≡ i + (j - i) = omega arith in
    ap (λ (x : ℕ). drop i (take x l)) e ∙ ap (drop i) (take-add i (j - i) l) ∙ drop_at (take i l) (take (j - i) (drop i l)) i (length-take-le i l (omega arith))

-- `s[0]` and `&s[1..]`
pub part_cons : (s : List ℕ) → (length s ≡ 0 → ⊥) → get_or s 0 0 ∷ take (length s - 1) (drop 1 s) ≡ s
part_cons [] h = absurd (h refl)
part_cons (b ∷ s) h = ap (λ (l : List ℕ). b ∷ l) (part_rest 1 (b ∷ s))
