-- THE LAW of compact numbers, once over the width: a number is read at a width exactly if the bytes open with that value's one encoding and the value fits
-- the width. `compact_reads` is one half, `compact_opens` the other, `compact_exactly` both.
use Rattle.std.specs.Prelude.{Bool, true, false, List, ◌++◌, [], ◌∷◌, ◌↔◌, ◌≡◌, ltb, leb, eqb, length, drop}
use Rattle.std.proofs.Math.Path.{refl}
use Rattle.std.proofs.Common.{ap, sym, ◌∙◌, ap₂, lt_of_lt_of_le, add-one, arith, ltb-false, leb-true, length-append, take-append-drop, pow_mono, take_at, length-take-le, ℕ, zero, suc, ◌+◌, ◌-◌, ◌*◌, ◌/◌, ◌%◌, ◌^◌, max, ◌≤◌, ◌<◌}
use Rattle.std.proofs.Math.Decide.{dec_lt}
use Rattle.std.proofs.Math.ListN.{take}
use Rattle.rules.specs.Basics.{pick, Under}
use Rattle.rules.specs.Bytes.{le_value, le_bytes}
use Rattle.rules.proofs.Laws.Bytes.{under_take, value_lt, length_bytes, value_bytes, bytes_value}
use Rattle.rules.specs.Compact.{significant, long, compact_bytes, fits, Answer, value, short, prefix, range, enough, settled, form0, form1, form2, form3, compact_from}
use Rattle.rules.proofs.Laws.Compact.Sizes.{significant_is, significant_of, significant_4}
use Rattle.rules.proofs.Laws.Compact.Encoding.{encode_0, encode_1, encode_2, encode_3, length_long}
use Rattle.rules.proofs.Laws.Compact.Answers.{fits_lt, lt_fits, settled_yes, form1_there, form2_there, form3_there, at_0, at_1, at_2, at_3}
use Rattle.rules.specs.Compact.Law.{Opens}

-- a power of two that is below another has the lower exponent
pub below_exp : (i j v : ℕ) → 2 ^ i ≤ v → v < 2 ^ j → i < j
below_exp i j v a b = go (dec_lt i j)
  where
    go : Dec (i < j) → i < j
    go (yes h) = h
    go (no k) = absurd (omega (arith, pow_mono {i = j} {j = i} (omega arith)))

-- ---- what opens with an encoding is read, form by form

opens_0 : (w v : ℕ) (s : List ℕ) → v < 64 → fits w v ≡ true → compact_from w (le_bytes 1 (v * 4) ++ s) ≡ value v 1
unfolding le_bytes form0
opens_0 w v s h f =
    let e : (v * 4) % 256 % 4 ≡ 0 = omega arith in
    let m : (v * 4) % 256 ≡ v * 4 = omega arith in
    let e' : (v * 4) % 256 / 4 ≡ v = rw m (omega arith) in
    sym (at_0 w ((v * 4) % 256) s e) ∙ ap (λ (x : ℕ). settled w 0 x 1) e' ∙ settled_yes w 0 v 1 (omega arith) f

opens_1 : (w v : ℕ) (s : List ℕ) → 64 ≤ v → v < 2 ^ 14 → fits w v ≡ true → compact_from w (le_bytes 2 (v * 4 + 1) ++ s) ≡ value v 2
unfolding le_bytes le_value
opens_1 w v s h h' f =
    let b = (v * 4 + 1) % 256 in
    let t = (v * 4 + 1) / 256 % 256 ∷ s in
    let e : b % 4 ≡ 1 = omega arith in
    let sum : b + le_value (take 1 t) * 256 ≡ v * 4 + 1 = omega (arith, value_bytes 2 (v * 4 + 1) (omega arith)) in
    let e' : (b + le_value (take 1 t) * 256) / 4 ≡ v = rw sum (omega arith) in
    sym (at_1 w b t e) ∙ sym (form1_there w b (le_value (take 1 t)) t (omega arith) refl) ∙ ap (λ (x : ℕ). settled w 64 x 2) e' ∙ settled_yes w 64 v 2 h f

opens_2 : (w v : ℕ) (s : List ℕ) → 2 ^ 14 ≤ v → v < 2 ^ 30 → fits w v ≡ true → compact_from w (le_bytes 4 (v * 4 + 2) ++ s) ≡ value v 4
unfolding le_bytes le_value
opens_2 w v s h h' f =
    let x = v * 4 + 2 in
    let b = x % 256 in
    let t = x / 256 % 256 ∷ x / 256 / 256 % 256 ∷ x / 256 / 256 / 256 % 256 ∷ s in
    let e : b % 4 ≡ 2 = omega arith in
    let sum : b + le_value (take 3 t) * 256 ≡ v * 4 + 2 = omega (arith, value_bytes 4 (v * 4 + 2) (omega arith)) in
    let e' : (b + le_value (take 3 t) * 256) / 4 ≡ v = rw sum (omega arith) in
    let wide : 2 ≤ w = omega (arith, below_exp 14 (8 * w) v h (fits_lt w v f)) in
    sym (at_2 w b t e) ∙ sym (form2_there w b (le_value (take 3 t)) t wide (omega arith) refl) ∙ ap (λ (x : ℕ). settled w (2 ^ 14) x 4) e' ∙ settled_yes w (2 ^ 14) v 4 h f

opens_3 : (w n v : ℕ) (s : List ℕ) → 3 ≤ n → n < 67 → 2 ^ 30 ≤ v → 2 ^ (8 * n) ≤ v → v < 2 ^ (8 * suc n) → fits w v ≡ true → compact_from w (long (suc n) v ++ s) ≡ value v (suc n + 1)
unfolding long
opens_3 w n v s lo hi h below above f =
    let b = (suc n - 4) * 4 + 3 in
    let t = le_bytes (suc n) v ++ s in
    let e : b % 4 ≡ 3 = omega arith in
    let count : b / 4 + 4 ≡ suc n = omega arith in
    let there : suc n ≤ length t = omega (arith, length-append (le_bytes (suc n) v) s, length_bytes (suc n) v) in
    let says : v ≡ le_value (take (suc n) t) = sym (ap le_value (take_at (le_bytes (suc n) v) s (suc n) (length_bytes (suc n) v)) ∙ value_bytes (suc n) v above) in
    let wide : suc n ≤ w = omega (arith, below_exp (8 * n) (8 * w) v below (fits_lt w v f)) in
    let less : suc n - 1 ≡ n = omega arith in
    let least : max (2 ^ 30) (2 ^ (8 * (suc n - 1))) ≤ v = rw less (omega arith) in
    sym (at_3 w b t e) ∙ ap (λ (m : ℕ). form3 w m t) count ∙ sym (form3_there w (suc n) v t wide there says)
    ∙ settled_yes w (max (2 ^ 30) (2 ^ (8 * (suc n - 1)))) v (suc n + 1) least f

-- what opens with a value's encoding is read at every width that the value fits, and the encoding's bytes are what is used
pub compact_reads : (w v : ℕ) (s : List ℕ) → v < 2 ^ 536 → fits w v ≡ true → compact_from w (compact_bytes v ++ s) ≡ value v (length (compact_bytes v))
compact_reads w v s small f = go (dec_lt v 64) (dec_lt v (2 ^ 14)) (dec_lt v (2 ^ 30))
  where
    go : Dec (v < 64) → Dec (v < 2 ^ 14) → Dec (v < 2 ^ 30) → compact_from w (compact_bytes v ++ s) ≡ value v (length (compact_bytes v))
    go (yes h) p q = rw (encode_0 v h) (opens_0 w v s h f ∙ ap (value v) (sym (length_bytes 1 (v * 4))))
    go (no a) (yes h) q =
        let a' : 64 ≤ v = omega arith in
        rw (encode_1 v a' h) (opens_1 w v s a' h f ∙ ap (value v) (sym (length_bytes 2 (v * 4 + 1))))
    go (no a) (no b) (yes h) =
        let b' : 2 ^ 14 ≤ v = omega arith in
        rw (encode_2 v b' h) (opens_2 w v s b' h f ∙ ap (value v) (sym (length_bytes 4 (v * 4 + 2))))
    go (no a) (no b) (no c) =
        let c' : 2 ^ 30 ≤ v = omega arith in
        let t = significant_of v (omega arith) small in
        let n : significant v ≡ suc t.0 = significant_is t.0 v t.1 (t.2, t.3) in
        let four : 4 ≤ significant v = significant_4 v c' in
        rw (encode_3 v c', n)
        (opens_3 w t.0 v s (omega arith) t.1 c' t.2 t.3 f ∙ ap (value v) (sym (length_long (suc t.0) v)))

-- ---- what is read opens with an encoding, form by form

-- an answer that is a value was settled as one
settled_says : (w least x m v n : ℕ) → settled w least x m ≡ value v n → (least ≤ v) × (fits w v ≡ true) × (x ≡ v) × (m ≡ n)
unfolding settled
settled_says w least x m v n e = go (leb least x) refl (fits w x) refl e
  where
    go : (t : Bool) → leb least x ≡ t → (u : Bool) → fits w x ≡ u → pick t (pick u (value x m) range) range ≡ value v n → (least ≤ v) × (fits w v ≡ true) × (x ≡ v) × (m ≡ n)
    go true l true f p =
        let a : x ≡ v = cc in
        let b : m ≡ n = cc in
        (rw a at (leb-true least x l), ap (fits w) (sym a) ∙ f, a, b)
    go true l false f p = absurd (let z : ◌≡◌ {A = ℕ} 0 1 = cc in omega arith)
    go false l u f p = absurd (let z : ◌≡◌ {A = ℕ} 0 1 = cc in omega arith)

-- a test whose one side is no value was passed
past : (t : Bool) (a b : Answer) (v n : ℕ) → (a ≡ value v n → ⊥) → pick t a b ≡ value v n → (t ≡ false) × (b ≡ value v n)
past true a b v n never e = absurd (never e)
past false a b v n never e = (refl, e)

no_short : (v n : ℕ) → short ≡ value v n → ⊥
no_short v n e = let z : ◌≡◌ {A = ℕ} 0 1 = cc in omega arith

enough_says : (k : ℕ) (s : List ℕ) (a : Answer) (v n : ℕ) → enough k s a ≡ value v n → (ltb (length s) k ≡ false) × (a ≡ value v n)
enough_says k s a v n e = past (ltb (length s) k) _ a v n (no_short v n) e

no_prefix : (v n : ℕ) → prefix ≡ value v n → ⊥
no_prefix v n e = let z : ◌≡◌ {A = ℕ} 0 1 = cc in omega arith

no_early : (t : Bool) (v n : ℕ) → pick t range prefix ≡ value v n → ⊥
no_early true v n e = let z : ◌≡◌ {A = ℕ} 0 1 = cc in omega arith
no_early false v n e = let z : ◌≡◌ {A = ℕ} 0 1 = cc in omega arith

says_0 : (w b v n : ℕ) (s : List ℕ) → Under 256 (b ∷ s) → b % 4 ≡ 0 → form0 w b ≡ value v n → Opens w v n (b ∷ s)
unfolding form0 le_bytes
says_0 w b v n s h f e =
    let r = settled_says w 0 (b / 4) 1 v n e in
    let b' : b < 256 = h 0 in
    let v' : b / 4 ≡ v = r.2 in
    let small : v < 64 = omega arith in
    let same : (v * 4) % 256 ≡ b = omega arith in
    let code : compact_bytes v ≡ b ∷ [] = encode_0 v small ∙ ap (λ (x : ℕ). x ∷ []) same in
    record { fitting = r.1; used = sym r.3 ∙ sym (ap length code); bytes = rw (← r.3) (sym code) }

says_1 : (w b v n : ℕ) (s : List ℕ) → Under 256 (b ∷ s) → b % 4 ≡ 1 → form1 w b s ≡ value v n → Opens w v n (b ∷ s)
unfolding form1 le_value
says_1 w b v n s h f e =
    let there = enough_says 1 s _ v n e in
    let l : 1 ≤ length s = ltb-false (length s) 1 there.0 in
    let r = settled_says w 64 ((b + 256 * le_value (take 1 s)) / 4) 2 v n there.1 in
    let v' : (b + 256 * le_value (take 1 s)) / 4 ≡ v = r.2 in
    let x : v * 4 + 1 ≡ le_value (b ∷ take 1 s) = omega arith in
    let small : v < 2 ^ 14 = omega (arith, h 0, value_lt 1 s (λ i. h (suc i))) in
    let two : length (b ∷ take 1 s) ≡ 2 = ap suc (length-take-le 1 s l) in
    let code : compact_bytes v ≡ b ∷ take 1 s = encode_1 v r.0 small ∙ ap₂ le_bytes (sym two) x ∙ bytes_value (b ∷ take 1 s) (under_take 256 2 (b ∷ s) h) in
    record { fitting = r.1; used = sym r.3 ∙ sym (ap length code ∙ two); bytes = rw (← r.3) (sym code) }

says_2 : (w b v n : ℕ) (s : List ℕ) → Under 256 (b ∷ s) → b % 4 ≡ 2 → form2 w b s ≡ value v n → Opens w v n (b ∷ s)
unfolding form2 le_value
says_2 w b v n s h f e =
    let early = past (ltb w 2) prefix _ v n (no_prefix v n) e in
    let there = enough_says 3 s _ v n early.1 in
    let l : 3 ≤ length s = ltb-false (length s) 3 there.0 in
    let r = settled_says w (2 ^ 14) ((b + 256 * le_value (take 3 s)) / 4) 4 v n there.1 in
    let v' : (b + 256 * le_value (take 3 s)) / 4 ≡ v = r.2 in
    let x : v * 4 + 2 ≡ le_value (b ∷ take 3 s) = omega arith in
    let small : v < 2 ^ 30 = omega (arith, h 0, value_lt 3 s (λ i. h (suc i))) in
    let four : length (b ∷ take 3 s) ≡ 4 = ap suc (length-take-le 3 s l) in
    let code : compact_bytes v ≡ b ∷ take 3 s = encode_2 v r.0 small ∙ ap₂ le_bytes (sym four) x ∙ bytes_value (b ∷ take 3 s) (under_take 256 4 (b ∷ s) h) in
    record { fitting = r.1; used = sym r.3 ∙ sym (ap length code ∙ four); bytes = rw (← r.3) (sym code) }

says_3 : (w b v n : ℕ) (s : List ℕ) → Under 256 (b ∷ s) → b % 4 ≡ 3 → form3 w (b / 4 + 4) s ≡ value v n → Opens w v n (b ∷ s)
unfolding form3 long
says_3 w b v n s h f e =
    let k = b / 4 + 4 in
    let early = past (ltb w k) (pick (eqb w 4) range prefix) _ v n (no_early (eqb w 4) v n) e in
    let there = enough_says k s _ v n early.1 in
    let l : k ≤ length s = ltb-false (length s) k there.0 in
    let r = settled_says w (max (2 ^ 30) (2 ^ (8 * (k - 1)))) (le_value (take k s)) (k + 1) v n there.1 in
    let v' : le_value (take k s) ≡ v = r.2 in
    let b' : b < 256 = h 0 in
    let tail : Under 256 s = λ i. h (suc i) in
    let large : 2 ^ 30 ≤ v = omega (arith, r.0) in
    let top : 2 ^ (8 * (k - 1)) ≤ v = omega (arith, r.0) in
    let next : suc (k - 1) ≡ k = omega arith in
    let above : v < 2 ^ (8 * suc (k - 1)) = rw (next, ← v') (value_lt k s tail) in
    let n' : significant v ≡ k = significant_is (k - 1) v (omega arith) (top, above) ∙ next in
    let len : length (take k s) ≡ k = length-take-le k s l in
    let first : (k - 4) * 4 + 3 ≡ b = omega arith in
    let rest : le_bytes k v ≡ take k s = ap₂ le_bytes (sym len) (sym v') ∙ bytes_value (take k s) (under_take 256 k s tail) in
    let code : compact_bytes v ≡ b ∷ take k s = encode_3 v large ∙ ap (λ (m : ℕ). long m v) n' ∙ ap₂ (λ (x : ℕ) (y : List ℕ). x ∷ y) first rest in
    let m : n ≡ suc k = sym r.3 ∙ add-one k in
    record { fitting = r.1; used = m ∙ sym (ap length code ∙ ap suc len); bytes = rw m (sym code) }

-- what is read at a width opens with the encoding of a value that fits the width
pub compact_opens : (w v n : ℕ) (s : List ℕ) → Under 256 s → compact_from w s ≡ value v n → Opens w v n s
compact_opens w v n [] h e = absurd (no_short v n (unfold compact_from in e))
compact_opens w v n (b ∷ s) h e = go (b % 4) refl (mod_4 b)
  where
    mod_4 : (b : ℕ) → b % 4 < 4
    mod_4 b = omega arith

    go : (f : ℕ) → b % 4 ≡ f → f < 4 → Opens w v n (b ∷ s)
    go zero q lt = says_0 w b v n s h q (at_0 w b s q ∙ e)
    go (suc zero) q lt = says_1 w b v n s h q (at_1 w b s q ∙ e)
    go (suc (suc zero)) q lt = says_2 w b v n s h q (at_2 w b s q ∙ e)
    go (suc (suc (suc zero))) q lt = says_3 w b v n s h q (at_3 w b s q ∙ e)
    go (suc (suc (suc (suc f)))) q lt = absurd (omega arith)

-- THE LAW
pub compact_exactly : (w v n : ℕ) (s : List ℕ) → w ≤ 67 → Under 256 s → (compact_from w s ≡ value v n) ↔ Opens w v n s
compact_exactly w v n s wide h = (compact_opens w v n s h, back)
  where
    back : Opens w v n s → compact_from w s ≡ value v n
    back o =
        let small : v < 2 ^ 536 = lt_of_lt_of_le (fits_lt w v o.fitting) (pow_mono {i = 8 * w} {j = 536} (omega arith)) in
        let split : s ≡ compact_bytes v ++ drop n s = sym (take-append-drop n s) ∙ ap (λ (l : List ℕ). l ++ drop n s) o.bytes in
        ap (compact_from w) split ∙ compact_reads w v (drop n s) small o.fitting ∙ ap (value v) (sym o.used)

-- no bytes open with the encodings of two values: no encoding is a prefix of another value's
pub compact_one : (v v' : ℕ) (s s' : List ℕ) → v < 2 ^ 536 → v' < 2 ^ 536 → compact_bytes v ++ s ≡ compact_bytes v' ++ s' → v ≡ v'
compact_one v v' s s' h h' e =
    let a : compact_from 67 (compact_bytes v ++ s) ≡ value v (length (compact_bytes v)) = compact_reads 67 v s h (lt_fits 67 v h) in
    let b : compact_from 67 (compact_bytes v' ++ s') ≡ value v' (length (compact_bytes v')) = compact_reads 67 v' s' h' (lt_fits 67 v' h') in
    let same : value v (length (compact_bytes v)) ≡ value v' (length (compact_bytes v')) = sym a ∙ ap (compact_from 67) e ∙ b in
    cc same

-- ---- what was read is there and fits, whatever the list holds

took_enough : (k w least x m v n : ℕ) (s : List ℕ) → m ≡ suc k → enough k s (settled w least x m) ≡ value v n → (1 ≤ n) × (n ≤ suc (length s)) × (fits w v ≡ true)
took_enough k w least x m v n s q e =
    let there = enough_says k s (settled w least x m) v n e in
    let r = settled_says w least x m v n there.1 in
    (omega (arith, r.3), omega (arith, ltb-false (length s) k there.0, r.3), r.1)

pub compact_took : (w v n : ℕ) (s : List ℕ) → compact_from w s ≡ value v n → (1 ≤ n) × (n ≤ length s) × (fits w v ≡ true)
compact_took w v n [] e = absurd (no_short v n (unfold compact_from in e))
compact_took w v n (b ∷ s) e = go (b % 4) refl (mod_4 b)
  where
    mod_4 : (b : ℕ) → b % 4 < 4
    mod_4 b = omega arith

    go : (f : ℕ) → b % 4 ≡ f → f < 4 → (1 ≤ n) × (n ≤ suc (length s)) × (fits w v ≡ true)
    go zero q lt = let r = settled_says w 0 (b / 4) 1 v n (unfold form0 in (at_0 w b s q ∙ e)) in (omega (arith, r.3), omega (arith, r.3), r.1)
    go (suc zero) q lt = took_enough 1 w 64 (le_value (b ∷ take 1 s) / 4) 2 v n s refl (unfold form1 in (at_1 w b s q ∙ e))
    go (suc (suc zero)) q lt =
        took_enough 3 w (2 ^ 14) (le_value (b ∷ take 3 s) / 4) 4 v n s refl
        (past (ltb w 2) prefix (enough 3 s (settled w (2 ^ 14) (le_value (b ∷ take 3 s) / 4) 4)) v n (no_prefix v n) (unfold form2 in (at_2 w b s q ∙ e))).1
    go (suc (suc (suc zero))) q lt = long_took (b / 4 + 4) (at_3 w b s q ∙ e)
      where
        long_took : (k : ℕ) → form3 w k s ≡ value v n → (1 ≤ n) × (n ≤ suc (length s)) × (fits w v ≡ true)
        long_took k f =
            took_enough k w (max (2 ^ 30) (2 ^ (8 * (k - 1)))) (le_value (take k s)) (k + 1) v n s (add-one k)
            (past (ltb w k) (pick (eqb w 4) range prefix) (enough k s (settled w (max (2 ^ 30) (2 ^ (8 * (k - 1)))) (le_value (take k s)) (k + 1))) v n (no_early (eqb w 4) v n) (unfold form3 in f)).1
    go (suc (suc (suc (suc f)))) q lt = absurd (omega arith)
