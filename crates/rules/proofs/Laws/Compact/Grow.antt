-- Added bytes change the reading of a compact number only where it was short.
use Rattle.std.specs.Prelude.{Bool, true, false, List, ◌++◌, [], ◌∷◌, ◌⊎◌, ◌≡◌, refl, ℕ, zero, suc, ◌+◌, ◌-◌, ◌*◌, ◌/◌, ◌%◌, ◌^◌, max, ◌≤◌, ltb, eqb, length, take}
use Rattle.std.proofs.Common.{inl, inr, ap, sym, ◌∙◌, arith, ltb-false, le-ltb, length-append}
use Rattle.std.proofs.lemmas.List.{take-append-le}
use Rattle.rules.specs.Basics.{pick}
use Rattle.rules.specs.Bytes.{le_value}
use Rattle.rules.specs.Compact.{Answer, short, prefix, range, by_form, enough, settled, form0, form1, form2, form3, compact_from}
use Rattle.rules.specs.Compact.Grow.{Grows}

enough_grows : (n : ℕ) (s x : List ℕ) (g : List ℕ → Answer) → Grows (enough n s (g (take n s))) (enough n (s ++ x) (g (take n (s ++ x))))
enough_grows n s x g = go (ltb (length s) n) refl
  where
    go : (b : Bool) → ltb (length s) n ≡ b → Grows (pick b short (g (take n s))) (pick (ltb (length (s ++ x)) n) short (g (take n (s ++ x))))
    go true e = inl refl
    go false e =
        let h : n ≤ length s = ltb-false (length s) n e in
        inr (ap g (sym (take-append-le n s x h)) ∙ ap (λ b. pick b short (g (take n (s ++ x)))) (sym (le-ltb (length (s ++ x)) n (omega (arith, length-append s x)))))

pick_grows : (b : Bool) (a x y : Answer) → Grows x y → Grows (pick b a x) (pick b a y)
pick_grows true a x y h = inr refl
pick_grows false a x y h = h

form_grows : (f : ℕ) (a b c d b' c' d' : Answer) → Grows b b' → Grows c c' → Grows d d' → Grows (by_form f a b c d) (by_form f a b' c' d')
form_grows zero a b c d b' c' d' p q r = inr refl
form_grows (suc zero) a b c d b' c' d' p q r = p
form_grows (suc (suc zero)) a b c d b' c' d' p q r = q
form_grows (suc (suc (suc f))) a b c d b' c' d' p q r = r

pub compact_grows : (w : ℕ) (s x : List ℕ) → (compact_from w s ≡ short) ⊎ (compact_from w s ≡ compact_from w (s ++ x))
unfolding compact_from form1 form2 form3
compact_grows w [] x = inl refl
compact_grows w (b ∷ s) x =
    form_grows (b % 4) (form0 w b) _ _ _ _ _ _
    (enough_grows 1 s x (λ l. settled w 64 (le_value (b ∷ l) / 4) 2))
    (pick_grows (ltb w 2) prefix _ _ (enough_grows 3 s x (λ l. settled w (2 ^ 14) (le_value (b ∷ l) / 4) 4)))
    (pick_grows (ltb w (b / 4 + 4)) (pick (eqb w 4) range prefix) _ _
    (enough_grows (b / 4 + 4) s x (λ l. settled w (max (2 ^ 30) (2 ^ (8 * (b / 4 + 4 - 1)))) (le_value l) (b / 4 + 4 + 1))))
