-- A trace of a message with bytes added has the same items, or the first ones up to a refusal as short.
use Rattle.std.specs.Prelude.{Bool, true, false, List, ◌++◌, [], ◌∷◌, ◌⊎◌, ℕ, zero, suc, ◌+◌, ◌≤◌, ltb, leb, length, drop}
use Rattle.std.proofs.Math.Logic.{inl, inr}
use Rattle.std.proofs.Math.Path.{◌≡◌, refl, ap, sym}
use Rattle.std.proofs.Common.{◌∙◌, subst, arith}
use Rattle.std.proofs.Math.Decide.{dec_le}
use Rattle.std.proofs.Math.ListN.{length-append}
use Rattle.std.proofs.lemmas.List.{take-append-le, drop-append-le}
use Rattle.rules.specs.Refusals.{Refusal, tag_at, bit_count_at, max_bits, number_of}
use Rattle.rules.specs.Basics.{pick, choose}
use Rattle.rules.specs.Types.{w4, Leaf, unit, bool, opt_bool, fixed, compact, float, size, Ty, leaf, nothing, result, pair, array, vector, bits, Val}
use Rattle.rules.specs.Bytes.{le_value}
use Rattle.rules.specs.Compact.{Answer, short}
use Rattle.rules.specs.Bits.{words8, words64, pack}
use Rattle.rules.specs.Parser.{Res, got, bad}
use Rattle.rules.specs.Wire.{byte_from, whole, number_from, placed, leaf_from, lanes_in, lanes_from, read}
use Rattle.rules.proofs.Laws.Wire.{whole_there, whole_short}
use Rattle.rules.proofs.Laws.Wire.Used.{leaf_used, read_used}
use Rattle.rules.proofs.Laws.Compact.Grow.{compact_grows}
use Rattle.rules.specs.Trace.{Event, plain, Trace, ended, refused, item, Tracer, longer, ◌▷◌, repeat, on, step, lane_trace, trace}
use Rattle.rules.specs.Trace.Sums.{◌⊕◌, nil, sums, ending, Traces}
use Rattle.rules.specs.Trace.Follows.{sums_of}
use Rattle.rules.proofs.Laws.Trace.Follows.{along}
use Rattle.rules.specs.Trace.Grow.{Extends, Grown, Growing}

same_extends : {A : Type 0} (r r' : Res A) → r ≡ r' → Extends r r'
unfolding Extends
same_extends (got v n) r' e = sym e
same_extends (bad y) r' e = inr (sym e)

small_extends : (m at : ℕ) (s x : List ℕ) → Extends (byte_from m at s) (byte_from m at (s ++ x))
unfolding byte_from
small_extends m at [] x = unfold Extends in inl refl
small_extends m at (b ∷ s) x = same_extends (pick (ltb b m) (got b 1) (bad (tag_at at))) (pick (ltb b m) (got b 1) (bad (tag_at at))) refl

-- n units are there, and they decide, or it is short
whole_extends : {A : Type 0} (n : ℕ) (y : Refusal) → number_of y.reason ≡ 10 → (s x : List ℕ) (g : List ℕ → Res A) → Extends (whole n y s g) (whole n y (s ++ x) g)
whole_extends n y q s x g = go (dec_le n (length s))
  where
    go : Dec (n ≤ length s) → Extends (whole n y s g) (whole n y (s ++ x) g)
    go (no h) = subst (λ r. Extends r (whole n y (s ++ x) g)) (sym (whole_short n y s g (omega arith))) (unfold Extends in inl q)
    go (yes h) =
        same_extends (whole n y s g) _
        (whole_there n y s g h ∙ ap g (sym (take-append-le n s x h)) ∙ sym (whole_there n y (s ++ x) g (omega (arith, length-append s x))))

placed_extends : (at : ℕ) (a b : Answer) → (a ≡ short) ⊎ (a ≡ b) → Extends (placed at a) (placed at b)
placed_extends at a b (inl e) = subst (λ y. Extends (placed at y) (placed at b)) (sym e) (unfold Extends placed in inl refl)
placed_extends at a b (inr e) = same_extends (placed at a) (placed at b) (ap (placed at) e)

leaf_extends : (k : Leaf) (at : ℕ) (s x : List ℕ) → Extends (leaf_from k at s) (leaf_from k at (s ++ x))
unfolding leaf_from number_from
leaf_extends unit at s x = unfold Extends in refl
leaf_extends bool at s x = small_extends 2 at s x
leaf_extends opt_bool at s x = small_extends 3 at s x
leaf_extends (fixed w) at s x = whole_extends (size w) _ refl s x (λ l. got (le_value l) (size w))
leaf_extends (compact w) at s x = placed_extends at _ _ (compact_grows (size w) s x)
leaf_extends (float w) at s x = whole_extends (size w) _ refl s x (λ l. got (le_value l) (size w))

grown_longer : (n : ℕ) (t t' : Trace) → Grown t t' → Grown (longer n t) (longer n t')
unfolding Grown longer
grown_longer n (ended m) t' h = ap (longer n) h
grown_longer n (refused y) t' (inl e) = inl e
grown_longer n (refused y) t' (inr e) = inr (ap (longer n) e)
grown_longer n (item e t) t' h = (longer n h.0, ap (longer n) h.1, grown_longer n t h.0 h.2)

grown_on : (k k' : ℕ → Trace) (t t' : Trace) → Grown t t' → ((n : ℕ) → ending t ≡ got tt n → Grown (k n) (k' n)) → Grown (t ▷ k) (t' ▷ k')
unfolding Grown ◌▷◌ ending
grown_on k k' (ended m) t' h g = subst (λ y. Grown (longer m (k m)) (y ▷ k')) (sym h) (grown_longer m (k m) (k' m) (g m refl))
grown_on k k' (refused y) t' (inl e) g = inl e
grown_on k k' (refused y) t' (inr e) g = inr (ap (λ y. y ▷ k') e)
grown_on k k' (item e t) t' h g = (h.0 ▷ k', ap (λ y. y ▷ k') h.1, grown_on k k' t h.0 h.2 g)

grown_leaf : {A : Type 0} (r r' : Res A) (k k' : A → ℕ → Trace) → Extends r r' → ((v : A) (n : ℕ) → r ≡ got v n → Grown (k v n) (k' v n)) → Grown (on r k) (on r' k')
unfolding on Extends
grown_leaf (got v n) r' k k' h g = subst (λ y. Grown (k v n) (on y k')) (sym h) (g v n refl)
grown_leaf (bad y) r' k k' (inl e) g = unfold Grown in inl e
grown_leaf (bad y) r' k k' (inr e) g = unfold Grown in inr (ap (λ y. on y k') e)

-- one item, and what follows
grown_step : (e : Event) (n : ℕ) (k k' : ℕ → Trace) → Grown (k n) (k' n) → Grown (step e n ▷ k) (step e n ▷ k')
unfolding Grown ◌▷◌
grown_step e n k k' h = (longer n (k' n), refl, grown_longer n (k n) (k' n) h)

grown_same : (t : Trace) → Grown t t
unfolding Grown
grown_same (ended n) = refl
grown_same (refused y) = inr refl
grown_same (item e t) = (t, refl, grown_same t)

-- what a trace used is there
pub trace_used : (t : Ty) (lv at : ℕ) (s : List ℕ) (n : ℕ) → ending (trace t lv at s) ≡ got tt n → n ≤ length s
trace_used t lv at s n e = go (read t at s) refl (along t lv at s nil)
  where
    go : (r : Res (Val t)) → read t at s ≡ r → Traces nil (trace t lv at s) r (λ v. nil ⊕ sums_of t lv v) → n ≤ length s
    go (got v m) q h =
        let g : (ending (trace t lv at s) ≡ got tt m) × (nil ⊕ sums (trace t lv at s) ≡ nil ⊕ sums_of t lv v) = (unfold Traces in h) in
        let a : ending (trace t lv at s) ≡ got tt m = g.0 in
        let b : m ≡ n = cc in
        omega (arith, read_used t at s v m q)
    go (bad y) q h =
        let a : ending (trace t lv at s) ≡ bad y = (unfold Traces in h) in
        absurd (let z : ◌≡◌ {A = ℕ} 0 1 = cc in omega arith)

-- on what is left
rest_grown : (p : Tracer) → Growing p → (n at : ℕ) (s x : List ℕ) → n ≤ length s → Grown (p (at + n) (drop n s)) (p (at + n) (drop n (s ++ x)))
rest_grown p h n at s x l = rw (drop-append-le n s x l) (h (at + n) (drop n s) x)

repeat_grown : (t : Ty) (lv : ℕ) → Growing (trace t lv) → (n : ℕ) → Growing (repeat n (trace t lv))
unfolding repeat
repeat_grown t lv h zero at s x = unfold Grown in refl
repeat_grown t lv h (suc n) at s x =
    grown_on _ _ (trace t lv at s) (trace t lv at (s ++ x)) (h at s x)
    (λ m e. rest_grown (repeat n (trace t lv)) (repeat_grown t lv h n) m at s x (trace_used t lv at s m e))

choose_grown : (b : ℕ) (p q : Tracer) → Growing p → Growing q → Growing (choose b p q)
choose_grown zero p q h g = h
choose_grown (suc b) p q h g = g

lane_grown : (c at from : ℕ) (s x : List ℕ) → Grown (lane_trace c at from s) (lane_trace c at from (s ++ x))
unfolding lane_trace lanes_from
lane_grown c at from s x = grown_leaf _ _ _ _ (whole_extends (words8 c) _ refl s x (lanes_in c at)) (λ v n e. grown_same (step (plain at (pack 64 (words64 c) v)) n))

pick_grown : (b : Bool) (a t t' : Trace) → Grown t t' → Grown (pick b t a) (pick b t' a)
pick_grown true a t t' h = h
pick_grown false a t t' h = grown_same a

pub trace_grown : (t : Ty) (lv : ℕ) → Growing (trace t lv)
unfolding trace
trace_grown (leaf k) lv at s x = grown_leaf _ _ _ _ (leaf_extends k at s x) (λ v n e. grown_same (step _ n))
trace_grown nothing lv at s x = unfold Grown in refl
trace_grown (result t v) lv at s x =
    grown_leaf _ _ _ _ (leaf_extends bool at s x)
    (λ b n e. grown_step _ n _ _ (rest_grown (choose b (trace t lv) (trace v lv)) (choose_grown b _ _ (trace_grown t lv) (trace_grown v lv)) n at s x (leaf_used bool at s b n e)))
trace_grown (pair t v) lv at s x =
    grown_on _ _ (trace t lv at s) (trace t lv at (s ++ x)) (trace_grown t lv at s x)
    (λ m e. rest_grown (trace v lv) (trace_grown v lv) m at s x (trace_used t lv at s m e))
trace_grown (array n t) lv at s x = repeat_grown t lv (trace_grown t lv) n at s x
trace_grown (vector t) lv at s x =
    grown_leaf _ _ _ _ (leaf_extends (compact w4) at s x)
    (λ c n e. grown_step _ n _ _ (rest_grown (repeat c (trace t (lv + 1))) (repeat_grown t (lv + 1) (trace_grown t (lv + 1)) c) n at s x (leaf_used (compact w4) at s c n e)))
trace_grown bits lv at s x =
    grown_leaf _ _ _ _ (leaf_extends (compact w4) at s x)
    (λ c n e. pick_grown (leb c max_bits) (refused (bit_count_at at)) _ _
    (grown_step _ n _ _ (rw (drop-append-le n s x (leaf_used (compact w4) at s c n e)) (lane_grown c at (at + n) (drop n s) x))))
