-- What a trace adds up to, and where it ends; how both go along `▷`.
use Rattle.std.specs.Prelude.{◌++◌, ℕ, ◌+◌, ◌-◌, max, length}
use Rattle.std.proofs.Common.{append_assoc, append-nil, ◌∙◌, arith, length-append}
use Rattle.std.proofs.Math.Path.{◌≡◌, refl, ap, sym}
use Rattle.rules.specs.Refusals.{Refusal}
use Rattle.rules.specs.Parser.{Res, got, bad, more, next, map_res}
use Rattle.rules.specs.Trace.{Event, Trace, ended, refused, item, longer, ◌▷◌, on, step}
use Rattle.rules.specs.Trace.Sums.{Sums, ◌⊕◌, nil, of, sums, ending, Traces}

pub same_sums : {a b : Sums} → a.deep ≡ b.deep → a.fee ≡ b.fee → a.vecs ≡ b.vecs → a.extra ≡ b.extra → a.list ≡ b.list → a ≡ b
same_sums d f v e l = λ i. record { deep = d i; fee = f i; vecs = v i; extra = e i; list = l i }

-- (in three steps: `omega` takes at most six case splits)
max_sub : (p y c : ℕ) → max p y - c ≡ max (p - c) (y - c)
max_sub p y c = omega arith

sub_sub : (x b c : ℕ) → x - b - c ≡ x - (b + c)
sub_sub x b c = omega arith

max_assoc : (x y z : ℕ) → max (max x y) z ≡ max x (max y z)
max_assoc x y z = omega arith

extra_assoc : (x y z b c d : ℕ) → d ≡ b + c → max (max (x - b) y - c) z ≡ max (x - d) (max (y - c) z)
extra_assoc x y z b c d e = rw (max_sub (x - b) y c, sub_sub x b c, e) (max_assoc (x - (b + c)) (y - c) z)

pub sums_assoc : (a b c : Sums) → a ⊕ b ⊕ c ≡ a ⊕ (b ⊕ c)
sums_assoc a b c = same_sums (omega arith) (omega arith) (omega arith) (extra_assoc a.extra b.extra c.extra (length b.list) (length c.list) (length (b.list ++ c.list)) (length-append b.list c.list)) (append_assoc a.list b.list c.list)

pub nil_left : (a : Sums) → nil ⊕ a ≡ a
nil_left a = same_sums (omega arith) (omega arith) (omega arith) (omega arith) refl

pub nil_right : (a : Sums) → a ⊕ nil ≡ a
nil_right a = same_sums (omega arith) (omega arith) (omega arith) (omega arith) (append-nil a.list)

ending_longer : (n : ℕ) (t : Trace) → ending (longer n t) ≡ more n (ending t)
unfolding ending longer more
ending_longer n (ended m) = refl
ending_longer n (refused y) = refl
ending_longer n (item e t) = ending_longer n t

sums_longer : (n : ℕ) (t : Trace) → sums (longer n t) ≡ sums t
unfolding sums longer
sums_longer n (ended m) = refl
sums_longer n (refused y) = refl
sums_longer n (item e t) = ap (λ x. of e ⊕ x) (sums_longer n t)

-- where the first ends well
module _ (k : ℕ → Trace) (n : ℕ) where
  ending_on : (t : Trace) → ending t ≡ got tt n → ending (t ▷ k) ≡ more n (ending (k n))
  unfolding ending ◌▷◌
  ending_on (ended m) e =
      let a : m ≡ n = cc in
      ending_longer m (k m) ∙ ap (λ x. more x (ending (k x))) a
  ending_on (refused y) e = absurd (let z : ◌≡◌ {A = ℕ} 0 1 = cc in omega arith)
  ending_on (item x t) e = ending_on t e

  sums_on : (t : Trace) → ending t ≡ got tt n → sums (t ▷ k) ≡ sums t ⊕ sums (k n)
  unfolding ending sums ◌▷◌
  sums_on (ended m) e =
      let a : m ≡ n = cc in
      sums_longer m (k m) ∙ ap (λ x. sums (k x)) a ∙ sym (nil_left (sums (k n)))
  sums_on (refused y) e = absurd (let z : ◌≡◌ {A = ℕ} 0 1 = cc in omega arith)
  sums_on (item x t) e = ap (λ y. of x ⊕ y) (sums_on t e) ∙ sym (sums_assoc (of x) (sums t) (sums (k n)))

ending_bad : (k : ℕ → Trace) (y : Refusal) (t : Trace) → ending t ≡ bad y → ending (t ▷ k) ≡ bad y
unfolding ending ◌▷◌
ending_bad k y (ended n) e = absurd (let z : ◌≡◌ {A = ℕ} 0 1 = cc in omega arith)
ending_bad k y (refused x) e = e
ending_bad k y (item x t) e = ending_bad k y t e

pub chain : {A B : Type 0} (z : Sums) (t : Trace) (r : Res A) (k : ℕ → Trace) (q : A → ℕ → Res B) (f : A → Sums) (h : B → Sums)
    → Traces z t r f → ((v : A) (n : ℕ) → r ≡ got v n → Traces (f v) (k n) (q v n) h) → Traces z (t ▷ k) (next r q) h
unfolding Traces next
chain z t (got v n) k q f h a g = go (q v n) (g v n refl)
  where
    go : (r : Res _) → Traces (f v) (k n) r h → Traces z (t ▷ k) (more n r) h
    go (got w m) b = unfold more in (
      ending_on k n t a.0 ∙ ap (more n) b.0,
      ap (λ x. z ⊕ x) (sums_on k n t a.0) ∙ sym (sums_assoc z (sums t) (sums (k n))) ∙ ap (λ x. x ⊕ sums (k n)) a.1 ∙ b.1,
    )
    go (bad y) b = unfold more in (ending_on k n t a.0 ∙ ap (more n) b)
chain z t (bad y) k q f h a g = ending_bad k y t a

pub traces_map : {A B : Type 0} (z : Sums) (t : Trace) (r : Res A) (g : A → B) (f : A → Sums) (h : B → Sums)
    → Traces z t r f → ((v : A) → f v ≡ h (g v)) → Traces z t (map_res g r) h
unfolding Traces map_res
traces_map z t (got v n) g f h a e = (a.0, a.1 ∙ e v)
traces_map z t (bad y) g f h a e = a

pub traces_same : {A : Type 0} (z : Sums) (t : Trace) (r : Res A) (f h : A → Sums) → Traces z t r f → ((v : A) (n : ℕ) → r ≡ got v n → f v ≡ h v) → Traces z t r h
unfolding Traces
traces_same z t (got v n) f h a e = (a.0, a.1 ∙ e v n refl)
traces_same z t (bad y) f h a e = a

-- an item
pub traces_step : (z : Sums) (e : Event) (n : ℕ) {A : Type 0} (v : A) → Traces z (step e n) (got v n) (λ x. z ⊕ of e)
unfolding Traces sums ending
traces_step z e n v = (refl, ap (λ x. z ⊕ x) (nil_right (of e)))

pub traces_leaf : {A : Type 0} (z : Sums) (r : Res A) (e : A → Event) → Traces z (on r (λ v n. step (e v) n)) r (λ v. z ⊕ of (e v))
unfolding on ending sums
traces_leaf z (got v n) e = unfold Traces in (refl, ap (λ x. z ⊕ x) (nil_right (of (e v))))
traces_leaf z (bad y) e = unfold Traces in refl

pub traces_on : {B : Type 0} (z : Sums) (r : Res ℕ) (e : ℕ → Event) (k : ℕ → ℕ → Trace) (q : ℕ → ℕ → Res B) (h : B → Sums)
    → ((v n : ℕ) → r ≡ got v n → Traces (z ⊕ of (e v)) (k v n) (q v n) h) → Traces z (on r (λ v n. step (e v) n ▷ k v)) (next r q) h
unfolding on ending next
traces_on z (got v n) e k q h g = chain z (step (e v) n) (got v n) (k v) (λ x m. q v m) (λ x. z ⊕ of (e v)) h (traces_step z (e v) n v) (λ x m a. g v m (ap (got v) (len x m a)))
  where
    len : (x m : ℕ) → got v n ≡ got x m → n ≡ m
    len x m a = cc
traces_on z (bad y) e k q h g = unfold Traces next in refl
