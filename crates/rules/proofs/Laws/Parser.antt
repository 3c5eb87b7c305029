-- When a reader undoes a writer, and the other way round: a law for each way of putting readers together.
use Rattle.std.specs.Prelude.{List, ◌++◌, [], ◌∷◌, ℕ, zero, suc, ◌+◌, ◌≤◌, drop, take}
use Rattle.std.proofs.Common.{append_assoc, ap, sym, ◌∙◌, arith, length-append}
use Rattle.std.proofs.Math.Path.{◌≡◌, refl, subst}
use Rattle.std.proofs.Math.ListN.{length, length-drop}
use Rattle.std.proofs.Math.Seq.{drop-append_seam, take-add}
use Rattle.rules.specs.Basics.{All, Under, flat}
use Rattle.rules.proofs.Laws.Bytes.{under_drop}
use Rattle.rules.specs.Parser.{Res, got, bad, Parser, more, next, map_res, bind, map, times}
use Rattle.rules.specs.Parser.Laws.{Inside, Writes, Backs}

map_got : {A B : Type 0} (g : A → B) (r : Res A) (w : B) (n : ℕ) → map_res g r ≡ got w n → (v : A) × (r ≡ got v n) × (g v ≡ w)
unfolding map_res
map_got g (got v m) w n e =
    let a : m ≡ n = cc in
    (v, ap (got v) a, (cc))
map_got g (bad y) w n e = absurd (let z : ◌≡◌ {A = ℕ} 0 1 = cc in omega arith)

more_got : {A : Type 0} (k : ℕ) (r : Res A) (v : A) (n : ℕ) → more k r ≡ got v n → (m : ℕ) × (r ≡ got v m) × (k + m ≡ n)
unfolding more
more_got k (got x m) v n e =
    let a : x ≡ v = cc in
    (m, ap (λ y. got y m) a, (cc))
more_got k (bad y) v n e = absurd (let z : ◌≡◌ {A = ℕ} 0 1 = cc in omega arith)

pub times_length : {A : Type 0} (p : Parser A) (n at : ℕ) (s : List ℕ) (v : List A) (m : ℕ) → times n p at s ≡ got v m → length v ≡ n
unfolding times next
times_length p zero at s v m e = let a : [] ≡ v = cc in sym (ap length a)
times_length {A} p (suc n) at s v m e = go (p at s) (λ j l k. times_length p n (at + j) (drop j s) l k) e
  where
    go : (r : Res A) → ((j : ℕ) (l : List A) (k : ℕ) → times n p (at + j) (drop j s) ≡ got l k → length l ≡ n) → next r (λ x j. map_res (λ xs. x ∷ xs) (times n p (at + j) (drop j s))) ≡ got v m → length v ≡ suc n
    go (got x j) ih f =
        let a = more_got j (map_res (λ xs. x ∷ xs) (times n p (at + j) (drop j s))) v m f in
        let b = map_got (λ xs. x ∷ xs) (times n p (at + j) (drop j s)) v a.0 a.1 in
        sym (ap length b.2) ∙ ap suc (ih j b.0 a.0 b.1)
    go (bad y) ih f = absurd (let z : ◌≡◌ {A = ℕ} 0 1 = cc in omega arith)

pub inside_map : {A B : Type 0} (p : Parser A) (g : A → B) → Inside p → Inside (map g p)
inside_map p g h at s w n e = let r = map_got g (p at s) w n e in h at s r.0 n r.1

pub inside_bind : {A B : Type 0} (p : Parser A) (f : A → Parser B) → Inside p → ((v : A) → Inside (f v)) → Inside (bind p f)
unfolding next
inside_bind p f h g at s w j e = go (p at s) refl e
  where
    go : (r : Res _) → p at s ≡ r → next r (λ v n. f v (at + n) (drop n s)) ≡ got w j → j ≤ length s
    go (got v n) q k =
        let r = more_got n (f v (at + n) (drop n s)) w j k in
        omega (arith, h at s v n q, g v (at + n) (drop n s) w r.0 r.1, length-drop n s, r.2)
    go (bad y) q k = absurd (let z : ◌≡◌ {A = ℕ} 0 1 = cc in omega arith)

pub inside_times : {A : Type 0} (p : Parser A) → Inside p → (n : ℕ) → Inside (times n p)
unfolding times
inside_times p h zero at s v n e = let a : 0 ≡ n = cc in omega arith
inside_times p h (suc k) at s v n e = inside_bind p (λ x. map (λ xs. x ∷ xs) (times k p)) h (λ x. inside_map (times k p) (λ xs. x ∷ xs) (inside_times p h k)) at s v n e

pub writes_bind : {A B : Type 0} (p : Parser A) (f : A → Parser B) (v : A) (w : B) (l m : List ℕ)
    → Writes p v l → Writes (f v) w m → Writes (bind p f) w (l ++ m)
unfolding next more
writes_bind p f v w l m hp hf at s =
    ap (bind p f at) (append_assoc l m s)
    ∙ ap (λ r. next r (λ x n. f x (at + n) (drop n (l ++ (m ++ s))))) (hp at (m ++ s))
    ∙ ap (more (length l)) (ap (f v (at + length l)) (drop-append_seam l (m ++ s)) ∙ hf (at + length l) s)
    ∙ ap (got w) (sym (length-append l m))

pub writes_map : {A B : Type 0} (p : Parser A) (g : A → B) (v : A) (l : List ℕ) → Writes p v l → Writes (map g p) (g v) l
unfolding map_res
writes_map p g v l h at s = ap (map_res g) (h at s)

pub writes_times : {A : Type 0} (p : Parser A) (f : A → List ℕ) (P : A → Type 0) → ((v : A) → P v → Writes p v (f v))
    → (vs : List A) → All P vs → Writes (times (length vs) p) vs (flat f vs)
unfolding times
writes_times p f P h [] a at s = refl
writes_times p f P h (v ∷ vs) a at s =
    writes_bind p (λ x. map (λ xs. x ∷ xs) (times (length vs) p)) v (v ∷ vs) (f v) (flat f vs) (h v a.0)
    (writes_map (times (length vs) p) (λ xs. v ∷ xs) vs (flat f vs) (writes_times p f P h vs a.1)) at s

pub back_map : {A B : Type 0} (m : ℕ) (P : A → List ℕ → Type 0) (Q : B → List ℕ → Type 0) (p : Parser A) (g : A → B)
    → Backs m P p → ((v : A) (l : List ℕ) → P v l → Q (g v) l) → Backs m Q (map g p)
unfolding map_res
back_map m P Q p g h k at s w n u e = go (p at s) refl e
  where
    go : (r : Res _) → p at s ≡ r → map_res g r ≡ got w n → (n ≤ length s) × Q w (take n s)
    go (got v j) q f =
        let a : g v ≡ w = cc in
        let b : j ≡ n = cc in
        let r = h at s v j u q in
        (subst (λ x. x ≤ length s) b r.0, subst (λ x. Q x (take n s)) a (subst (λ x. Q (g v) (take x s)) b (k v (take j s) r.1)))
    go (bad y) q f = absurd (let z : ◌≡◌ {A = ℕ} 0 1 = cc in omega arith)

module _ {A B : Type 0} (m : ℕ) (P : A → List ℕ → Type 0) (Q : A → B → List ℕ → Type 0) (R : B → List ℕ → Type 0) (p : Parser A) (f : A → Parser B)
    (hp : Backs m P p) (hf : (v : A) → Backs m (Q v) (f v)) (both : (v : A) (w : B) (l k : List ℕ) → P v l → Q v w k → R w (l ++ k)) where
  back_second : (at : ℕ) (s : List ℕ) (v : A) (n : ℕ) (w : B) (j : ℕ) → Under m s → (n ≤ length s) × P v (take n s)
      → (r : Res B) → f v (at + n) (drop n s) ≡ r → more n r ≡ got w j → (j ≤ length s) × R w (take j s)
  unfolding more
  back_second at s v n w j u h (got x i) q e =
      let a : x ≡ w = cc in
      let b : n + i ≡ j = cc in
      let k = hf v (at + n) (drop n s) x i (under_drop m n s u) q in
      let le : n + i ≤ length s = omega (arith, h.0, k.0, length-drop n s) in
      let r : R x (take (n + i) s) = rw take-add (both v x (take n s) (take i (drop n s)) h.1 k.1) in
      (subst (λ y. y ≤ length s) b le, subst (λ y. R y (take j s)) a (subst (λ y. R x (take y s)) b r))
  back_second at s v n w j u h (bad y) q e = absurd (let z : ◌≡◌ {A = ℕ} 0 1 = cc in omega arith)

  back_first : (at : ℕ) (s : List ℕ) (w : B) (j : ℕ) → Under m s → (r : Res A) → p at s ≡ r
      → next r (λ v n. f v (at + n) (drop n s)) ≡ got w j → (j ≤ length s) × R w (take j s)
  unfolding next
  back_first at s w j u (got v n) q e = back_second at s v n w j u (hp at s v n u q) (f v (at + n) (drop n s)) refl e
  back_first at s w j u (bad y) q e = absurd (let z : ◌≡◌ {A = ℕ} 0 1 = cc in omega arith)

  pub back_bind : Backs m R (bind p f)
  back_bind at s w j u e = back_first at s w j u (p at s) refl e

pub back_times : {A : Type 0} (m : ℕ) (P : A → List ℕ → Type 0) (R : List A → List ℕ → Type 0) (p : Parser A) → Backs m P p → R [] []
    → ((v : A) (vs : List A) (l k : List ℕ) → P v l → R vs k → R (v ∷ vs) (l ++ k)) → (n : ℕ) → Backs m (λ vs l. (length vs ≡ n) × R vs l) (times n p)
unfolding times
back_times {A} m P R p h empty cons zero at s v n u e = go v n e
  where
    go : (v : List A) (n : ℕ) → times zero p at s ≡ got v n → (n ≤ length s) × ((length v ≡ 0) × R v (take n s))
    go v n e =
        let a : [] ≡ v = cc in
        let b : 0 ≡ n = cc in
        (omega arith, (sym (ap length a), subst (λ x. R x (take n s)) a (subst (λ x. R [] (take x s)) b empty)))
back_times {A} m P R p h empty cons (suc j) at s v n u e = go (back_times m P R p h empty cons j) e
  where
    go : Backs m (λ vs l. (length vs ≡ j) × R vs l) (times j p) → times (suc j) p at s ≡ got v n → (n ≤ length s) × ((length v ≡ suc j) × R v (take n s))
    go ih e =
        back_bind m P (λ x vs l. (ys : List A) × (vs ≡ x ∷ ys) × (length ys ≡ j) × R ys l) (λ vs l. (length vs ≡ suc j) × R vs l) p
        (λ x. map (λ xs. x ∷ xs) (times j p)) h
        (λ x. back_map m (λ vs l. (length vs ≡ j) × R vs l) (λ vs l. (ys : List A) × (vs ≡ x ∷ ys) × (length ys ≡ j) × R ys l) (times j p) (λ xs. x ∷ xs) ih
        (λ ys l q. (ys, refl, q.0, q.1)))
        (λ x vs l k a q. (ap length q.1 ∙ ap suc q.2, subst (λ y. R y (l ++ k)) (sym q.1) (cons x q.0 l k a q.3)))
        at s v n u e
