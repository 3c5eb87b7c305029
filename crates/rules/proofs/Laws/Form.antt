-- Reading what was written, and writing what was read, once for every form: both follow for all types from the same two laws of leaves and of bit vectors.
pub mod Units
use Rattle.std.specs.Prelude.{◌⊎◌, ◌≡◌, length, take}
use Rattle.std.proofs.Math.Logic.{inl, inr}
use Rattle.std.proofs.Math.Path.{refl, subst}
use Rattle.std.proofs.Common.{sym, lit<, List, ◌++◌, [], ℕ, zero, suc, ◌^◌, ◌<◌, arith}
use Rattle.rules.specs.Basics.{choose, flat}
use Rattle.rules.specs.Types.{w4, bool, compact, Ty, leaf, nothing, result, pair, array, vector, bits, Val, Fits}
use Rattle.rules.specs.Bits.Laws.{Like}
use Rattle.rules.proofs.Laws.Bits.{like_append}
use Rattle.rules.specs.Parser.{map, times}
use Rattle.rules.specs.Parser.Laws.{Writes, Backs}
use Rattle.rules.proofs.Laws.Parser.{writes_bind, writes_map, writes_times, back_map, back_bind, back_times}
use Rattle.rules.specs.Form.{Form, write, Reader, parse}
use Rattle.rules.specs.Form.Laws.{Reads, Returns, From, FromAll}

module _ (f : Form) (r : Reader) (c : Reads f r) where
  pub reads : (t : Ty) (v : Val t) → Fits t v → Writes (parse r t) v (write f t v)
  unfolding parse write
  reads (leaf k) v h = c.leaf_reads k v h
  reads nothing v h = λ at s. refl
  reads (result t u) (inl v) h =
      writes_bind (r.leaf_in bool) (λ b. choose b (map inl (parse r t)) (map inr (parse r u))) 0 (inl v) (f.leaf_out bool 0) (write f t v)
      (c.leaf_reads bool 0 (lit< tt)) (writes_map (parse r t) inl v (write f t v) (reads t v h))
  reads (result t u) (inr v) h =
      writes_bind (r.leaf_in bool) (λ b. choose b (map inl (parse r t)) (map inr (parse r u))) 1 (inr v) (f.leaf_out bool 1) (write f u v)
      (c.leaf_reads bool 1 (lit< tt)) (writes_map (parse r u) inr v (write f u v) (reads u v h))
  reads (pair t u) v h =
      writes_bind (parse r t) (λ x. map (λ w. (x, w)) (parse r u)) v.0 v (write f t v.0) (write f u v.1) (reads t v.0 h.0)
      (writes_map (parse r u) (λ w. (v.0, w)) v.1 (write f u v.1) (reads u v.1 h.1))
  reads (array n t) v h =
      subst (λ k. Writes (times k (parse r t)) v (flat (write f t) v)) h.0 (writes_times (parse r t) (write f t) (Fits t) (reads t) v h.1)
  reads (vector t) v h =
      writes_bind (r.leaf_in (compact w4)) (λ n. times n (parse r t)) (length v) v (f.leaf_out (compact w4) (length v)) (flat (write f t) v)
      (c.leaf_reads (compact w4) (length v) h.0) (writes_times (parse r t) (write f t) (Fits t) (reads t) v h.1)
  reads bits v h = c.bits_reads v h

-- what stands after a tag
Tagged : Form → Form → (t u : Ty) → ℕ → Val t ⊎ Val u → List ℕ → Type 0
Tagged f wd t u zero (inl v) l = From f wd t v l
Tagged f wd t u zero (inr v) l = ⊥
Tagged f wd t u (suc b) (inl v) l = ⊥
Tagged f wd t u (suc b) (inr v) l = From f wd u v l

module _ (f wd : Form) (r : Reader) (m : ℕ) (c : Returns f wd r m) where
  tagged_back : (t u : Ty) → Backs m (From f wd t) (parse r t) → Backs m (From f wd u) (parse r u)
      → (b : ℕ) → Backs m (Tagged f wd t u b) (choose b (map inl (parse r t)) (map inr (parse r u)))
  unfolding Tagged
  tagged_back t u g h zero = back_map m (From f wd t) (Tagged f wd t u 0) (parse r t) inl g (λ v l x. x)
  tagged_back t u g h (suc b) = back_map m (From f wd u) (Tagged f wd t u (suc b)) (parse r u) inr h (λ v l x. x)

  tag_both : (t u : Ty) (b : ℕ) (v : Val t ⊎ Val u) (l k : List ℕ) → (b < 2) × Like (wd.leaf_out bool b) (f.leaf_out bool b) l
      → Tagged f wd t u b v k → From f wd (result t u) v (l ++ k)
  unfolding Tagged write
  tag_both t u zero (inl v) l k p q = (q.0, like_append (wd.leaf_out bool 0) (f.leaf_out bool 0) l (write wd t v) (write f t v) k p.1 q.1)
  tag_both t u zero (inr v) l k p q = absurd q
  tag_both t u (suc b) (inl v) l k p q = absurd q
  tag_both t u (suc zero) (inr v) l k p q = (q.0, like_append (wd.leaf_out bool 1) (f.leaf_out bool 1) l (write wd u v) (write f u v) k p.1 q.1)
  tag_both t u (suc (suc b)) (inr v) l k p q = absurd (omega (arith, p.0))

  result_back : (t u : Ty) → Backs m (From f wd t) (parse r t) → Backs m (From f wd u) (parse r u) → Backs m (From f wd (result t u)) (parse r (result t u))
  unfolding parse
  result_back t u g h =
      back_bind m (λ b l. (b < 2) × Like (wd.leaf_out bool b) (f.leaf_out bool b) l) (Tagged f wd t u) (From f wd (result t u)) (r.leaf_in bool)
      (λ b. choose b (map inl (parse r t)) (map inr (parse r u))) (c.leaf_back bool) (tagged_back t u g h) (tag_both t u)

  pair_back : (t u : Ty) → Backs m (From f wd t) (parse r t) → Backs m (From f wd u) (parse r u) → Backs m (From f wd (pair t u)) (parse r (pair t u))
  unfolding parse write
  pair_back t u g h =
      back_bind m (From f wd t) (λ v y l. (v ≡ y.0) × From f wd u y.1 l) (From f wd (pair t u)) (parse r t)
      (λ v. map (λ w. (v, w)) (parse r u)) g
      (λ v. back_map m (From f wd u) (λ y l. (v ≡ y.0) × From f wd u y.1 l) (parse r u) (λ w. (v, w)) h (λ w l x. (refl, x)))
      (λ v y l k p q. pair_both t u v y l k p q.0 q.1)
    where
      pair_both : (t u : Ty) (v : Val t) (y : Val t × Val u) (l k : List ℕ) → From f wd t v l → v ≡ y.0 → From f wd u y.1 k → From f wd (pair t u) y (l ++ k)
      pair_both t u v y l k p e q =
          let p' : From f wd t y.0 l = subst (λ x. From f wd t x l) e p in
          ((p'.0, q.0), like_append (write wd t y.0) (write f t y.0) l (write wd u y.1) (write f u y.1) k p'.1 q.1)

  all_back : (t : Ty) → Backs m (From f wd t) (parse r t) → (n : ℕ) → Backs m (λ vs l. (length vs ≡ n) × FromAll f wd t vs l) (times n (parse r t))
  all_back t g n =
      back_times m (From f wd t) (FromAll f wd t) (parse r t) g (tt, unfold Like in tt)
      (λ v vs l k p q. ((p.0, q.0), like_append (write wd t v) (write f t v) l (flat (write wd t) vs) (flat (write f t) vs) k p.1 q.1)) n

  array_back : (n : ℕ) (t : Ty) → Backs m (From f wd t) (parse r t) → Backs m (From f wd (array n t)) (parse r (array n t))
  unfolding parse write
  array_back n t g at s v k u e = let h = all_back t g n at s v k u e in (h.0, ((h.1.0, h.1.1.0), h.1.1.1))

  vector_back : (t : Ty) → Backs m (From f wd t) (parse r t) → Backs m (From f wd (vector t)) (parse r (vector t))
  unfolding parse write
  vector_back t g =
      back_bind m (λ n l. (n < 2 ^ 32) × Like (wd.leaf_out (compact w4) n) (f.leaf_out (compact w4) n) l) (λ n vs l. (length vs ≡ n) × FromAll f wd t vs l)
      (From f wd (vector t)) (r.leaf_in (compact w4)) (λ n. times n (parse r t)) (c.leaf_back (compact w4)) (all_back t g)
      (λ n vs l k p q.
      let p' : (length vs < 2 ^ 32) × Like (wd.leaf_out (compact w4) (length vs)) (f.leaf_out (compact w4) (length vs)) l =
      subst (λ x. (x < 2 ^ 32) × Like (wd.leaf_out (compact w4) x) (f.leaf_out (compact w4) x) l) (sym q.0) p in
      ((p'.0, q.1.0), like_append (wd.leaf_out (compact w4) (length vs)) (f.leaf_out (compact w4) (length vs)) l (flat (write wd t) vs) (flat (write f t) vs) k p'.1 q.1.1))

  nothing_back : Backs m (From f wd nothing) (parse r nothing)
  unfolding parse write Like
  nothing_back at s v n u e =
      let b : 0 ≡ n = cc in
      (omega arith, (tt, subst (λ x. Like [] [] (take x s)) b tt))

  pub returns : (t : Ty) → Backs m (From f wd t) (parse r t)
  returns (leaf k) = unfold parse write in c.leaf_back k
  returns nothing = nothing_back
  returns (result t u) = result_back t u (returns t) (returns u)
  returns (pair t u) = pair_back t u (returns t) (returns u)
  returns (array n t) = array_back n t (returns t)
  returns (vector t) = vector_back t (returns t)
  returns bits = unfold parse write in c.bits_back
