-- Writing, kind by kind: the bytes of the value that cells say, and how many cells it takes. A writer goes by these laws and makes no value.
pub mod Relative
use Rattle.std.specs.Prelude.{Bool, true, false, List, ◌++◌, [], ◌∷◌, ◌≡◌, ℕ, zero, suc, ◌+◌, ◌*◌, ◌^◌, ◌≤◌, ◌<◌, ltb, length, drop}
use Rattle.std.proofs.Common.{inl, inr, ap, sym, ◌∙◌, subst, arith, ltb-true, length-take}
use Rattle.std.proofs.Math.Path.{refl}
use Rattle.rules.specs.Refusals.{unfit_at}
use Rattle.rules.specs.Basics.{pick, choose, Under, flat}
use Rattle.rules.specs.Types.{w4, Leaf, bool, compact, Ty, leaf, nothing, result, pair, array, vector, Val}
use Rattle.rules.specs.Parser.{Res, got, bad, Parser, more, next, map_res, bind, map, times}
use Rattle.rules.proofs.Laws.Parser.{times_length}
use Rattle.rules.specs.Form.{write, parse}
use Rattle.rules.specs.Wire.{leaf_bytes, encode}
use Rattle.rules.specs.Cells.{cells, one, leaf_taken, unpack}
use Rattle.rules.proofs.Laws.Totals.Bound.{nine_bytes}
use Rattle.rules.proofs.Laws.RoundTrip.{cells_unpacked}
use Rattle.rules.specs.Jobs.{put_out, output}
use Rattle.rules.specs.Put.{put, ahead, put_leaf}

-- ---- putting readers together

map_more : {A B : Type 0} (f : A → B) (n : ℕ) (r : Res A) → map_res f (more n r) ≡ more n (map_res f r)
unfolding map_res more
map_more f n (got v m) = refl
map_more f n (bad y) = refl

map_map : {A B C : Type 0} (f : B → C) (g : A → B) (h : A → C) (r : Res A) → ((v : A) → f (g v) ≡ h v) → map_res f (map_res g r) ≡ map_res h r
unfolding map_res
map_map f g h (got v n) e = ap (λ x. got x n) (e v)
map_map f g h (bad y) e = refl

-- a reader, and one behind it
ahead_next : {A B : Type 0} (h : B → List ℕ) (f : A → List ℕ) (q : A → ℕ → Res B) (p : A → ℕ → Res (List ℕ)) (r : Res A)
    → ((v : A) (n : ℕ) → r ≡ got v n → map_res h (q v n) ≡ map_res (λ l. f v ++ l) (p v n)) → map_res h (next r q) ≡ ahead f p r
unfolding next
ahead_next h f q p (got v n) e = map_more h n (q v n) ∙ ap (more n) (e v n refl)
ahead_next h f q p (bad y) e = unfold map_res in refl

pub put_leaf_lem : (k : Leaf) (at : ℕ) (cs : List ℕ) → put (leaf k) at cs ≡ put_leaf k at cs
unfolding put parse write
put_leaf_lem k at cs = refl

pub put_nothing : (at : ℕ) (cs : List ℕ) → put nothing at cs ≡ got [] 0
unfolding put parse write map_res
put_nothing at cs = refl

-- a value made of two, one behind the other
module _ {A B C : Type 0} (p : Parser A) (q : Parser B) (k : A → B → C) (f : A → List ℕ) (g : B → List ℕ) (h : C → List ℕ) (e : (v : A) (w : B) → h (k v w) ≡ f v ++ g w) where
  two_ahead : (at : ℕ) (cs : List ℕ) → map_res h (bind p (λ v. map (k v) q) at cs) ≡ ahead f (λ v n. map_res g (q (at + n) (drop n cs))) (p at cs)
  two_ahead at cs =
      ahead_next h f (λ v n. map_res (k v) (q (at + n) (drop n cs))) (λ v n. map_res g (q (at + n) (drop n cs))) (p at cs)
      (λ v n _. map_map h (k v) (λ w. f v ++ g w) (q (at + n) (drop n cs)) (e v) ∙ sym (map_map (λ l. f v ++ l) g (λ w. f v ++ g w) (q (at + n) (drop n cs)) (λ w. refl)))

pub put_pair : (t u : Ty) (at : ℕ) (cs : List ℕ) → put (pair t u) at cs ≡ ahead (encode t) (λ v n. put u (at + n) (drop n cs)) (unpack t at cs)
unfolding put parse write
put_pair t u at cs = two_ahead (unpack t) (unpack u) (λ v w. (v, w)) (encode t) (encode u) (encode (pair t u)) (λ v w. refl) at cs

-- the items of an array, one after another
pub put_none : (t : Ty) (at : ℕ) (cs : List ℕ) → put (array 0 t) at cs ≡ got [] 0
unfolding put parse write times map_res
put_none t at cs = refl

pub put_more : (n : ℕ) (t : Ty) (at : ℕ) (cs : List ℕ) → put (array (suc n) t) at cs ≡ ahead (encode t) (λ v k. put (array n t) (at + k) (drop k cs)) (unpack t at cs)
unfolding put parse write times
put_more n t at cs = two_ahead (unpack t) (times n (unpack t)) (λ v vs. v ∷ vs) (encode t) (flat (encode t)) (flat (encode t)) (λ v vs. refl) at cs

map_as : {A B : Type 0} (f g : A → B) (r : Res A) → ((v : A) (n : ℕ) → r ≡ got v n → f v ≡ g v) → map_res f r ≡ map_res g r
unfolding map_res
map_as f g (got v n) e = ap (λ x. got x n) (e v n refl)
map_as f g (bad y) e = refl

pub put_vector : (t : Ty) (at : ℕ) (cs : List ℕ) → put (vector t) at cs ≡ ahead (leaf_bytes (compact w4)) (λ c n. put (array c t) (at + n) (drop n cs)) (leaf_taken (compact w4) at cs)
unfolding put parse write
put_vector t at cs =
    ahead_next (encode (vector t)) (leaf_bytes (compact w4)) (λ c n. times c (unpack t) (at + n) (drop n cs)) (λ c n. put (array c t) (at + n) (drop n cs)) (leaf_taken (compact w4) at cs)
    (λ c n e. map_as (encode (vector t)) (λ vs. leaf_bytes (compact w4) c ++ flat (encode t) vs) (times c (unpack t) (at + n) (drop n cs))
    (λ vs m f. ap (λ x. leaf_bytes (compact w4) x ++ flat (encode t) vs) (times_length (unpack t) c (at + n) (drop n cs) vs m f))
    ∙ sym (map_map (λ l. leaf_bytes (compact w4) c ++ l) (flat (encode t)) (λ vs. leaf_bytes (compact w4) c ++ flat (encode t) vs) (times c (unpack t) (at + n) (drop n cs)) (λ vs. refl)))

-- a tag that is taken is 0 or 1
tag_below : (at : ℕ) (cs : List ℕ) (b n : ℕ) → leaf_taken bool at cs ≡ got b n → b < 2
unfolding leaf_taken one
tag_below at [] b n e = absurd (let z : ◌≡◌ {A = ℕ} 0 1 = cc in omega arith)
tag_below at (c ∷ cs) b n e = go (ltb c 2) refl e
  where
    go : (d : Bool) → ltb c 2 ≡ d → pick d (got c 1) (bad (unfit_at at)) ≡ got b n → b < 2
    go true h f = let q : c ≡ b = cc in subst (λ x. x < 2) q (ltb-true c 2 h)
    go false h f = absurd (let z : ◌≡◌ {A = ℕ} 0 1 = cc in omega arith)

pub put_result : (t u : Ty) (at : ℕ) (cs : List ℕ) → put (result t u) at cs ≡ ahead (leaf_bytes bool) (λ b n. choose b (put t) (put u) (at + n) (drop n cs)) (leaf_taken bool at cs)
unfolding put parse write
put_result t u at cs =
    ahead_next (encode (result t u)) (leaf_bytes bool) (λ b n. choose b (map inl (unpack t)) (map inr (unpack u)) (at + n) (drop n cs)) (λ b n. choose b (put t) (put u) (at + n) (drop n cs)) (leaf_taken bool at cs)
    (λ b n e. tagged b n (tag_below at cs b n e))
  where
    tagged : (b n : ℕ) → b < 2 → map_res (encode (result t u)) (choose b (map inl (unpack t)) (map inr (unpack u)) (at + n) (drop n cs)) ≡ map_res (λ l. leaf_bytes bool b ++ l) (choose b (put t) (put u) (at + n) (drop n cs))
    tagged zero n h =
        map_map (encode (result t u)) inl (λ v. leaf_bytes bool 0 ++ encode t v) (unpack t (at + n) (drop n cs)) (λ v. refl)
        ∙ sym (map_map (λ l. leaf_bytes bool 0 ++ l) (encode t) (λ v. leaf_bytes bool 0 ++ encode t v) (unpack t (at + n) (drop n cs)) (λ v. refl))
    tagged (suc zero) n h =
        map_map (encode (result t u)) inr (λ v. leaf_bytes bool 1 ++ encode u v) (unpack u (at + n) (drop n cs)) (λ v. refl)
        ∙ sym (map_map (λ l. leaf_bytes bool 1 ++ l) (encode u) (λ v. leaf_bytes bool 1 ++ encode u v) (unpack u (at + n) (drop n cs)) (λ v. refl))
    tagged (suc (suc b)) n h = absurd (let z : suc (suc b) < 2 = h in omega arith)

-- ---- how much: cells that are taken are there, and each gives at most nine bytes

pub put_most : (t : Ty) (at : ℕ) (cs : List ℕ) (l : List ℕ) (n : ℕ) → Under (2 ^ 64) cs → put t at cs ≡ got l n → (n ≤ length cs) × (length l ≤ 9 * n)
unfolding put map_res
put_most t at cs l n u e = go (unpack t at cs) refl e
  where
    go : (r : Res (Val t)) → unpack t at cs ≡ r → map_res (encode t) r ≡ got l n → (n ≤ length cs) × (length l ≤ 9 * n)
    go (got v m) q f =
        let a : encode t v ≡ l = cc in
        let b : m ≡ n = cc in
        let c = cells_unpacked t at cs v m u q in
        let d : length (cells t v) ≡ m = ap length c.2 ∙ length-take m cs ∙ omega (arith, c.0) in
        (omega (arith, c.0), omega (arith, nine_bytes t v c.1, ap length a))
    go (bad y) q f = absurd (let z : ◌≡◌ {A = ℕ} 0 1 = cc in omega arith)

-- ---- the jobs

-- what follows the bytes that are put, in place of what follows the value
pub put_out_lem : {A : Type 0} (given room : ℕ) (F : List ℕ → List ℕ) (f : A → List ℕ) (r : Res A) → put_out given room (λ v. F (f v)) r ≡ put_out given room F (map_res f r)
unfolding put_out map_res
put_out_lem given room F f (got v n) = refl
put_out_lem given room F f (bad y) = refl

pub output_put : (t : Ty) (cs : List ℕ) (room : ℕ) → output t cs room ≡ put_out (length cs) room (λ l. l) (put t 0 cs)
unfolding output put
output_put t cs room = put_out_lem (length cs) room (λ l. l) (encode t) (unpack t 0 cs)
