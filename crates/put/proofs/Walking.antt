-- The walkers, kind by kind: from what the parts put to what the whole does.
use Rattle.std.specs.Prelude.{Bool, true, false, List, [], ◌∷◌, ◌≡◌, refl, ℕ, zero, suc, ◌+◌, ◌-◌, ◌^◌, ◌≤◌, ◌<◌, ltb, length, drop, take, get_or, Ok, Err}
use Rattle.std.proofs.Common.{ap, ap₂, sym, ◌∙◌, arith, length-drop}
use Rattle.rules.specs.Basics.{pick, choose}
use Rattle.rules.specs.Cells.{wide, one, halves, leaf_taken, unpack}
use Rattle.rules.specs.Parser.{Res, got, bad, Parser, map_res}
use Rattle.rules.specs.Put.{Put, put, ahead, put_leaf, put_of}
use Rattle.rules.specs.Refusals.{unfit_at}
use Rattle.rules.specs.Table.{node_in, build, ty_at, fine, check_table}
use Rattle.rules.specs.Table.Laws.{Below}
use Rattle.rules.specs.Types.{Ty, leaf, nothing, option, result, pair, array, vector, bound}
use Rattle.rules.specs.Wire.{leaf_bytes, encode}
use Rattle.rules.specs.declared.Leaf.{Leaf}
use Rattle.rules.specs.declared.Leaf.TheVariants.{Bool as bool, Compact as compact}
use Rattle.rules.specs.declared.Node.{Node}
use Rattle.rules.specs.declared.Refusal.{Refusal}
use Rattle.rules.specs.declared.Width.TheVariants.{W4 as w4}
use Rattle.rules.proofs.Laws.Bytes.{under_drop}
use Rattle.rules.proofs.Laws.Places.{sets_length, part_rest}
use Rattle.rules.proofs.Laws.Put.{put_leaf_lem, put_nothing, put_pair, put_none, put_more, put_vector, put_result, put_most}
use Rattle.rules.proofs.Laws.Table.{check_good}
use Rattle.node.specs.Laws.{node_is}
use Rattle.put.proofs.Putting.{same_put, gone, stops, follows}
use Rattle.put.specs.Written.{Spare, Puttable, PutsAt}

-- ---- what a part that was put leaves for the next

-- what is left of cs behind its first n cells
abbrev rest : ℕ → List ℕ → List ℕ
rest n cs = take (length cs - n) (drop n cs)

pub record Behind (at : ℕ) (cs : List ℕ) (c e : ℕ) : Type 0 where
  pub from : at ≤ c
  pub taken : c - at ≤ length cs
  pub few : length cs < 2 ^ 60
  pub further : Spare c (rest (c - at) cs) e

-- an item at the rest of the cells
rest_at : (u : Ty) (at used c : ℕ) (cs : List ℕ) → c ≡ at + used → put u c (rest (c - at) cs) ≡ put u (at + used) (drop used cs)
rest_at u at used c cs e =
    let k : c - at ≡ used = omega (arith, e) in
    ap₂ (put u) e (part_rest (c - at) cs ∙ ap (λ x. drop x cs) k)

module _ (at : ℕ) (cs : List ℕ) {pos : ℕ} {out m : List ℕ} {r : Put} {c e : ℕ} where
  pub behind_item : (t : Ty) → Spare at cs pos → PutsAt at pos (put t at cs) out m r → r ≡ Ok (c, e) → Behind at cs c e
  unfolding put map_res
  behind_item t S h d =
      let g = gone (encode t) (unpack t at cs) h d in
      let some = put_most t at cs (encode t g.value) g.used S.words (ap (map_res (encode t)) g.is) in
      let from : at ≤ c = omega (arith, g.cell) in
      let taken : c - at ≤ length cs = omega (arith, g.cell, some.0) in
      record {
        from = from;
        taken = taken;
        few = omega (arith, S.taking);
        further = record {
          words = rw (part_rest (c - at) cs) (under_drop (2 ^ 64) (c - at) cs S.words);
          taking = rw (part_rest (c - at) cs) (omega (arith, length-drop (c - at) cs, S.taking, taken, from));
          putting = rw (part_rest (c - at) cs) (omega (arith, length-drop (c - at) cs, S.putting, g.cell, g.byte, some.0, some.1));
        };
      }

  pub behind_leaf : (k : Leaf) → Spare at cs pos → PutsAt at pos (put_leaf k at cs) out m r → r ≡ Ok (c, e) → Behind at cs c e
  behind_leaf k S h d = behind_item (leaf k) S (same_put (put_leaf_lem k at cs) h) d

-- ---- the first cell, of a leaf that has one

first_cell : (k : Leaf) (at : ℕ) (cs : List ℕ) (v n : ℕ) → wide k ≡ false → leaf_taken k at cs ≡ got v n → (v ≡ get_or cs 0 0) × (0 < length cs)
unfolding leaf_taken one
first_cell k at cs v n z e = go cs (sym (ap (λ b. pick b (halves at cs) (one (bound k) at cs)) z) ∙ e)
  where
    go : (l : List ℕ) → one (bound k) at l ≡ got v n → (v ≡ get_or l 0 0) × (0 < length l)
    go [] f = absurd (let y : ◌≡◌ {A = ℕ} 0 1 = cc in omega arith)
    go (c ∷ l) f = fits (ltb c (bound k)) f
      where
        fits : (b : Bool) → pick b (got c 1) (bad (unfit_at at)) ≡ got v n → (v ≡ c) × (0 < length (c ∷ l))
        fits true h = let q : c ≡ v = cc in (sym q, omega arith)
        fits false h = absurd (let y : ◌≡◌ {A = ℕ} 0 1 = cc in omega arith)

-- a leaf of one cell that was put has it
pub cell_there : (k : Leaf) (at : ℕ) (cs : List ℕ) {pos : ℕ} {out m : List ℕ} {r : Put} {c e : ℕ} → wide k ≡ false → PutsAt at pos (put_leaf k at cs) out m r → r ≡ Ok (c, e) → 0 < length cs
cell_there k at cs z h d =
    let g = gone (leaf_bytes k) (leaf_taken k at cs) h d in
    (first_cell k at cs g.value g.used z g.is).1

-- ---- a whole P of two parts: its first is an item, or a leaf of one cell, by which F says what follows

module _ (at : ℕ) (cs : List ℕ) {pos : ℕ} {out m : List ℕ} {r : Put} {P : Res (List ℕ)} where
  module _ (t X : Ty) (p : P ≡ ahead (encode t) (λ v n. put X (at + n) (drop n cs)) (unpack t at cs)) (h : PutsAt at pos (put t at cs) out m r) where
    item_stops : {y : Refusal} {a : Put} → r ≡ Err y → a ≡ Err y → PutsAt at pos P out m a
    unfolding put
    item_stops d e = same_put p (stops (encode t) (λ v n. put X (at + n) (drop n cs)) (unpack t at cs) h d e)

    item_goes : {c e : ℕ} → r ≡ Ok (c, e) → {q : Put} {l : List ℕ} → PutsAt c e (put X c (rest (c - at) cs)) m l q → PutsAt at pos P out l q
    item_goes {c} d f =
        let first : PutsAt at pos (map_res (encode t) (unpack t at cs)) out m r = unfold put in h in
        let g = gone (encode t) (unpack t at cs) first d in
        same_put p (follows (λ v n. put X (at + n) (drop n cs)) g (same_put (sym (rest_at X at g.used c cs g.cell)) f))

  module _ (k : Leaf) (F : ℕ → Parser (List ℕ)) (p : P ≡ ahead (leaf_bytes k) (λ v n. F v (at + n) (drop n cs)) (leaf_taken k at cs)) (h : PutsAt at pos (put_leaf k at cs) out m r) where
    head_stops : {y : Refusal} {a : Put} → r ≡ Err y → a ≡ Err y → PutsAt at pos P out m a
    head_stops d e = same_put p (stops (leaf_bytes k) (λ v n. F v (at + n) (drop n cs)) (leaf_taken k at cs) h d e)

    head_goes : wide k ≡ false → {c e : ℕ} → r ≡ Ok (c, e) → (X : Ty) → F (get_or cs 0 0) ≡ put X → {q : Put} {l : List ℕ} → PutsAt c e (put X c (rest (c - at) cs)) m l q → PutsAt at pos P out l q
    head_goes z {c} d X x f =
        let g = gone (leaf_bytes k) (leaf_taken k at cs) h d in
        let v = (first_cell k at cs g.value g.used z g.is).0 in
        let y : F g.value (at + g.used) (drop g.used cs) ≡ put X c (rest (c - at) cs) =
        ap (λ G. G (at + g.used) (drop g.used cs)) (ap F v ∙ x) ∙ sym (rest_at X at g.used c cs g.cell) in
        same_put p (follows (λ v n. F v (at + n) (drop n cs)) g (same_put y f))

-- no bytes are put of no cells
no_more : (c e : ℕ) (P : Res (List ℕ)) (out : List ℕ) → P ≡ got [] 0 → PutsAt c e P out out (Ok (c, e))
unfolding put_of
no_more c e P out p =
    let a : c ≡ c + 0 = omega arith in
    let b : e ≡ e + 0 = omega arith in
    same_put p (record { answers = ap₂ (λ x y. Ok (x, y)) a b; writes = refl })

-- ---- a node's value, by its kind

module _ {tb : List ℕ} (f : check_table tb ≡ fine) {node at : ℕ} {cs : List ℕ} {pos : ℕ} (W : Puttable tb node at cs pos) {q : Node} (g : q ≡ node_in tb node) where
  pub children : (n : Node) → q ≡ n → Below node n
  children n e = (node_is tb (check_good tb f) node W.there q n g e).1

  -- what put a value of the node's kind put one of the node
  pub by_kind : (n : Node) → q ≡ n → {out m : List ℕ} {r : Put} → PutsAt at pos (put (build (ty_at tb) n) at cs) out m r → PutsAt at pos (put (ty_at tb node) at cs) out m r
  by_kind n e h = same_put (ap (λ t. put t at cs) (node_is tb (check_good tb f) node W.there q n g e).0) h

-- at a node below
pub put_node : {tb : List ℕ} {node a at : ℕ} {cs : List ℕ} {pos : ℕ} → Puttable tb node at cs pos → a < node → Puttable tb a at cs pos
put_node W h = record { there = omega (arith, W.there); spare = W.spare }

-- at the next part
pub put_next : {tb : List ℕ} {node at : ℕ} {cs : List ℕ} {pos c e : ℕ} → Puttable tb node at cs pos → Behind at cs c e → Puttable tb node c (rest (c - at) cs) e
put_next W B = record { there = W.there; spare = B.further }

-- ---- an Option, a Result: behind the tag

module _ (A B : Ty) (at : ℕ) (cs : List ℕ) {pos : ℕ} {out m : List ℕ} {r : Put} (h : PutsAt at pos (put_leaf bool at cs) out m r) where
  pub tag_stops : {y : Refusal} {a : Put} → r ≡ Err y → a ≡ Err y → PutsAt at pos (put (result A B) at cs) out m a
  tag_stops d e = head_stops at cs bool (λ b. choose b (put A) (put B)) (put_result A B at cs) h d e

  module _ {c e : ℕ} (d : r ≡ Ok (c, e)) {q : Put} {l : List ℕ} where
    pub tag_first : get_or cs 0 0 ≡ 0 → PutsAt c e (put A c (rest (c - at) cs)) m l q → PutsAt at pos (put (result A B) at cs) out l q
    tag_first z f = head_goes at cs bool (λ b. choose b (put A) (put B)) (put_result A B at cs) h refl d A (ap (λ b. choose b (put A) (put B)) z) f

    pub tag_second : (get_or cs 0 0 ≡ 0 → ⊥) → PutsAt c e (put B c (rest (c - at) cs)) m l q → PutsAt at pos (put (result A B) at cs) out l q
    tag_second z f = head_goes at cs bool (λ b. choose b (put A) (put B)) (put_result A B at cs) h refl d B (other (get_or cs 0 0) z) f
      where
        other : (b : ℕ) → (b ≡ 0 → ⊥) → choose b (put A) (put B) ≡ put B
        other zero n = absurd (n refl)
        other (suc b) n = refl

-- nothing is behind it
pub tag_alone : (B : Ty) (at : ℕ) (cs : List ℕ) {pos : ℕ} {out m : List ℕ} {r : Put} {c e : ℕ} → PutsAt at pos (put_leaf bool at cs) out m r → r ≡ Ok (c, e) → get_or cs 0 0 ≡ 0
    → PutsAt at pos (put (option B) at cs) out m (Ok (c, e))
tag_alone B at cs {pos} {out} {m} {r} {c} {e} h d z = tag_first nothing B at cs h d z (no_more c e _ m (put_nothing c (rest (c - at) cs)))

-- ---- a pair: behind the first

module _ (A B : Ty) (at : ℕ) (cs : List ℕ) {pos : ℕ} {out m : List ℕ} {r : Put} (h : PutsAt at pos (put A at cs) out m r) where
  pub pair_stops : {y : Refusal} {a : Put} → r ≡ Err y → a ≡ Err y → PutsAt at pos (put (pair A B) at cs) out m a
  pair_stops d e = item_stops at cs A B (put_pair A B at cs) h d e

  pub pair_goes : {c e : ℕ} → r ≡ Ok (c, e) → {q : Put} {l : List ℕ} → PutsAt c e (put B c (rest (c - at) cs)) m l q → PutsAt at pos (put (pair A B) at cs) out l q
  pair_goes d f = item_goes at cs A B (put_pair A B at cs) h d f

-- ---- a vector: behind the count

module _ (A : Ty) (at : ℕ) (cs : List ℕ) {pos : ℕ} {out m : List ℕ} {r : Put} (h : PutsAt at pos (put_leaf (compact w4) at cs) out m r) where
  pub vector_stops : {y : Refusal} {a : Put} → r ≡ Err y → a ≡ Err y → PutsAt at pos (put (vector A) at cs) out m a
  vector_stops d e = head_stops at cs (compact w4) (λ n. put (array n A)) (put_vector A at cs) h d e

  pub vector_goes : {c e : ℕ} → r ≡ Ok (c, e) → {q : Put} {l : List ℕ} → PutsAt c e (put (array (get_or cs 0 0) A) c (rest (c - at) cs)) m l q → PutsAt at pos (put (vector A) at cs) out l q
  vector_goes d f = head_goes at cs (compact w4) (λ n. put (array n A)) (put_vector A at cs) h refl d (array (get_or cs 0 0) A) refl f

-- ---- items: what the loop keeps is that what is left, put from here, gives the whole

pub record Looping (tb : List ℕ) (node count at : ℕ) (cs : List ℕ) (pos : ℕ) (out₀ out over : List ℕ) (next end left : ℕ) : Type 0 where
  pub going : Puttable tb node next over end
  pub size : length out ≡ length out₀
  pub leaves : (r : Put) (l : List ℕ) → PutsAt next end (put (array left (ty_at tb node)) next over) out l r → PutsAt at pos (put (array count (ty_at tb node)) at cs) out₀ l r

pub loop_none : {tb : List ℕ} {node count at : ℕ} {cs : List ℕ} {pos : ℕ} {out : List ℕ} → Puttable tb node at cs pos → Looping tb node count at cs pos out out cs at pos (count - 0)
loop_none {tb} {node} {count} {at} {cs} {pos} {out} W =
    let all : count - 0 ≡ count = omega arith in
    record { going = W; size = refl; leaves = rw all (λ r l h. h) }

module _ {tb : List ℕ} {node count at : ℕ} {cs : List ℕ} {pos : ℕ} {out₀ out over : List ℕ} {next end i : ℕ} (I : Looping tb node count at cs pos out₀ out over next end (count - i)) where
  pub loop_done : count ≤ i → PutsAt at pos (put (array count (ty_at tb node)) at cs) out₀ out (Ok (next, end))
  loop_done h =
      let z : count - i ≡ 0 = omega arith in
      I.leaves (Ok (next, end)) out
      (no_more next end _ out (ap (λ n. put (array n (ty_at tb node)) next over) z ∙ put_none (ty_at tb node) next over))

  module _ (some : i < count) {m : List ℕ} {r : Put} (h : PutsAt next end (put (ty_at tb node) next over) out m r) where
    more_is : put (array (count - i) (ty_at tb node)) next over
        ≡ ahead (encode (ty_at tb node)) (λ v n. put (array (count - (i + 1)) (ty_at tb node)) (next + n) (drop n over)) (unpack (ty_at tb node) next over)
    more_is =
        let k : count - i ≡ suc (count - (i + 1)) = omega arith in
        ap (λ n. put (array n (ty_at tb node)) next over) k ∙ put_more (count - (i + 1)) (ty_at tb node) next over

    pub loop_stops : {y : Refusal} {a : Put} → r ≡ Err y → a ≡ Err y → PutsAt at pos (put (array count (ty_at tb node)) at cs) out₀ m a
    loop_stops {y} {a} d e = I.leaves a m (item_stops next over (ty_at tb node) (array (count - (i + 1)) (ty_at tb node)) more_is h d e)

    pub loop_again : {c e : ℕ} → r ≡ Ok (c, e) → Looping tb node count at cs pos out₀ m (rest (c - next) over) c e (count - (i + 1))
    loop_again {c} {e} d = record {
      going = put_next I.going (behind_item next over (ty_at tb node) I.going.spare h d);
      size =
          let item : PutsAt next end (map_res (encode (ty_at tb node)) (unpack (ty_at tb node) next over)) out m r = unfold put in h in
          let g = gone (encode (ty_at tb node)) (unpack (ty_at tb node) next over) item d in
          ap length g.leaves ∙ sets_length (encode (ty_at tb node) g.value) out end ∙ I.size;
      leaves = λ q l f. I.leaves q l (item_goes next over (ty_at tb node) (array (count - (i + 1)) (ty_at tb node)) more_is h d f);
    }
