-- The walkers, kind by kind: from the passes of the parts to the pass of the whole.
use Rattle.std.specs.Prelude.{Ok, Err, List, ◌≡◌, ℕ, zero, suc, ◌+◌, ◌-◌, ◌*◌, ◌^◌, ◌≤◌, ◌<◌, min, length, drop, take, get_or}
use Rattle.std.proofs.Common.{refl, ap, sym, ◌∙◌, subst, arith, le_of_lt, lt_of_le_of_lt, mul-le-mul, lit<, length-drop}
use Rattle.std.proofs.lemmas.List.Edits.{sets}
use Rattle.rules.specs.Basics.{choose}
use Rattle.rules.specs.Compact.{compact_from}
use Rattle.rules.proofs.Laws.Compact.Answers.{fits_lt}
use Rattle.rules.proofs.Laws.Compact.Law.{compact_took}
use Rattle.rules.specs.Parser.{got}
use Rattle.rules.proofs.Laws.Places.{part_rest}
use Rattle.rules.specs.Refusals.{max_footprint}
use Rattle.rules.specs.Scan.Held.{Held}
use Rattle.rules.proofs.Laws.Scan.Held.{pass_held}
use Rattle.rules.specs.Scan.Pass.{Pass, Passer, pass_at, pass_none, behind, then_from, and_then, after, items, passing, entry_pass, landed, leaf_pass}
use Rattle.rules.proofs.Laws.Scan.Pass.{pass_nothing, pass_pair}
use Rattle.rules.specs.Scan.Single.{Entering}
use Rattle.rules.proofs.Laws.Scan.Single.{vector_counted}
use Rattle.rules.specs.Scan.Units.{units_at}
use Rattle.rules.proofs.Laws.Scan.Units.{items_units}
use Rattle.rules.proofs.Laws.Scan.Walk.{result_then, tag_there, leaf_held, units_code, one_item}
use Rattle.rules.specs.Table.{node_in, build, units_of}
use Rattle.rules.specs.Table.Laws.{Below, Good}
use Rattle.rules.proofs.Laws.Table.{check_good, numbers_at}
use Rattle.rules.specs.Totals.{foot, unit_cells}
use Rattle.rules.specs.Trace.{Head, vector_head}
use Rattle.rules.specs.Types.{Ty, nothing, result, pair, vector, option}
use Rattle.rules.specs.Wire.{leaf_from}
use Rattle.rules.proofs.Laws.Wire.{placed_says}
use Rattle.rules.specs.declared.Leaf.TheVariants.{Bool as bool, Compact as compact}
use Rattle.rules.specs.declared.Limits.{Limits}
use Rattle.rules.specs.declared.Node.{Node}
use Rattle.rules.specs.declared.Refusal.{Refusal}
use Rattle.rules.specs.Scan.{Scan}
use Rattle.rules.specs.declared.Totals.{Totals}
use Rattle.rules.specs.declared.Width.TheVariants.{W4 as w4}
use Rattle.node.specs.Laws.{node_is}
use Rattle.totals.specs.Units.{units_some, units_at_lem}
use Rattle.scan.proofs.Heads.{head_stops, head_enters, head_goes}
use Rattle.rules.specs.Scan.Landing.{Lands}
use Rattle.rules.proofs.Laws.Scan.Landing.{same_pass_as, lands_behind}
use Rattle.scan.specs.Walk.{Walkable, type_of}
use Rattle.scan.specs.declared.plan.Plan.{Plan}

-- ---- one pass after another

module _ (p : Pass) (k : Totals → ℕ → Pass) (l : List ℕ) (st : Totals) {P : Pass} {r : Scan} {m : List ℕ} (g : P ≡ and_then p k) (f : Lands p l st r m) where
  pub then_stops : {y : Refusal} {r' : Scan} → r ≡ Err y → r' ≡ Err y → Lands P l st r' m
  unfolding landed
  then_stops {y} q a =
      let e : P ≡ record { answer = Err y; cells = p.cells } = g ∙ ap (λ x. then_from x p.cells k) (sym f.answers ∙ q) ∙ (unfold then_from in refl) in
      record { answers = a ∙ sym (ap (λ (x : Pass). x.answer) e); writes = f.writes ∙ sym (ap (λ (x : Pass). sets l st.cells x.cells) e) }

  then_goes : {u : Totals} {e : ℕ} → r ≡ Ok (u, e) → u.cells ≡ st.cells + length p.cells → {r' : Scan} {m' : List ℕ} → Lands (k u e) m u r' m' → Lands P l st r' m'
  then_goes {u} {e} q c {r'} {m'} w =
      let b : P ≡ behind p.cells (k u e) = g ∙ ap (λ x. then_from x p.cells k) (sym f.answers ∙ q) ∙ (unfold then_from in refl) in
      lands_behind P (k u e) p.cells l m m' st u r' b (f.writes ∙ (unfold landed in refl)) c w

-- what is left of s behind its first n bytes
abbrev rest : ℕ → List ℕ → List ℕ
rest n s = take (length s - n) (drop n s)

-- on what is left behind an item
on_rest : (p : Passer) (at : ℕ) (s : List ℕ) (u : Totals) (e n : ℕ) (r : Scan) (l m : List ℕ) → n ≡ e - at → Lands (p e (rest n s) u) l u r m → Lands (after p at s u e) l u r m
on_rest p at s u e n r l m k f =
    let q : after p at s u e ≡ p e (rest n s) u = ap (λ (x : List ℕ). p e x u) (ap (λ j. drop j s) (sym k) ∙ sym (part_rest n s)) in
    same_pass_as (after p at s u e) (p e (rest n s) u) r l m u q f

-- ---- what a part that was passed leaves for the next

module _ {P : Plan} {node at : ℕ} {s : List ℕ} {lim : Limits} {st : Totals} (W : Walkable P node at s lim st) where
  -- at a node below
  pub walk_node : {a : ℕ} → a < node → Walkable P a at s lim st
  walk_node h = record { there = omega (arith, W.there); few = omega (arith, W.few); place = W.place; within = W.within; room = W.room; depth = W.depth }

  -- further on
  walk_on : (e n : ℕ) (u : Totals) → at ≤ e → n ≡ e - at → n ≤ length s → u.cells ≤ lim.cells → Walkable P node e (rest n s) lim u
  walk_on e n u from k used within = record {
    there = W.there;
    few = W.few;
    place = rw (part_rest n s) (omega (arith, length-drop n s, W.place));
    within = within;
    room = W.room;
    depth = W.depth;
  }

  pub walk_behind : {cs : List ℕ} {u : Totals} {e : ℕ} → Held lim st at s cs u e → Walkable P node e (rest (e - at) s) lim u
  walk_behind {u = u} {e = e} h = walk_on e (e - at) u h.from refl h.used h.within

  -- behind a vector's head
  pub walk_items : {h : Head} {n : ℕ} {u : Totals} {e : ℕ} → n ≤ length s → Entering lim st h (at + n) u e → Walkable P node e (rest n s) lim u
  walk_items {h} {n} {u} {e} used E =
      let k : u.cells ≡ st.cells + 1 = ap (λ (x : Totals). x.cells) E.totals in
      walk_on e n u (omega (arith, E.place)) (omega (arith, E.place)) used (omega (arith, E.lets.2))

-- ---- what a plan says of a node

good : (P : Plan) → Good P.checked.table.now
good P = check_good P.checked.table.now P.checked.fine

module _ {P : Plan} {node at : ℕ} {s : List ℕ} {lim : Limits} {st : Totals} (W : Walkable P node at s lim st) where
  foot_at : get_or P.checked.feet node 0 ≡ foot (type_of P node)
  foot_at = ap (λ (l : List ℕ). get_or l node 0) P.checked.footing ∙ numbers_at foot P.checked.table.now node W.there

  -- the units are the table's
  unit_at : foot (type_of P node) ≡ 0 → get_or P.units node 0 ≡ min (unit_cells (type_of P node) - 1) (2 ^ 64 - 1)
  unit_at z =
      let whole : P.units ≡ units_of P.checked.table.now = P.unitary ∙ (unfold units_of in rw P.checked.fine refl) in
      ap (λ (l : List ℕ). get_or l node 0) whole ∙ units_at_lem P.checked.table.now (good P) node W.there z

  -- c items that have no bytes
  pub walk_units : (level c : ℕ) → get_or P.checked.feet node 0 ≡ 0
      → items c (pass_at (type_of P node) lim level) at s st ≡ units_at lim st at (c * (get_or P.units node 0 + 1))
  walk_units level c z =
      let t : Ty = type_of P node in
      let f : foot t ≡ 0 = sym foot_at ∙ z in
      items_units t f lim level c at s st W.within
      ∙ sym (units_code lim st at c (unit_cells t) (get_or P.units node 0) W.room (units_some P.checked.table.now (good P) node W.there f) (unit_at f))

  -- one item
  pub walk_unit : (level : ℕ) → get_or P.checked.feet node 0 ≡ 0 → pass_at (type_of P node) lim level at s st ≡ units_at lim st at (1 * (get_or P.units node 0 + 1))
  walk_unit level z = one_item (pass_at (type_of P node) lim level) at s st ∙ walk_units level 1 z

  -- ---- by the node's kind

  module _ {q : Node} (g : q ≡ node_in P.checked.table.now node) (n : Node) (f : q ≡ n) where
    pub children : Below node n
    children = (node_is P.checked.table.now (good P) node W.there q n g f).1

    -- what passed an item of the node's kind passed an item of the node
    pub by_kind : (level : ℕ) {r : Scan} (l : List ℕ) {m : List ℕ}
        → Lands (pass_at (build (type_of P) n) lim level at s st) l st r m → Lands (pass_at (type_of P node) lim level at s st) l st r m
    by_kind level {r} l {m} w =
        same_pass_as (pass_at (type_of P node) lim level at s st) (pass_at (build (type_of P) n) lim level at s st) r l m st
        (ap (λ x. pass_at x lim level at s st) (node_is P.checked.table.now (good P) node W.there q n g f).0) w

-- ---- an Option, a Result: behind the tag

choose_zero : {A : Type 0} (b : ℕ) (x y : A) → b ≡ 0 → choose b x y ≡ x
choose_zero zero x y e = refl
choose_zero (suc b) x y e = absurd (omega arith)

choose_more : {A : Type 0} (b : ℕ) (x y : A) → (b ≡ 0 → ⊥) → choose b x y ≡ y
choose_more zero x y n = absurd (n refl)
choose_more (suc b) x y n = refl

module _ {P : Plan} {a at : ℕ} {s : List ℕ} {lim : Limits} {st : Totals} (W : Walkable P a at s lim st)
    {r : Scan} (l : List ℕ) {m : List ℕ} (f : Lands (leaf_pass bool lim at s st) l st r m) {u : Totals} {e : ℕ} (d : r ≡ Ok (u, e)) where
  pub tag_held : Held lim st at s (leaf_pass bool lim at s st).cells u e
  tag_held = leaf_held bool lim at s st u e W.within (sym f.answers ∙ d)

  pub tag_in : 0 < length s
  tag_in = tag_there lim at s st u e (sym f.answers ∙ d)

  -- by the tag
  tag_goes : (A B : Ty) (level : ℕ) (x : Passer) → choose (get_or s 0 0) (pass_at A lim level) (pass_at B lim level) ≡ x → {r' : Scan} {m' : List ℕ}
      → Lands (x e (rest (e - at) s) u) m u r' m' → Lands (pass_at (result A B) lim level at s st) l st r' m'
  tag_goes A B level x c {r'} {m'} w =
      then_goes (leaf_pass bool lim at s st) (after x at s) l st (result_then A B lim level at s st ∙ ap (λ p. and_then (leaf_pass bool lim at s st) (after p at s)) c) f d tag_held.counted (on_rest x at s u e (e - at) r' m m' refl w)

  pub tag_first : (A B : Ty) (level : ℕ) {r' : Scan} {m' : List ℕ} → get_or s 0 0 ≡ 0
      → Lands (pass_at A lim level e (rest (e - at) s) u) m u r' m' → Lands (pass_at (result A B) lim level at s st) l st r' m'
  tag_first A B level z w = tag_goes A B level (pass_at A lim level) (choose_zero (get_or s 0 0) (pass_at A lim level) (pass_at B lim level) z) w

  pub tag_second : (A B : Ty) (level : ℕ) {r' : Scan} {m' : List ℕ} → (get_or s 0 0 ≡ 0 → ⊥)
      → Lands (pass_at B lim level e (rest (e - at) s) u) m u r' m' → Lands (pass_at (result A B) lim level at s st) l st r' m'
  tag_second A B level z w = tag_goes A B level (pass_at B lim level) (choose_more (get_or s 0 0) (pass_at A lim level) (pass_at B lim level) z) w

  -- nothing is behind it
  pub tag_alone : (A : Ty) (level : ℕ) → get_or s 0 0 ≡ 0 → Lands (pass_at (option A) lim level at s st) l st (Ok (u, e)) m
  tag_alone A level z =
      tag_first nothing A level z
      (same_pass_as (pass_at nothing lim level e (rest (e - at) s) u) (pass_none (Ok (u, e))) (Ok (u, e)) m m u (pass_nothing lim level e (rest (e - at) s) u) (record { answers = refl; writes = unfold landed in refl }))

-- ---- a pair: behind the first

module _ {P : Plan} {a at : ℕ} {s : List ℕ} {lim : Limits} {st : Totals} (W : Walkable P a at s lim st)
    (A : Ty) (level : ℕ) {r : Scan} (l : List ℕ) {m : List ℕ} (f : Lands (pass_at A lim level at s st) l st r m) {u : Totals} {e : ℕ} (d : r ≡ Ok (u, e)) where
  pub item_held : Held lim st at s (pass_at A lim level at s st).cells u e
  item_held = pass_held A lim level at s st u e W.within (sym f.answers ∙ d)

  pub pair_goes : (B : Ty) {r' : Scan} {m' : List ℕ} → Lands (pass_at B lim level e (rest (e - at) s) u) m u r' m' → Lands (pass_at (pair A B) lim level at s st) l st r' m'
  pair_goes B {r'} {m'} w = then_goes (pass_at A lim level at s st) (after (pass_at B lim level) at s) l st (pass_pair A B lim level at s st) f d item_held.counted (on_rest (pass_at B lim level) at s u e (e - at) r' m m' refl w)

-- ---- a vector: behind the count

-- a count that is read fits 32 bits
count_lt : (at : ℕ) (s : List ℕ) (c n : ℕ) → leaf_from (compact w4) at s ≡ got c n → c < 2 ^ 32
unfolding leaf_from
count_lt at s c n e = fits_lt 4 c (compact_took 4 c n s (placed_says at (compact_from 4 s) c n e)).2

module _ {P : Plan} {a at : ℕ} {s : List ℕ} {lim : Limits} {st : Totals} (W : Walkable P a at s lim st) {c n : ℕ} (k : leaf_from (compact w4) at s ≡ got c n) where
  -- the charge fits
  pub charge_lt : c * get_or P.checked.feet a 0 < 2 ^ 64
  charge_lt = lt_of_le_of_lt (mul-le-mul (le_of_lt (count_lt at s c n k)) (subst (λ x. x ≤ max_footprint) (sym (foot_at W)) ((good P).feet a W.there))) (lit< tt)

  -- the head, with the footprint that stands in the array
  counted : (level : ℕ) → pass_at (vector (type_of P a)) lim level at s st
      ≡ passing lim st (vector_head (get_or P.checked.feet a 0) level at c) (λ u. after (items c (pass_at (type_of P a) lim (level + 1))) at s u (at + n))
  counted level =
      vector_counted lim level at s st (type_of P a) c n k
      ∙ ap (λ x. passing lim st (vector_head x level at c) (λ u. after (items c (pass_at (type_of P a) lim (level + 1))) at s u (at + n))) (sym (foot_at W))

  module _ (level : ℕ) {r : Scan} (l : List ℕ) {m : List ℕ} (f : Lands (entry_pass lim st (record { place = at; level = level + 1; charge = c * get_or P.checked.feet a 0; cell = c; extra = 0 }) (at + n)) l st r m) where
    pub vector_stops : {y : Refusal} {r' : Scan} → r ≡ Err y → r' ≡ Err y → Lands (pass_at (vector (type_of P a)) lim level at s st) l st r' m
    vector_stops {y} q g = head_stops lim st _ _ r l m f y q (λ u. after (items c (pass_at (type_of P a) lim (level + 1))) at s u (at + n)) _ (counted level) g

    module _ {u : Totals} {e : ℕ} (d : r ≡ Ok (u, e)) where
      pub entered : Entering lim st (record { place = at; level = level + 1; charge = c * get_or P.checked.feet a 0; cell = c; extra = 0 }) (at + n) u e
      entered = head_enters lim st _ _ r l m f u e d

      pub vector_goes : {r' : Scan} {m' : List ℕ} → Lands (items c (pass_at (type_of P a) lim (level + 1)) e (rest n s) u) m u r' m' → Lands (pass_at (vector (type_of P a)) lim level at s st) l st r' m'
      vector_goes {r'} {m'} w =
          let p : Passer = items c (pass_at (type_of P a) lim (level + 1)) in
          let b : Lands (after p at s u e) m u r' m' = on_rest p at s u e n r' m m' (omega (arith, entered.place)) w in
          head_goes lim st _ _ r l m f u e d (λ u. after p at s u (at + n)) _ r' m' (counted level) (subst (λ j. Lands (after p at s u j) m u r' m') entered.place b)

-- ---- the loop over items

-- what is left gives the whole
pub record Looping (p : Passer) (P : Plan) (node : ℕ) (lim : Limits) (count at : ℕ) (s : List ℕ) (t₀ : Totals) (cells₀ cells left : List ℕ) (e : ℕ) (t : Totals) (done : ℕ) : Type 0 where
  pub same : (r : Scan) (m : List ℕ) → Lands (items (count - done) p e left t) cells t r m → Lands (items count p at s t₀) cells₀ t₀ r m
  pub walkable : Walkable P node e left lim t

items_next : (p : Passer) (n e : ℕ) (s : List ℕ) (t : Totals) → 0 < n → items n p e s t ≡ and_then (p e s t) (after (items (n - 1) p) e s)
unfolding items
items_next p zero e s t h = absurd (omega arith)
items_next p (suc n) e s t h = let k : n ≡ suc n - 1 = omega arith in ap (λ j. and_then (p e s t) (after (items j p) e s)) k

module _ {P : Plan} {node : ℕ} (level : ℕ) {lim : Limits} {count at : ℕ} {s : List ℕ} {t₀ : Totals} {cells₀ cells left : List ℕ} {e : ℕ} {t : Totals} {done : ℕ}
    (L : Looping (pass_at (type_of P node) lim level) P node lim count at s t₀ cells₀ cells left e t done) where
  pub loop_done : count ≤ done → Lands (items count (pass_at (type_of P node) lim level) at s t₀) cells₀ t₀ (Ok (t, e)) cells
  loop_done h =
      let z : count - done ≡ 0 = omega arith in
      L.same (Ok (t, e)) cells (rw z (unfold items landed in record { answers = refl; writes = refl }))

  module _ (more : done < count) {r : Scan} {m : List ℕ} (f : Lands (pass_at (type_of P node) lim level e left t) cells t r m) where
    next : items (count - done) (pass_at (type_of P node) lim level) e left t
        ≡ and_then (pass_at (type_of P node) lim level e left t) (after (items (count - (done + 1)) (pass_at (type_of P node) lim level)) e left)
    next =
        let p : Passer = pass_at (type_of P node) lim level in
        let k : count - done - 1 ≡ count - (done + 1) = omega arith in
        items_next p (count - done) e left t (omega arith) ∙ ap (λ j. and_then (p e left t) (after (items j p) e left)) k

    pub loop_stops : {y : Refusal} {r' : Scan} → r ≡ Err y → r' ≡ Err y → Lands (items count (pass_at (type_of P node) lim level) at s t₀) cells₀ t₀ r' m
    loop_stops {r' = r'} q g = L.same r' m (then_stops (pass_at (type_of P node) lim level e left t) _ cells t next f q g)

    pub loop_goes : {u : Totals} {e' : ℕ} → r ≡ Ok (u, e') → Looping (pass_at (type_of P node) lim level) P node lim count at s t₀ cells₀ m (rest (e' - e) left) e' u (done + 1)
    loop_goes {u} {e'} q =
        let p : Passer = pass_at (type_of P node) lim level in
        let held : Held lim t e left (p e left t).cells u e' = item_held L.walkable (type_of P node) level cells f q in
        record {
          same = λ r' m' w. L.same r' m' (then_goes (p e left t) _ cells t next f q held.counted (on_rest (items (count - (done + 1)) p) e left u e' (e' - e) r' m m' refl w));
          walkable = walk_behind L.walkable held;
        }
