-- Laws of the table: the one that unfolds a node's type, and what a checked table is, exactly.
use Rattle.std.specs.Prelude.{Bool, true, false, ◌&&◌, List, ◌++◌, ◌≡◌, ltb, leb, eqb, length, replicate, get_or, Ok, Err}
use Rattle.std.proofs.Math.Path.{refl}
use Rattle.std.proofs.Common.{ap, sym, ◌∙◌, ap₂, subst, add-zero, arith, ltb-true, ltb-false, lt-ltb, le-ltb, leb-true, le-leb, eqb-true, eq-eqb, length-append, ℕ, zero, suc, ◌+◌, ◌-◌, ◌*◌, ◌≤◌, ◌<◌}
use Rattle.std.proofs.lemmas.Bool.{lt-leb}
use Rattle.std.proofs.lemmas.List.{length-replicate}
use Rattle.rules.specs.Refusals.{Refusal, Answer, table_mark, table_size, wrong_node_at, footprint_at, max_footprint}
use Rattle.rules.specs.Basics.{pick}
use Rattle.rules.specs.Types.{Ty, result, pair, array, vector, option}
use Rattle.rules.proofs.Laws.Bits.{both_true}
use Rattle.rules.specs.Totals.{foot}
use Rattle.rules.specs.Table.{Node, leaf_node, option_node, result_node, pair_node, array_node, vector_node, bits_node, unknown, Check, fine, count, node_at, build, ty_by, ty_at, marked, sized, allowed, nodes_from, head_check, check_table, numbers_from, numbers_of, after_check, footprints_of, unit_code, units_of}
use Rattle.rules.specs.Table.Laws.{Below, Good, Passes, Headed}

-- what holds for all children
pub build_same : (f g : ℕ → Ty) (i : ℕ) (n : Node) → Below i n → ((j : ℕ) → j < i → f j ≡ g j) → build f n ≡ build g n
build_same f g i (leaf_node k) b h = refl
build_same f g i (option_node a) b h = ap option (h a b)
build_same f g i (result_node a c) b h = ap₂ result (h a b.0) (h c b.1)
build_same f g i (pair_node a c) b h = ap₂ pair (h a b.0) (h c b.1)
build_same f g i (array_node n a) b h = ap (array n) (h a b)
build_same f g i (vector_node a) b h = ap vector (h a b)
build_same f g i bits_node b h = refl
build_same f g i unknown b h = absurd b

-- for a table whose first k nodes are good
module _ (tb : List ℕ) (k : ℕ) (few : k ≤ 64) (nodes : (i : ℕ) → i < k → Below i (node_at tb i)) where
  fuel : (m n i : ℕ) → i < k → i < m → i < n → ty_by tb m i ≡ ty_by tb n i
  unfolding ty_by
  fuel zero n i hi hm hn = absurd (omega arith)
  fuel (suc m) zero i hi hm hn = absurd (omega arith)
  fuel (suc m) (suc n) i hi hm hn =
      build_same (ty_by tb m) (ty_by tb n) i (node_at tb i) (nodes i hi) (λ j hj. fuel m n j (omega arith) (omega arith) (omega arith))

  pub type_prefix : (i : ℕ) → i < k → ty_at tb i ≡ build (ty_at tb) (node_at tb i)
  unfolding ty_at ty_by
  type_prefix i hi = build_same (ty_by tb 63) (ty_by tb 64) i (node_at tb i) (nodes i hi) (λ j hj. fuel 63 64 j (omega arith) (omega arith) (omega arith))

-- THE ONE LAW of a checked table: a node's type, over its children's
pub type_node : (tb : List ℕ) → Good tb → (i : ℕ) → i < count tb → ty_at tb i ≡ build (ty_at tb) (node_at tb i)
type_node tb good = type_prefix tb (count tb) good.few good.nodes

pub allowed_below : (i : ℕ) (n : Node) → allowed i n ≡ true → Below i n
unfolding allowed
allowed_below i (leaf_node k) e = tt
allowed_below i (option_node a) e = ltb-true a i e
allowed_below i (result_node a b) e = let r = both_true (ltb a i) (ltb b i) e in (ltb-true a i r.0, ltb-true b i r.1)
allowed_below i (pair_node a b) e = let r = both_true (ltb a i) (ltb b i) e in (ltb-true a i r.0, ltb-true b i r.1)
allowed_below i (array_node n a) e = ltb-true a i e
allowed_below i (vector_node a) e = ltb-true a i e
allowed_below i bits_node e = tt
allowed_below i unknown e = absurd (let z : ◌≡◌ {A = ℕ} 0 1 = cc in omega arith)

pub below_allowed : (i : ℕ) (n : Node) → Below i n → allowed i n ≡ true
unfolding allowed
below_allowed i (leaf_node k) h = refl
below_allowed i (option_node a) h = lt-ltb a i h
below_allowed i (result_node a b) h = rw (lt-ltb a i h.0, lt-ltb b i h.1)
below_allowed i (pair_node a b) h = rw (lt-ltb a i h.0, lt-ltb b i h.1)
below_allowed i (array_node n a) h = lt-ltb a i h
below_allowed i (vector_node a) h = lt-ltb a i h
below_allowed i bits_node h = refl
below_allowed i unknown h = absurd h

fine_pick : (b : Bool) (x : Check) (y : Refusal) → pick b x (Err y) ≡ fine → (b ≡ true) × (x ≡ fine)
fine_pick true x y e = (refl, e)
fine_pick false x y e = absurd (let z : ◌≡◌ {A = ℕ} 0 1 = cc in omega arith)

-- one node more
pub nodes_next : (tb : List ℕ) (n i : ℕ) → Passes tb i → nodes_from tb (suc n) i ≡ nodes_from tb n (suc i)
unfolding nodes_from
nodes_next tb n i p = rw (below_allowed i (node_at tb i) p.below, le-leb (foot (ty_at tb i)) max_footprint p.footing)

pub nodes_wrong : (tb : List ℕ) (n i : ℕ) → allowed i (node_at tb i) ≡ false → nodes_from tb (suc n) i ≡ Err (wrong_node_at i)
unfolding nodes_from
nodes_wrong tb n i e = rw e

pub nodes_large : (tb : List ℕ) (n i : ℕ) → allowed i (node_at tb i) ≡ true → max_footprint < foot (ty_at tb i) → nodes_from tb (suc n) i ≡ Err (footprint_at i)
unfolding nodes_from
nodes_large tb n i e h = rw (e, lt-leb (foot (ty_at tb i)) max_footprint h)

nodes_pass : (tb : List ℕ) (n i : ℕ) → nodes_from tb n i ≡ fine → (j : ℕ) → i ≤ j → j < i + n → Passes tb j
unfolding nodes_from
nodes_pass tb zero i e j lo hi = absurd (omega arith)
nodes_pass tb (suc n) i e j lo hi = go (ltb i j) refl (λ h g. nodes_pass tb n (suc i) h j g (omega arith))
  where
    a : (allowed i (node_at tb i) ≡ true) × (pick (leb (foot (ty_at tb i)) max_footprint) (nodes_from tb n (suc i)) (Err (footprint_at i)) ≡ fine)
    a = fine_pick (allowed i (node_at tb i)) _ (wrong_node_at i) e

    b : (leb (foot (ty_at tb i)) max_footprint ≡ true) × (nodes_from tb n (suc i) ≡ fine)
    b = fine_pick (leb (foot (ty_at tb i)) max_footprint) _ (footprint_at i) a.1

    go : (x : Bool) → ltb i j ≡ x → (nodes_from tb n (suc i) ≡ fine → suc i ≤ j → Passes tb j) → Passes tb j
    go true q ih = ih b.1 (ltb-true i j q)
    go false q ih =
        let s : i ≡ j = omega (arith, ltb-false i j q) in
        subst (Passes tb) s (record { below = allowed_below i (node_at tb i) a.0; footing = leb-true (foot (ty_at tb i)) max_footprint b.0 })

pass_nodes : (tb : List ℕ) (n i : ℕ) → ((j : ℕ) → i ≤ j → j < i + n → Passes tb j) → nodes_from tb n i ≡ fine
pass_nodes tb zero i h = unfold nodes_from in refl
pass_nodes tb (suc n) i h = nodes_next tb n i (h i (omega arith) (omega arith)) ∙ pass_nodes tb n (suc i) (λ j lo hi. h j (omega arith) (omega arith))

pub head_fine : (tb : List ℕ) → head_check tb ≡ fine → Headed tb
unfolding head_check
head_fine tb e = go (ltb (length tb) 6) e
  where
    go : (x : Bool) → pick x (Err table_mark) (pick (marked tb) (pick (sized tb) fine (Err table_size)) (Err table_mark)) ≡ fine → Headed tb
    go true f = absurd (let z : ◌≡◌ {A = ℕ} 0 1 = cc in omega arith)
    go false f =
        let a = fine_pick (marked tb) (pick (sized tb) fine (Err table_size)) table_mark f in
        let b = fine_pick (sized tb) fine table_size a.1 in
        let c = both_true (leb 1 (count tb)) (leb (count tb) 64 && eqb (length tb) (6 + 4 * count tb)) b.0 in
        let d = both_true (leb (count tb) 64) (eqb (length tb) (6 + 4 * count tb)) c.1 in
        record { mark = a.0; some = leb-true 1 (count tb) c.0; few = leb-true (count tb) 64 d.0; exact = eqb-true (length tb) (6 + 4 * count tb) d.1 }

pub fine_head : (tb : List ℕ) → Headed tb → head_check tb ≡ fine
unfolding head_check
fine_head tb h =
    let l : 6 ≤ length tb = omega (arith, h.exact) in
    rw (le-ltb (length tb) 6 l, h.mark, le-leb 1 (count tb) h.some, le-leb (count tb) 64 h.few, eq-eqb (length tb) (6 + 4 * count tb) h.exact)

-- the check is its head's, then its nodes'
pub check_head : (tb : List ℕ) (y : Refusal) → head_check tb ≡ Err y → check_table tb ≡ Err y
unfolding check_table
check_head tb y e = rw e

pub check_nodes : (tb : List ℕ) → head_check tb ≡ fine → check_table tb ≡ nodes_from tb (count tb) 0
unfolding check_table
check_nodes tb e = rw e

-- EXACTLY: a table passes its check if and only if it is good
pub check_good : (tb : List ℕ) → check_table tb ≡ fine → Good tb
check_good tb e = go (head_check tb) refl
  where
    go : (x : Check) → head_check tb ≡ x → Good tb
    go fine f =
        let h = head_fine tb f in
        let p : (j : ℕ) → j < count tb → Passes tb j = λ j l. nodes_pass tb (count tb) 0 (sym (check_nodes tb f) ∙ e) j (omega arith) (omega arith) in
        record { mark = h.mark; some = h.some; few = h.few; exact = h.exact; nodes = λ i l. (p i l).below; feet = λ i l. (p i l).footing }
    go (Err y) f = absurd (let a : Err y ≡ fine = sym (check_head tb y f) ∙ e in let z : ◌≡◌ {A = ℕ} 0 1 = cc in omega arith)

pub good_check : (tb : List ℕ) → Good tb → check_table tb ≡ fine
good_check tb g =
    check_nodes tb (fine_head tb (record { mark = g.mark; some = g.some; few = g.few; exact = g.exact }))
    ∙ pass_nodes tb (count tb) 0 (λ j lo hi. record { below = g.nodes j (omega arith); footing = g.feet j (omega arith) })

-- ---- a number for each node

pub numbers_length : (f : Ty → ℕ) (tb : List ℕ) (n i : ℕ) → length (numbers_from f tb n i) ≡ n
unfolding numbers_from
numbers_length f tb zero i = refl
numbers_length f tb (suc n) i = ap suc (numbers_length f tb n (suc i))

numbers_from_lem : (f : Ty → ℕ) (tb : List ℕ) (n i j : ℕ) (l : List ℕ) → j < n → get_or (numbers_from f tb n i ++ l) j 0 ≡ f (ty_at tb (i + j))
unfolding numbers_from
numbers_from_lem f tb zero i j l h = absurd (omega arith)
numbers_from_lem f tb (suc n) i zero l h = rw (add-zero i)
numbers_from_lem f tb (suc n) i (suc j) l h =
    let e : suc i + j ≡ i + suc j = omega arith in
    numbers_from_lem f tb n (suc i) j l (omega arith) ∙ ap (λ k. f (ty_at tb k)) e

-- node i's number stands at place i
pub numbers_at : (f : Ty → ℕ) (tb : List ℕ) (i : ℕ) → i < count tb → get_or (numbers_of f tb) i 0 ≡ f (ty_at tb i)
unfolding numbers_of
numbers_at f tb i h =
    let e : 0 + i ≡ i = omega arith in
    numbers_from_lem f tb (count tb) 0 i (replicate (64 - count tb) 0) h ∙ ap (λ k. f (ty_at tb k)) e

pub numbers_64 : (f : Ty → ℕ) (tb : List ℕ) → count tb ≤ 64 → length (numbers_of f tb) ≡ 64
unfolding numbers_of
numbers_64 f tb h = omega (arith, length-append (numbers_from f tb (count tb) 0) (replicate (64 - count tb) 0), numbers_length f tb (count tb) 0, length-replicate (64 - count tb) zero)

pub units_64 : (tb : List ℕ) → Good tb → length (units_of tb) ≡ 64
unfolding units_of
units_64 tb g = ap (λ c. length (after_check c (λ y. replicate 64 0) (numbers_of unit_code tb))) (good_check tb g) ∙ numbers_64 unit_code tb g.few

-- footprints that are found, and refused, say the check
pub footprints_found : (tb l : List ℕ) → footprints_of tb ≡ Ok l → (check_table tb ≡ fine) × (l ≡ numbers_of foot tb)
unfolding footprints_of
footprints_found tb l e = go (check_table tb) e
  where
    go : (x : Check) → after_check x Err (Ok (numbers_of foot tb)) ≡ Ok l → (x ≡ fine) × (l ≡ numbers_of foot tb)
    go fine f = let q : numbers_of foot tb ≡ l = cc in (refl, sym q)
    go (Err y) f = absurd (let z : ◌≡◌ {A = ℕ} 0 1 = cc in omega arith)

pub footprints_refused : (tb : List ℕ) (y : Refusal) → footprints_of tb ≡ Err y → check_table tb ≡ Err y
unfolding footprints_of
footprints_refused tb y e = go (check_table tb) e
  where
    go : (x : Check) → after_check {A = Answer (List ℕ)} x Err (Ok (numbers_of foot tb)) ≡ Err y → x ≡ Err y
    go fine f = absurd (let z : ◌≡◌ {A = ℕ} 0 1 = cc in omega arith)
    go (Err x) f = let q : x ≡ y = cc in ap Err q
