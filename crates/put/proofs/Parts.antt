-- A part of what a table describes: from the walk of its root to the answer and the output afterwards.
use Rattle.std.specs.Prelude.{List, ◌≡◌, refl, ℕ, ◌-◌, ◌^◌, ◌≤◌, ◌<◌, length, ◌⊎◌, Ok, Err}
use Rattle.std.proofs.Common.{inl, inr, ap, ap₂, sym, ◌∙◌, subst, arith, lt-ltb, le-ltb}
use Rattle.std.proofs.lemmas.List.Edits.{sets}
use Rattle.rules.specs.Basics.{pick, Under}
use Rattle.rules.specs.Jobs.{wrote, not, fitted, put_out, of_vector, output_after}
use Rattle.rules.specs.Parser.{Res, got, bad}
use Rattle.rules.specs.Put.{Put, put, put_of}
use Rattle.rules.specs.Refusals.{output_small, cells_left_at, append_root}
use Rattle.rules.specs.Table.{count, node_in, build, ty_at, root, check_table, fine}
use Rattle.rules.specs.Types.{array}
use Rattle.rules.specs.declared.Node.{Node}
use Rattle.rules.specs.declared.Node.TheVariants.{Vector as vector_node}
use Rattle.rules.specs.declared.Refusal.{Refusal}
use Rattle.rules.proofs.Laws.Basics.{same_parts}
use Rattle.rules.proofs.Laws.Places.{sets_onto}
use Rattle.rules.proofs.Laws.Table.{check_good}
use Rattle.node.specs.Laws.{node_is, no_vector}
use Rattle.put.proofs.Putting.{same_put}
use Rattle.put.specs.Laws.{in_fine, in_refused, part_in_lem}
use Rattle.put.specs.Written.{Landed, Puttable, PutsAt, part_put, part_in, part_out}
use Rattle.put.specs.declared.Part.{Part}
use Rattle.put.specs.declared.Part.TheVariants.{Root as whole_root, Items as root_items}

-- ---- a part of the root

-- (with the index of the root as the code has it)
module _ (tb cs : List ℕ) (f : check_table tb ≡ fine) {i : ℕ} (e : i ≡ count tb - 1) where
  pub from_start : Under (2 ^ 64) cs → length cs < 2 ^ 60 → Puttable tb i 0 cs 0
  from_start u h = record { there = omega (arith, (check_good tb f).some); spare = record { words = u; taking = omega (arith, h); putting = omega (arith, h) } }

  pub root_put : {part : Part} {out m : List ℕ} {r : Put} → part ≡ whole_root → PutsAt 0 0 (put (ty_at tb i) 0 cs) out m r → PutsAt 0 0 (part_put part (root tb) cs) out m r
  unfolding root
  root_put p h = rw p (rw e at h)

  module _ {part : Part} {k : ℕ} (p : part ≡ root_items k) {q : Node} (g : q ≡ node_in tb i) where
    items_of : (n : Node) → q ≡ n → part_put part (root tb) cs ≡ of_vector (λ u. put (array k u) 0 cs) (bad append_root) (build (ty_at tb) n)
    unfolding root
    items_of n s = ap₂ (λ x t. part_put x t cs) p (node_is tb (check_good tb f) (count tb - 1) (omega (arith, (check_good tb f).some)) q n (g ∙ ap (node_in tb) e) s).0

    pub items_put : {a : ℕ} → q ≡ vector_node a → {out m : List ℕ} {r : Put} → PutsAt 0 0 (put (array k (ty_at tb a)) 0 cs) out m r → PutsAt 0 0 (part_put part (root tb) cs) out m r
    items_put {a} s h = same_put (items_of (vector_node a) s) h

    pub no_items : ((a : ℕ) → q ≡ vector_node a → ⊥) → {out m : List ℕ} {r : Put} → r ≡ Err append_root → PutsAt 0 0 (part_put part (root tb) cs) out m r
    unfolding put_of
    no_items n s = same_put (items_of q refl ∙ no_vector (λ u. put (array k u) 0 cs) (bad append_root) (ty_at tb) q n) (record { answers = s; writes = tt })

-- ---- what is put, where all is decided

put_got : (P : Res (List ℕ)) (n used : ℕ) → put_of 0 0 P ≡ Ok (n, used) → (l : List ℕ) × (P ≡ got l n) × (length l ≡ used)
unfolding put_of
put_got (got l k) n used e =
    let parts = same_parts e in
    let c : k ≡ n = omega (arith, parts.0) in
    (l, ap (got l) c, omega (arith, parts.1))
put_got (bad y) n used e = absurd (let z : ◌≡◌ {A = ℕ} 0 1 = cc in omega arith)

put_bad : (P : Res (List ℕ)) (y : Refusal) → put_of 0 0 P ≡ Err y → P ≡ bad y
unfolding put_of
put_bad (got l k) y e = absurd (let z : ◌≡◌ {A = ℕ} 0 1 = cc in omega arith)
put_bad (bad x) y e = let a : x ≡ y = cc in ap bad a

-- the answer is r, and the output afterwards m
abbrev pub Settles : Part → List ℕ → List ℕ → List ℕ → List ℕ → Put → Type 0
Settles part tb cs out m r = record { answers : r ≡ put_of 0 0 (part_in part tb cs); writes : m ≡ output_after (part_out part tb cs (length out)) out }

module _ (part : Part) (tb cs out : List ℕ) where
  afterwards : {Q : Res (List ℕ)} → part_in part tb cs ≡ Q → output_after (part_out part tb cs (length out)) out ≡ output_after (put_out (length cs) (length out) (λ l. l) Q) out
  afterwards q = ap (λ o. output_after o out) (part_in_lem part tb cs (length out) ∙ ap (put_out (length cs) (length out) (λ l. l)) q)

  stays : {y : Refusal} {a : Put} → part_in part tb cs ≡ bad y → a ≡ Err y → Settles part tb cs out out a
  unfolding put_out put_of
  stays e d = record { answers = d ∙ sym (ap (put_of 0 0) e); writes = sym (afterwards e) }

  -- a table that is refused
  pub table_stops : {y : Refusal} {a : Put} → check_table tb ≡ Err y → a ≡ Err y → Settles part tb cs out out a
  table_stops {y} e d = stays (in_refused part tb cs y e) d

  -- a table that is fine, and what its part puts
  module _ {bytes : List ℕ} (same : bytes ≡ tb) (f : check_table bytes ≡ fine) {r : Put} (h : r ≡ put_of 0 0 (part_put part (root bytes) cs)) where
    inside : part_put part (root bytes) cs ≡ part_in part tb cs
    inside = sym (in_fine part bytes cs f) ∙ ap (λ b. part_in part b cs) same

    measured : r ≡ put_of 0 0 (part_in part tb cs)
    measured = h ∙ ap (put_of 0 0) inside

    pub part_stops : {y : Refusal} {a : Put} → r ≡ Err y → a ≡ Err y → Settles part tb cs out out a
    part_stops {y} g d = stays (put_bad (part_in part tb cs) y (sym measured ∙ g)) d

    module _ {n used : ℕ} (g : r ≡ Ok (n, used)) where
      G : (l : List ℕ) × (part_in part tb cs ≡ got l n) × (length l ≡ used)
      G = put_got (part_in part tb cs) n used (sym measured ∙ g)

      answer : Ok (n, used) ≡ put_of 0 0 (part_in part tb cs)
      answer = sym g ∙ measured

      -- cells are left
      cells_left : n < length cs → output_after (part_out part tb cs (length out)) out ≡ out
      unfolding put_out
      cells_left l = afterwards G.1 ∙ ap (λ b. output_after (pick b (not (cells_left_at n)) (fitted (length out) G.0)) out) (lt-ltb n (length cs) l)

      fitting : length cs ≤ n → output_after (part_out part tb cs (length out)) out ≡ output_after (fitted (length out) G.0) out
      unfolding put_out
      fitting all = afterwards G.1 ∙ ap (λ b. output_after (pick b (not (cells_left_at n)) (fitted (length out) G.0)) out) (le-ltb n (length cs) all)

      -- or there is too little room
      pub part_stays : (n < length cs) ⊎ ((length cs ≤ n) × (length out < used)) → Settles part tb cs out out (Ok (n, used))
      part_stays (inl l) = record { answers = answer; writes = sym (cells_left l) }
      part_stays (inr l) = record {
        answers = answer;
        writes = sym (fitting l.0 ∙ ap (λ b. output_after (pick b (not output_small) (wrote G.0)) out) (lt-ltb (length out) (length G.0) (omega (arith, l.1, G.2))));
      }

      pub part_whole : length cs ≤ n → used ≤ length out → {a : Put} {m : List ℕ} → PutsAt 0 0 (part_put part (root bytes) cs) out m a → Settles part tb cs out m a
      part_whole all there {a} {m} w =
          let room : length G.0 ≤ length out = omega (arith, G.2) in
          let landed : m ≡ sets out 0 G.0 = subst (λ (Q : Res (List ℕ)). Landed 0 Q out m) (inside ∙ G.1) w.writes in
          record {
            answers = w.answers ∙ ap (put_of 0 0) inside;
            writes =
                landed ∙ sets_onto G.0 out room
                ∙ sym (fitting all ∙ ap (λ b. output_after (pick b (not output_small) (wrote G.0)) out) (le-ltb (length out) (length G.0) room));
          }
