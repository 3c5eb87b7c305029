-- Laws of the loops over the nodes, which fill an array rising: of its first i places each has its node's number, and the others have 0. The numbers of this crate are footprints.
use Rattle.std.specs.Prelude.{true, false, ◌≡◌, refl, length, get_or, set, replicate, Ok, Err}
use Rattle.std.proofs.Common.{ap, ◌∙◌, add-one, below_more, length-set, length-append, get_or-set_same, get_or-set_other, get_or-append-add, List, ◌++◌, ℕ, zero, suc, ◌+◌, ◌-◌, ◌^◌, ◌≤◌, ◌<◌, arith}
use Rattle.std.proofs.Math.Path.{sym}
use Rattle.std.proofs.Math.Decide.{dec_lt}
use Rattle.std.proofs.Math.Nat.{sub-zero}
use Rattle.std.proofs.lemmas.List.{length-replicate}
use Rattle.std.proofs.Math.Seq.{ext_get_or}
use Rattle.rules.specs.declared.Refusal.{Refusal}
use Rattle.rules.specs.Basics.{Under}
use Rattle.rules.specs.Refusals.{wrong_node_at, footprint_at, max_footprint}
use Rattle.rules.specs.Types.{Ty}
use Rattle.rules.specs.Totals.{foot}
use Rattle.rules.specs.Table.{count, node_at, ty_at, allowed, fine, nodes_from, head_check, check_table, numbers_from, numbers_of, footprints_of}
use Rattle.rules.specs.Table.Laws.{Below, Passes}
use Rattle.rules.proofs.Laws.Table.{type_prefix, allowed_below, nodes_next, nodes_wrong, nodes_large, numbers_at, numbers_length, check_nodes, head_fine}
use Rattle.table.specs.Nodes.{foot_over}
use Rattle.table.specs.Laws.{foot_over_lem}

-- ---- an array that is being filled

-- what is found of i nodes stands in the array, and z behind it
pub record Measuring {A : Type 0} (z : A) (f : Ty → A) (tb : List ℕ) (i : ℕ) (l : List A) : Type 0 where
  pub within : i ≤ count tb
  pub size : length l ≡ 64
  pub done : (j : ℕ) → j < i → get_or l j z ≡ f (ty_at tb j)
  pub rest : (j : ℕ) → i ≤ j → get_or l j z ≡ z

same_at : {A : Type 0} (z : A) (n j : ℕ) → get_or (replicate n z) j z ≡ z
same_at z zero j = refl
same_at z (suc n) zero = refl
same_at z (suc n) (suc j) = same_at z n j

pub measuring_none : {A : Type 0} (z : A) (f : Ty → A) (tb : List ℕ) → Measuring z f tb 0 (replicate 64 z)
measuring_none z f tb = record { within = omega arith; size = length-replicate 64 z; done = λ j h. absurd (omega arith); rest = λ j h. same_at z 64 j }

module _ {A : Type 0} {z : A} {f : Ty → A} {tb : List ℕ} {i : ℕ} {l : List A} (M : Measuring z f tb i l) where
  -- what holds of z and of what is found so far holds at every place
  pub measuring_every : (P : A → Type 0) → P z → ((j : ℕ) → j < i → P (f (ty_at tb j))) → (j : ℕ) → P (get_or l j z)
  measuring_every P p h j = go (dec_lt j i)
    where
      go : Dec (j < i) → P (get_or l j z)
      go (yes q) = rw (M.done j q) (h j q)
      go (no q) = rw (M.rest j (omega arith)) p

  pub measuring_more : count tb ≤ 64 → i < count tb → (v : A) → v ≡ f (ty_at tb i) → Measuring z f tb (i + 1) (set l i v)
  measuring_more few r v e = record {
    within = omega arith;
    size = length-set l i v ∙ M.size;
    done = below_more (λ j. get_or (set l i v) j z ≡ f (ty_at tb j)) i
        (λ j q. get_or-set_other l i j v z (λ z. omega arith) ∙ M.done j q)
        (get_or-set_same l i v z (omega (arith, M.size)) ∙ e);
    rest = λ j h. get_or-set_other l i j v z (λ z. omega arith) ∙ M.rest j (omega arith);
  }

module _ {f : Ty → ℕ} {tb : List ℕ} {i : ℕ} {l : List ℕ} (M : Measuring 0 f tb i l) where
  module _ (few : count tb ≤ 64) where
    -- filled up to the count, it has the numbers of the table
    pub measuring_all : count tb ≤ i → l ≡ numbers_of f tb
    unfolding numbers_of
    measuring_all g = ext_get_or 0 l (front ++ zeros) (M.size ∙ sym size) (λ j h. go j (dec_lt j (count tb)))
      where
        front : List ℕ
        front = numbers_from f tb (count tb) 0

        zeros : List ℕ
        zeros = replicate (64 - count tb) 0

        size : length (front ++ zeros) ≡ 64
        size = omega (arith, length-append front zeros, numbers_length f tb (count tb) 0, length-replicate (64 - count tb) zero)

        go : (j : ℕ) → Dec (j < count tb) → get_or l j 0 ≡ get_or (front ++ zeros) j 0
        go j (yes q) = M.done j (omega arith) ∙ sym (numbers_at f tb j q)
        go j (no q) =
            let e : j ≡ length front + (j - count tb) = omega (arith, numbers_length f tb (count tb) 0) in
            M.rest j (omega (arith, M.within))
            ∙ sym (ap (λ k. get_or (front ++ zeros) k 0) e ∙ get_or-append-add front zeros (j - count tb) 0 ∙ same_at 0 (64 - count tb) (j - count tb))

-- ---- footprints

-- i nodes have passed, and their footprints stand in the array
pub record Weighing (tb : List ℕ) (i : ℕ) (l : List ℕ) : Type 0 where
  pub left : nodes_from tb (count tb) 0 ≡ nodes_from tb (count tb - i) i
  pub passed : (j : ℕ) → j < i → Passes tb j
  pub feet : Measuring 0 foot tb i l

pub weighing_none : (tb : List ℕ) → Weighing tb 0 (replicate 64 0)
weighing_none tb = record { left = rw (sub-zero (count tb)); passed = λ j h. absurd (omega arith); feet = measuring_none 0 foot tb }

pub refused_feet : (tb : List ℕ) (y : Refusal) → check_table tb ≡ Err y → footprints_of tb ≡ Err y
unfolding footprints_of
refused_feet tb y e = rw e

-- in a table whose head is fine
module _ (tb : List ℕ) (f : head_check tb ≡ fine) (i : ℕ) (l : List ℕ) (W : Weighing tb i l) where
  few : count tb ≤ 64
  few = (head_fine tb f).few

  pub weighing_small : Under (2 ^ 31) l
  weighing_small = measuring_every W.feet (λ x. x < 2 ^ 31) (omega arith) (λ j q. omega (arith, (W.passed j q).footing))

  pub weighing_all : count tb ≤ i → footprints_of tb ≡ Ok l
  unfolding footprints_of nodes_from
  weighing_all g =
      let z : count tb - i ≡ 0 = omega arith in
      let n : check_table tb ≡ fine = check_nodes tb f ∙ W.left ∙ rw z in
      rw (n, measuring_all W.feet few g)

  -- at a node that is there
  module _ (r : i < count tb) where
    next : count tb - i ≡ suc (count tb - (i + 1))
    next = omega arith

    pub weighing_wrong : allowed i (node_at tb i) ≡ false → footprints_of tb ≡ Err (wrong_node_at i)
    weighing_wrong e = refused_feet tb (wrong_node_at i) (check_nodes tb f ∙ W.left ∙ rw next (nodes_wrong tb (count tb - (i + 1)) i e))

    module _ (e : allowed i (node_at tb i) ≡ true) where
      below : (j : ℕ) → j < i + 1 → Below j (node_at tb j)
      below = below_more (λ j. Below j (node_at tb j)) i (λ j z. (W.passed j z).below) (allowed_below i (node_at tb i) e)

      pub weighed : foot_over (λ j. get_or l j 0) (node_at tb i) ≡ foot (ty_at tb i)
      weighed =
          foot_over_lem (λ j. get_or l j 0) (ty_at tb) i (node_at tb i) (below i (omega arith)) W.feet.done
          ∙ ap foot (sym (type_prefix tb (i + 1) (omega (arith, few)) below i (omega arith)))

      -- (with the footprint as the code has it)
      module _ (v : ℕ) (q : v ≡ foot (ty_at tb i)) where
        pub weighing_large : max_footprint < v → footprints_of tb ≡ Err (footprint_at i)
        weighing_large g = refused_feet tb (footprint_at i) (check_nodes tb f ∙ W.left ∙ rw next (nodes_large tb (count tb - (i + 1)) i e (rw q at g)))

        pub weighing_more : v ≤ max_footprint → Weighing tb (i + 1) (set l i v)
        weighing_more g = record {
          left = W.left ∙ rw (next, add-one i) (nodes_next tb (count tb - suc i) i passes);
          passed = below_more (Passes tb) i W.passed passes;
          feet = measuring_more W.feet few r v q;
        }
          where
            passes : Passes tb i
            passes = record { below = below i (omega arith); footing = rw q at g }
