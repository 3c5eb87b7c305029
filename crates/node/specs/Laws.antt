-- Laws of a node: which one `node_in_lem` gives, and what a caller knows of it.
use Rattle.std.specs.Prelude.{Bool, true, false, List, ◌≡◌, refl, ℕ, ◌+◌, ◌*◌, ◌<◌, eqb, length, Option, Some, None, option_map, MatchOption, IsSomeAnd}
use Rattle.std.proofs.Common.{ap, sym, ◌∙◌, subst, arith, le-leb}
use Rattle.rules.specs.Basics.{pick}
use Rattle.rules.specs.Types.{Ty}
use Rattle.rules.specs.Table.{count, with_width, node_at, node_in, build, ty_at}
use Rattle.rules.specs.Table.Laws.{Below, Good}
use Rattle.rules.proofs.Laws.Table.{type_node}
use Rattle.rules.specs.Jobs.{of_vector}
use Rattle.node.specs.Names.{Width, w1, w2, w4, w8, w16, Leaf, Node, leaf_node, option_node, result_node, pair_node, array_node, vector_node, bits_node, unknown}
use Rattle.node.specs.Nodes.{width_named, leaf_named}

-- a leaf with a width, through the width that is named
pub with_width_lem : (f : Width → Leaf) (a : ℕ) → with_width f a ≡ leaf_named (option_map f (width_named a))
unfolding width_named
with_width_lem f a = go (eqb a 1) w1 _ _ (go (eqb a 2) w2 _ _ (go (eqb a 4) w4 _ _ (go (eqb a 8) w8 _ _ (go (eqb a 16) w16 unknown None refl))))
  where
    go : (b : Bool) (w : Width) (x : Node) (n : Option Width) → x ≡ leaf_named (option_map f n) → pick b (leaf_node (f w)) x ≡ leaf_named (option_map f (pick b (Some w) n))
    go true w x n e = refl
    go false w x n e = e

-- an option that was mapped
mapped : {A B : Type 0} (f : A → B) (o : Option A) (r : Option B) → MatchOption o (r ≡ None) (λ x. IsSomeAnd r (λ y. y ≡ f x)) → r ≡ option_map f o
mapped f None r h = h
mapped f (Some x) (Some y) h = ap Some h
mapped f (Some x) None h = absurd h

-- the leaf of a width that is named, as the code maps it
pub leaf_mapped : (f : Width → Leaf) (a : ℕ) (o : Option Width) (r : Option Leaf) (n : Node) → o ≡ width_named a → MatchOption o (r ≡ None) (λ x. IsSomeAnd r (λ y. y ≡ f x))
    → n ≡ leaf_named r → n ≡ with_width f a
leaf_mapped f a o r n e h q = q ∙ ap leaf_named (mapped f o r h ∙ ap (option_map f) e) ∙ sym (with_width_lem f a)

-- a node below the count is there, in a table of the right length
pub node_in_lem : (tb : List ℕ) → length tb ≡ 6 + 4 * count tb → (i : ℕ) → i < count tb → node_in tb i ≡ node_at tb i
unfolding node_in
node_in_lem tb e i h = rw (le-leb (6 + 4 * i + 4) (length tb) (omega arith))

pub node_good : (tb : List ℕ) → Good tb → (i : ℕ) → i < count tb → node_in tb i ≡ node_at tb i
node_good tb g = node_in_lem tb g.exact

-- a node that was found, of a checked table: its type, and that its children stand below it
pub node_is : (tb : List ℕ) → Good tb → (i : ℕ) → i < count tb → (q n : Node) → q ≡ node_in tb i → q ≡ n → (ty_at tb i ≡ build (ty_at tb) n) × Below i n
node_is tb g i h q n e f =
    let k : node_at tb i ≡ n = sym (node_good tb g i h) ∙ sym e ∙ f in
    (type_node tb g i h ∙ ap (build (ty_at tb)) k, subst (Below i) k (g.nodes i h))

-- a node that is no vector has no vector's type
pub no_vector : {A : Type 0} (f : Ty → A) (a : A) (g : ℕ → Ty) (q : Node) → ((i : ℕ) → q ≡ vector_node i → ⊥) → of_vector f a (build g q) ≡ a
no_vector f a g (leaf_node k) n = refl
no_vector f a g (option_node i) n = refl
no_vector f a g (result_node i j) n = refl
no_vector f a g (pair_node i j) n = refl
no_vector f a g (array_node m i) n = refl
no_vector f a g (vector_node i) n = absurd (n i refl)
no_vector f a g bits_node n = refl
no_vector f a g unknown n = refl
