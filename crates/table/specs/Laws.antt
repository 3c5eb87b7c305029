-- Laws of a node: how many items it has, and its footprint from those of its children.
use Rattle.std.specs.Prelude.{Bool, true, false, List, ◌≡◌, refl, ℕ, ◌+◌, ◌*◌, ◌^◌, ◌≤◌, ◌<◌, eqb, leb, length}
use Rattle.std.proofs.Common.{le_refl, le_of_lt, lt_of_le_of_lt, mul-le-mul_left, arith}
use Rattle.std.proofs.lemmas.Bool.{eqb-false}
use Rattle.rules.specs.Basics.{pick, Under}
use Rattle.rules.specs.Types.{Ty}
use Rattle.rules.specs.Totals.{foot}
use Rattle.rules.specs.Table.{kind_at, a_at, b_at, unused, with_width, node_of, node_at, node_in, build}
use Rattle.rules.specs.Table.Laws.{Below}
use Rattle.node.specs.Names.{Width, Leaf, fixed, compact, Node, leaf_node, option_node, result_node, pair_node, array_node, vector_node, bits_node, unknown}
use Rattle.table.specs.Nodes.{Counted, foot_over}

-- ---- how many items it has

module _ (m : ℕ) where
  either : (t : Bool) (x y : Node) → Counted m x → Counted m y → Counted m (pick t x y)
  either true x y h g = h
  either false x y h g = g

  -- at least one, and at most b
  pub node_counted : (k a b : ℕ) → b ≤ m → Counted m (node_of k a b)
  unfolding node_of
  node_counted k a b h =
      either (eqb k 0) _ _ (spare a _ (spare b _ tt))
      (either (eqb k 1) _ _ (spare a _ (spare b _ tt))
      (either (eqb k 2) _ _ (spare a _ (spare b _ tt))
      (either (eqb k 3) _ _ (spare b _ (wide fixed))
      (either (eqb k 4) _ _ (spare b _ (wide compact))
      (either (eqb k 5) _ _ (spare b _ (either (eqb a 4) _ _ tt (either (eqb a 8) _ _ tt tt)))
      (either (eqb k 6) _ _ (spare b _ tt)
      (either (eqb k 7) _ _ tt
      (either (eqb k 8) _ _ tt
      (either (eqb k 9) _ _ (some (eqb b 0) refl)
      (either (eqb k 10) _ _ (spare b _ tt)
      (either (eqb k 11) _ _ (spare a _ (spare b _ tt)) tt)))))))))))
    where
      spare : (u : ℕ) (x : Node) → Counted m x → Counted m (unused u x)
      spare u x g = either (eqb u 0) x unknown g tt

      wide : (f : Width → Leaf) → Counted m (with_width f a)
      wide f = either (eqb a 1) _ _ tt (either (eqb a 2) _ _ tt (either (eqb a 4) _ _ tt (either (eqb a 8) _ _ tt (either (eqb a 16) _ _ tt tt))))

      some : (t : Bool) → eqb b 0 ≡ t → Counted m (pick t unknown (array_node b a))
      some true e = tt
      some false e = let z : b ≡ 0 → ⊥ = eqb-false b 0 e in (omega arith, h)

pub counted_at : (tb : List ℕ) (i : ℕ) → Counted (b_at tb i) (node_at tb i)
unfolding node_at
counted_at tb i = node_counted (b_at tb i) (kind_at tb i) (a_at tb i) (b_at tb i) (le_refl (b_at tb i))

-- from 1 to 65535 in a table of bytes
pub counted_in : (tb : List ℕ) → Under 256 tb → (i : ℕ) → Counted 65535 (node_in tb i)
unfolding node_in node_at
counted_in tb u i = either 65535 (leb (6 + 4 * i + 4) (length tb)) (node_at tb i) unknown (node_counted 65535 (kind_at tb i) (a_at tb i) (b_at tb i) (omega (arith, u (6 + 4 * i + 2), u (6 + 4 * i + 3)))) tt

-- so many short lengths or small footprints fit
pub product_fits : {n x : ℕ} → n ≤ 65535 → x < 2 ^ 32 → n * x < 2 ^ 64
product_fits {n} {x} h g = lt_of_le_of_lt (mul-le-mul_left n (le_of_lt g)) (omega arith)

-- ---- its footprint

pub foot_over_lem : (f : ℕ → ℕ) (g : ℕ → Ty) (i : ℕ) (n : Node) → Below i n → ((j : ℕ) → j < i → f j ≡ foot (g j)) → foot_over f n ≡ foot (build g n)
unfolding foot_over foot
foot_over_lem f g i (leaf_node k) b h = refl
foot_over_lem f g i (option_node a) b h = omega (arith, h a b)
foot_over_lem f g i (result_node a c) b h = rw (h a b.0, h c b.1)
foot_over_lem f g i (pair_node a c) b h = rw (h a b.0, h c b.1)
foot_over_lem f g i (array_node n a) b h = rw (h a b)
foot_over_lem f g i (vector_node a) b h = refl
foot_over_lem f g i bits_node b h = refl
foot_over_lem f g i unknown b h = absurd b
