-- Laws of nodes of footprint 0, which have only units: how many they have, and what a caller finds at a node's place among the numbers of a table.
use Rattle.std.specs.Prelude.{Bool, List, ◌≡◌, ℕ, zero, suc, ◌+◌, ◌-◌, ◌*◌, ◌/◌, ◌^◌, ◌≤◌, ◌<◌, min, get_or, Ok}
use Rattle.std.proofs.Math.Bool.{true, false}
use Rattle.std.proofs.Math.Path.{refl, ap}
use Rattle.std.proofs.Common.{sym, ◌∙◌, subst, eqb-true, eq-eqb, div-lt_iff_lt-mul, le-div_iff_mul-le, arith}
use Rattle.std.proofs.Math.Decide.{dec_le}
use Rattle.std.proofs.Math.Nat.{one-le-mul, min-eq_left}
use Rattle.std.proofs.Math.Dec.{eqb}
use Rattle.rules.specs.Basics.{pick}
use Rattle.rules.specs.Types.{Ty}
use Rattle.rules.specs.Totals.{foot, unit_cells}
use Rattle.rules.specs.Table.{count, b_at, node_at, build, ty_at, numbers_of, footprints_of, unit_code, units_of}
use Rattle.rules.specs.Table.Laws.{Below, Good}
use Rattle.rules.proofs.Laws.Table.{type_node, good_check, numbers_at, footprints_found}
use Rattle.node.specs.Names.{Node, leaf_node, option_node, result_node, pair_node, array_node, vector_node, bits_node, unknown}
use Rattle.table.specs.Nodes.{Counted}
use Rattle.table.specs.Laws.{counted_at}
use Rattle.totals.specs.Nodes.{most, kept, units_over}

-- ---- the number that stands for them

code_units : (t : Ty) → foot t ≡ 0 → unit_code t ≡ kept (unit_cells t - 1)
unfolding unit_code
code_units t z = rw (eq-eqb (foot t) 0 z)

-- at least as many as of one item
at_least : (n x : ℕ) → 1 ≤ n → x ≤ n * x
at_least zero x h = absurd (omega arith)
at_least (suc n) x h = omega arith

kept_pair : (x y : ℕ) → kept (kept x + kept y + 1) ≡ kept (x + y + 1)
kept_pair x y = omega arith

kept_most : (x : ℕ) → most ≤ x → kept x ≡ most
kept_most x h = omega arith

kept_array : (n x : ℕ) → 1 ≤ n → kept (n * kept x + (n - 1)) ≡ kept (n * x + (n - 1))
kept_array n x h = go (dec_le x most)
  where
    go : Dec (x ≤ most) → kept (n * kept x + (n - 1)) ≡ kept (n * x + (n - 1))
    go (yes p) = rw (min-eq_left p)
    go (no p) = rw (kept_most x (omega arith), kept_most (n * most + (n - 1)) (omega (arith, at_least n most h)), kept_most (n * x + (n - 1)) (omega (arith, at_least n x h)))

-- whether they fit is seen by a division
module _ (n x : ℕ) (h : 1 ≤ n) where
  pub array_most : (most - (n - 1)) / n < x → kept (n * x + (n - 1)) ≡ most
  array_most d = kept_most (n * x + (n - 1)) (omega (arith, (div-lt_iff_lt-mul h).0 d))

  pub array_fits : n ≤ 2 ^ 64 → x ≤ (most - (n - 1)) / n → n * x + (n - 1) ≤ most
  array_fits b d = omega (arith, (le-div_iff_mul-le h).0 d)

-- without the first of all
past_first : (n x : ℕ) → 1 ≤ n → 1 ≤ x → n * (x - 1) + (n - 1) ≡ n * x - 1
past_first n x h g = let e : x ≡ (x - 1) + 1 = omega arith in omega (arith, ap (λ k. n * k) e)

-- ---- over a node's children

module _ (g : ℕ → Ty) (i m : ℕ) (cells : (j : ℕ) → j < i → foot (g j) ≡ 0 → 1 ≤ unit_cells (g j)) where
  item_foot : (n a : ℕ) → 1 ≤ n → n * foot (g a) ≡ 0 → foot (g a) ≡ 0
  item_foot n a h z = omega (arith, at_least n (foot (g a)) h)

  -- at least one unit
  cells_over : (n : Node) → Below i n → Counted m n → foot (build g n) ≡ 0 → 1 ≤ unit_cells (build g n)
  unfolding foot unit_cells
  cells_over (leaf_node k) b c z = omega arith
  cells_over (option_node a) b c z = absurd (omega arith)
  cells_over (result_node a d) b c z = absurd (omega arith)
  cells_over (pair_node a d) b c z = omega (arith, cells a b.0 (omega arith))
  cells_over (array_node n a) b c z = one-le-mul c.0 (cells a b (item_foot n a c.0 z))
  cells_over (vector_node a) b c z = absurd (omega arith)
  cells_over bits_node b c z = absurd (omega arith)
  cells_over unknown b c z = absurd b

  units_over_lem : (f : ℕ → ℕ) (n : Node) → Below i n → Counted m n → ((j : ℕ) → j < i → f j ≡ unit_code (g j)) → foot (build g n) ≡ 0 → units_over f n ≡ kept (unit_cells (build g n) - 1)
  unfolding units_over foot unit_cells
  units_over_lem f (leaf_node k) b c h z = refl
  units_over_lem f (option_node a) b c h z = absurd (omega arith)
  units_over_lem f (result_node a d) b c h z = absurd (omega arith)
  units_over_lem f (pair_node a d) b c h z =
      let za : foot (g a) ≡ 0 = omega arith in
      let zd : foot (g d) ≡ 0 = omega arith in
      let e : unit_cells (g a) - 1 + (unit_cells (g d) - 1) + 1 ≡ unit_cells (g a) + unit_cells (g d) - 1 = omega (arith, cells a b.0 za, cells d b.1 zd) in
      rw (h a b.0 ∙ code_units (g a) za, h d b.1 ∙ code_units (g d) zd) (kept_pair (unit_cells (g a) - 1) (unit_cells (g d) - 1) ∙ ap kept e)
  units_over_lem f (array_node n a) b c h z =
      let za : foot (g a) ≡ 0 = item_foot n a c.0 z in
      rw (h a b ∙ code_units (g a) za) (kept_array n (unit_cells (g a) - 1) c.0 ∙ ap kept (past_first n (unit_cells (g a)) c.0 (cells a b za)))
  units_over_lem f (vector_node a) b c h z = absurd (omega arith)
  units_over_lem f bits_node b c h z = absurd (omega arith)
  units_over_lem f unknown b c h z = absurd b

-- ---- in a good table

module _ (tb : List ℕ) (G : Good tb) where
  cells_below : (k i : ℕ) → i < k → i < count tb → foot (ty_at tb i) ≡ 0 → 1 ≤ unit_cells (ty_at tb i)
  cells_below zero i q r z = absurd (omega arith)
  cells_below (suc k) i q r z =
      subst (λ t. foot t ≡ 0 → 1 ≤ unit_cells t) (sym (type_node tb G i r))
      (cells_over (ty_at tb) i (b_at tb i) (λ j h. cells_below k j (omega arith) (omega arith)) (node_at tb i) (G.nodes i r) (counted_at tb i))
      z

  module _ (i : ℕ) (r : i < count tb) where
    -- THE LAWS FOR CALLERS: a node of footprint 0 has at least one unit
    pub units_some : foot (ty_at tb i) ≡ 0 → 1 ≤ unit_cells (ty_at tb i)
    units_some = cells_below (i + 1) i (omega arith) r

    -- the number at its place says how many
    pub units_at_lem : foot (ty_at tb i) ≡ 0 → get_or (units_of tb) i 0 ≡ min (unit_cells (ty_at tb i) - 1) (2 ^ 64 - 1)
    unfolding units_of
    units_at_lem z = rw (good_check tb G) (numbers_at unit_code tb i r ∙ code_units (ty_at tb i) z)

    -- and which nodes these are is seen at their places among the footprints
    pub feet_at : get_or (numbers_of foot tb) i 0 ≡ foot (ty_at tb i)
    feet_at = numbers_at foot tb i r

    -- (by the check's answer)
    pub feet_found : (l : List ℕ) → footprints_of tb ≡ Ok l → get_or l i 0 ≡ foot (ty_at tb i)
    feet_found l e = ap (λ k. get_or k i 0) (footprints_found tb l e).1 ∙ feet_at

    -- what is found of a node from its footprint and its children's numbers
    module _ (f : ℕ → ℕ) (h : (j : ℕ) → j < i → f j ≡ unit_code (ty_at tb j)) where
      from_children : foot (ty_at tb i) ≡ 0 → units_over f (node_at tb i) ≡ kept (unit_cells (ty_at tb i) - 1)
      from_children =
          subst (λ t. foot t ≡ 0 → units_over f (node_at tb i) ≡ kept (unit_cells t - 1)) (sym (type_node tb G i r))
          (units_over_lem (ty_at tb) i (b_at tb i) (λ j q. cells_below i j q (omega arith)) f (node_at tb i) (G.nodes i r) (counted_at tb i) h)

      pub units_found : pick (eqb (foot (ty_at tb i)) 0) (units_over f (node_at tb i)) 0 ≡ unit_code (ty_at tb i)
      unfolding unit_code
      units_found = go (eqb (foot (ty_at tb i)) 0) refl
        where
          go : (b : Bool) → eqb (foot (ty_at tb i)) 0 ≡ b → pick b (units_over f (node_at tb i)) 0 ≡ pick b (kept (unit_cells (ty_at tb i) - 1)) 0
          go true e = from_children (eqb-true (foot (ty_at tb i)) 0 e)
          go false e = refl
