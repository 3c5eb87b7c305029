-- Laws of the loop that fills an array with longest lengths.
use Rattle.std.specs.Prelude.{List, ◌≡◌, ℕ, ◌-◌, ◌≤◌, ◌<◌, get_or, Option, None}
use Rattle.std.proofs.Common.{ap, sym, ◌∙◌, subst, arith}
use Rattle.rules.specs.Totals.{longest}
use Rattle.rules.specs.Table.{count, node_at, node_in, ty_at, root}
use Rattle.rules.specs.Table.Laws.{Good}
use Rattle.rules.proofs.Laws.Table.{type_node}
use Rattle.node.specs.Laws.{node_good}
use Rattle.node.specs.Names.{Node}
use Rattle.table.specs.Filling.{Measuring, measuring_every}
use Rattle.totals.specs.Nodes.{longest_over, Short, AllShort}
use Rattle.totals.specs.Laws.{longest_over_lem, longest_short}

-- in a good table
module _ (tb : List ℕ) (G : Good tb) (i : ℕ) (l : List (Option ℕ)) (M : Measuring None longest tb i l) where
  pub lengths_short : AllShort l
  lengths_short = measuring_every M Short tt (λ j q. longest_short (ty_at tb j) (G.feet j (omega (arith, M.within))))

  pub length_root : count tb ≤ i → get_or l (count tb - 1) None ≡ longest (root tb)
  unfolding root
  length_root g = M.done (count tb - 1) (omega (arith, G.some))

  pub length_found : i < count tb → longest_over (λ j. get_or l j None) (node_at tb i) ≡ longest (ty_at tb i)
  length_found r = longest_over_lem (λ j. get_or l j None) (ty_at tb) i (node_at tb i) (G.nodes i r) M.done ∙ ap longest (sym (type_node tb G i r))

  -- what is found of the next node from its children is its type's, and short
  pub length_next : i < count tb → (n : Node) → n ≡ node_in tb i → (k : Option ℕ) → k ≡ longest_over (λ j. get_or l j None) n → (k ≡ longest (ty_at tb i)) × Short k
  length_next r n q k e =
      let found : k ≡ longest (ty_at tb i) = e ∙ ap (longest_over (λ j. get_or l j None)) (q ∙ node_good tb G i r) ∙ length_found r in
      (found, subst Short (sym found) (longest_short (ty_at tb i) (G.feet i r)))
