-- A leaf under the limits, from the halves that were read of it.
use Rattle.std.specs.Prelude.{Ok, Err, true, false, List, [], ◌∷◌, ◌≡◌, ℕ, ◌+◌, ◌≤◌, length}
use Rattle.std.proofs.Common.{refl, ap, sym}
use Rattle.rules.specs.Basics.{Under}
use Rattle.rules.specs.Cells.{wide, leaf_cells}
use Rattle.rules.specs.Refusals.{Answer}
use Rattle.rules.specs.Scan.Pass.{pass_none, plain_pass, headed, leaf_pass}
use Rattle.rules.specs.Trace.{plain}
use Rattle.rules.specs.Parser.{got}
use Rattle.rules.specs.Wire.{leaf_from}
use Rattle.rules.proofs.Laws.Wire.Used.{leaf_used}
use Rattle.rules.specs.declared.Halves.{Halves}
use Rattle.rules.specs.declared.Leaf.{Leaf}
use Rattle.rules.specs.declared.Limits.{Limits}
use Rattle.rules.specs.declared.Refusal.{Refusal}
use Rattle.rules.specs.declared.Totals.{Totals}
use Rattle.leaf.specs.Laws.{leaf_got, leaf_bad, narrow_got}
use Rattle.leaf.specs.Taken.{halved}

module _ (k : Leaf) (lim : Limits) (at : ℕ) (s : List ℕ) (st : Totals) (q : Answer (Halves × ℕ)) (e : q ≡ halved (leaf_from k at s)) where
  pub leaf_none : (y : Refusal) → q ≡ Err y → leaf_pass k lim at s st ≡ pass_none (Err y)
  unfolding leaf_pass headed
  leaf_none y f = ap (λ x. headed lim st at x (λ v. plain at (leaf_cells k v)) (λ v e u. pass_none (Ok (u, e)))) (leaf_bad _ q y e f)

  module _ (h : Halves) (n : ℕ) (f : q ≡ Ok (h, n)) where
    pub leaf_within : n ≤ length s
    leaf_within = leaf_used k at s _ n (leaf_got _ q h n e f).0

    passes : (v : ℕ) → leaf_from k at s ≡ got v n → (cs : List ℕ) → leaf_cells k v ≡ cs → leaf_pass k lim at s st ≡ plain_pass lim st at cs (at + n)
    unfolding leaf_pass headed plain_pass
    passes v r cs g = rw (r, ← g) refl

    pub leaf_wide : wide k ≡ true → leaf_pass k lim at s st ≡ plain_pass lim st at (h.low ∷ h.high ∷ []) (at + n)
    unfolding leaf_cells
    leaf_wide g = let read = leaf_got _ q h n e f in passes _ read.0 _ (rw g (ap (λ (x : Halves). x.low ∷ x.high ∷ []) (sym read.1)))

    pub leaf_narrow : wide k ≡ false → Under 256 s → leaf_pass k lim at s st ≡ plain_pass lim st at (h.low ∷ []) (at + n)
    unfolding leaf_cells
    leaf_narrow g u = passes _ (narrow_got k at s q h n g u e f).0 _ (rw g refl)
