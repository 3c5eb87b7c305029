-- Behind a count: the head of a bit vector or a vector, and what follows it.
use Rattle.std.specs.Prelude.{Ok, Err, List, [], ◌∷◌, ◌≡◌, ℕ, ◌+◌}
use Rattle.std.proofs.Common.{ap, sym, ◌∙◌}
use Rattle.std.proofs.lemmas.List.Edits.{sets}
use Rattle.rules.specs.Scan.Pass.{Pass, pass_none, passing, entry_pass, landed}
use Rattle.rules.specs.Scan.Single.{Entering}
use Rattle.rules.proofs.Laws.Scan.Single.{entry_stopped, entry_done}
use Rattle.rules.specs.Trace.{Head, enter}
use Rattle.rules.specs.declared.Limits.{Limits}
use Rattle.rules.specs.declared.Refusal.{Refusal}
use Rattle.rules.specs.Scan.{Scan}
use Rattle.rules.specs.declared.Totals.{Totals}
use Rattle.rules.specs.Scan.Landing.{Lands}
use Rattle.rules.proofs.Laws.Scan.Landing.{lands_behind}

-- what was entered: the cells, and where it goes on
module _ (lim : Limits) (st : Totals) (h : Head) (e : ℕ) (r : Scan) (l m : List ℕ) (f : Lands (entry_pass lim st h e) l st r m) where
  pub head_stops : (y : Refusal) → r ≡ Err y → (k : Totals → Pass) (p : Pass) → p ≡ passing lim st (enter h) k → {r' : Scan} → r' ≡ Err y → Lands p l st r' m
  unfolding landed
  head_stops y q k p g {r'} a' =
      let a : p ≡ pass_none (Err y) = g ∙ entry_stopped lim st h e y (sym f.answers ∙ q) k in
      let b : entry_pass lim st h e ≡ pass_none (Err y) = (unfold entry_pass in entry_stopped lim st h e y (sym f.answers ∙ q) (λ u. pass_none (Ok (u, e)))) in
      record {
        answers = a' ∙ sym (ap (λ (x : Pass). x.answer) a);
        writes = f.writes ∙ ap (λ (x : Pass). sets l st.cells x.cells) (b ∙ sym a);
      }

  module _ (u : Totals) (e' : ℕ) (q : r ≡ Ok (u, e')) where
    pub head_enters : Entering lim st h e u e'
    head_enters = entry_done lim st h e u e' (sym f.answers ∙ q)

    -- what goes on from there lands behind the count
    pub head_goes : (k : Totals → Pass) (p : Pass) (r' : Scan) (m' : List ℕ) → p ≡ passing lim st (enter h) k → Lands (k u) m u r' m' → Lands p l st r' m'
    head_goes k p r' m' g w =
        let E = head_enters in
        let c : u.cells ≡ st.cells + 1 = ap (λ (x : Totals). x.cells) E.totals in
        lands_behind p (k u) (h.cell ∷ []) l m m' st u r' (g ∙ E.goes k) (f.writes ∙ (unfold landed in ap (sets l st.cells) E.cells)) c w
