-- For the proofs of code: what a function that passes one item shows at its returns: its answer is the pass's, and the cells have what the pass leaves there.
use Rattle.std.specs.Prelude.{List, ◌≡◌, ℕ, ◌+◌, length, Ok, Err}
use Rattle.std.proofs.Common.{ap, sym, ◌∙◌, ap₂, subst}
use Rattle.std.proofs.lemmas.List.Edits.{sets}
use Rattle.rules.proofs.Laws.Places.{sets_join}
use Rattle.rules.specs.Scan.Pass.{Pass, pass_none, behind, landed}
use Rattle.rules.specs.declared.Refusal.{Refusal}
use Rattle.rules.specs.Scan.{Scan}
use Rattle.rules.specs.declared.Totals.{Totals}
use Rattle.rules.specs.Scan.Landing.{Lands}

pub stops : (p : Pass) (y : Refusal) (r : Scan) (l : List ℕ) (st : Totals) → p ≡ pass_none (Err y) → r ≡ Err y → Lands p l st r l
unfolding landed
stops p y r l st e f = record { answers = f ∙ sym (ap (λ (q : Pass). q.answer) e); writes = sym (ap (landed l st) e) }

pub lands : (p : Pass) (r r' : Scan) (cs l m : List ℕ) (st : Totals) → p ≡ record { answer = r'; cells = cs } → r ≡ r' → m ≡ sets l st.cells cs → Lands p l st r m
unfolding landed
lands p r r' cs l m st e q f = record { answers = q ∙ sym (ap (λ (x : Pass). x.answer) e); writes = f ∙ sym (ap (landed l st) e) }

-- totals with the same numbers
pub same_done : (d d' c c' n e : ℕ) → d ≡ d' → c ≡ c' → ◌≡◌ {A = Scan} (Ok (record { depth = d; charge = c; cells = n }, e)) (Ok (record { depth = d'; charge = c'; cells = n }, e))
same_done d d' c c' n e p q = ap₂ (λ (x y : ℕ). Ok (record { depth = x; charge = y; cells = n }, e)) p q

-- a pass that another function made
pub same_pass_as : (p q : Pass) (r : Scan) (l m : List ℕ) (st : Totals) → p ≡ q → Lands q l st r m → Lands p l st r m
same_pass_as p q r l m st e f = subst (λ (x : Pass). Lands x l st r m) (sym e) f

-- a pass behind cells that are there already
pub lands_behind : (p q : Pass) (cs l m m' : List ℕ) (st u : Totals) (r : Scan) → p ≡ behind cs q → m ≡ sets l st.cells cs → u.cells ≡ st.cells + length cs
    → Lands q m u r m' → Lands p l st r m'
unfolding landed
lands_behind p q cs l m m' st u r e f c g = record {
  answers = g.answers ∙ sym (ap (λ (x : Pass). x.answer) e);
  writes = g.writes ∙ ap₂ (λ (x : List ℕ) (k : ℕ). sets x k q.cells) f c ∙ sets_join cs q.cells l st.cells ∙ sym (ap (λ (x : Pass). sets l st.cells x.cells) e);
}
