-- DEMAND 3: a scan is done exactly if the written rule reads a value that nests at most D deep, fills at most C cells, and has no vector or charges less than M.
-- `run_ran` says it of traces, by induction along the trace; `along` takes it to types.
use Rattle.std.specs.Prelude.{List, ◌++◌, [], ◌∷◌, ℕ, ◌+◌, ◌^◌, max, ◌≤◌, ◌<◌, Option, Some, None, Ok, Err}
use Rattle.std.proofs.Math.Logic.{inl, inr, ⊎_elim}
use Rattle.std.proofs.Math.Path.{◌≡◌, refl, ap, ap₂}
use Rattle.std.proofs.Common.{sym, ◌∙◌, subst, arith}
use Rattle.std.proofs.Math.ListN.{length-append}
use Rattle.rules.specs.Refusals.{Refusal}
use Rattle.rules.specs.Basics.{total, highest}
use Rattle.rules.specs.Types.{Ty, leaf, nothing, result, pair, array, vector, bits, Val}
use Rattle.rules.specs.Parser.{Res, got, bad}
use Rattle.rules.specs.Wire.{read}
use Rattle.rules.specs.Cells.{cells}
use Rattle.rules.specs.Totals.{nesting, vectors}
use Rattle.rules.specs.Trace.{Head, Event, plain, enter, Trace, ended, refused, item, trace}
use Rattle.rules.specs.Trace.Sums.{Sums, ◌⊕◌, nil, sums, ending, Traces}
use Rattle.rules.proofs.Laws.Trace.Sums.{nil_left}
use Rattle.rules.specs.Trace.Follows.{reach, sums_of}
use Rattle.rules.proofs.Laws.Trace.Follows.{along}
use Rattle.rules.specs.Scan.{Limits, Totals, Scan, sat, barred, unless, finish, run, start, cells_of, kept, finished, scan, scanned}
use Rattle.rules.specs.Scan.Barred.{Lets}
use Rattle.rules.proofs.Laws.Scan.Barred.{barred_some, barred_none}
use Rattle.rules.specs.Scan.Accept.{Within, plus, Ran, Reached, Accepted, answer}

same_totals : {a b : Totals} → a.depth ≡ b.depth → a.charge ≡ b.charge → a.cells ≡ b.cells → a ≡ b
same_totals d c f = λ i. record { depth = d i; charge = c i; cells = f i }

no_charge : (t : Trace) → (sums t).vecs ≡ 0 → (sums t).fee ≡ 0
unfolding sums
no_charge (ended n) e = refl
no_charge (refused y) e = refl
no_charge (item (plain p cs) t) e = let a : (sums t).fee ≡ 0 = no_charge t (omega arith) in omega arith
no_charge (item (enter h) t) e = absurd (omega arith)

module _ (lim : Limits) (fits : lim.memory < 2 ^ 64) where
  -- a scalar or a tag that there is room for
  plain_ran : (st : Totals) (p : ℕ) (cs : List ℕ) (t : Trace) (x : Scan) → Lets lim st (plain p cs)
      → Ran lim (finish st (plain p cs)) t x → Ran lim st (item (plain p cs) t) x
  unfolding Ran finish ending sums
  plain_ran st p cs t (Ok (u, n)) l r =
      let b = length-append cs (sums t).list in (
        r.0,
        record { deep = omega (arith, r.1.deep); room = omega (arith, r.1.room); memory = ⊎_elim (λ e. inl (omega arith)) (λ e. inr (omega arith)) r.1.memory },
        r.2 ∙ same_totals (omega arith) (omega arith) (omega arith),
      )
  plain_ran st p cs t (Err y) l r = λ e w.
      let b = length-append cs (sums t).list in
      r (omega arith)
      (record { deep = omega (arith, w.deep); room = omega (arith, w.room); memory = ⊎_elim (λ e. inl (omega arith)) (λ e. inr (omega arith)) w.memory })

  -- the head of a vector that the limits let pass
  enter_ran : (st : Totals) (h : Head) (t : Trace) (x : Scan) → Lets lim st (enter h) → Ran lim (finish st (enter h)) t x → Ran lim st (item (enter h) t) x
  unfolding Ran finish ending sums
  enter_ran st h t (Ok (u, n)) l r =
      let s : sat (st.charge + h.charge) ≡ st.charge + h.charge = omega (arith, l.1) in (
        r.0,
        record {
          deep = omega (arith, r.1.deep, l.0);
          room = omega (arith, r.1.room);
          memory = inr (⊎_elim (λ z. omega (arith, no_charge t z, l.1)) (λ z. omega arith) r.1.memory);
        },
        r.2 ∙ same_totals (omega arith) (omega arith) (omega arith),
      )
  enter_ran st h t (Err y) l r = λ z w.
      let s : sat (st.charge + h.charge) ≡ st.charge + h.charge = omega (arith, l.1) in
      r (omega arith)
      (record { deep = omega (arith, w.deep); room = omega (arith, w.room); memory = ⊎_elim (λ e. absurd (omega arith)) (λ e. inr (omega arith)) w.memory })

  let_ran : (st : Totals) (e : Event) (t : Trace) (x : Scan) → Lets lim st e → Ran lim (finish st e) t x → Ran lim st (item e t) x
  let_ran st (plain p cs) t x l r = plain_ran st p cs t x l r
  let_ran st (enter h) t x l r = enter_ran st h t x l r

  -- what is within the limits is let pass
  within_lets : (st : Totals) (e : Event) (t : Trace) → (sums (item e t)).extra ≡ 0 → Within lim st (sums (item e t)) → Lets lim st e
  unfolding sums
  within_lets st (plain p cs) t z w = omega (arith, w.room, length-append cs (sums t).list)
  within_lets st (enter h) t z w = (
    omega (arith, w.deep),
    ⊎_elim (λ a. absurd (omega arith)) (λ a. omega arith) w.memory,
    omega (arith, w.room),
  )

  filled : (st : Totals) (e : Event) → Lets lim st e → (finish st e).cells ≤ lim.cells
  unfolding finish
  filled st (plain p cs) l = l
  filled st (enter h) l = omega (arith, l.2)

  pub run_ran : (t : Trace) (st : Totals) → st.cells ≤ lim.cells → Ran lim st t (run lim st t)
  unfolding run
  run_ran (ended n) st h = unfold Ran ending sums in
      (refl, record { deep = omega arith; room = omega arith; memory = inl refl }, same_totals (omega arith) (omega arith) (omega arith))
  run_ran (refused y) st h = unfold Ran ending in λ e w. refl
  run_ran (item e t) st h = go (barred lim st e) refl (λ l. run_ran t (finish st e) (filled st e l))
    where
      go : (o : Option Refusal) → barred lim st e ≡ o → (Lets lim st e → Ran lim (finish st e) t (run lim (finish st e) t))
          → Ran lim st (item e t) (unless o (run lim (finish st e) t))
      go None q f = unfold unless in (let l = barred_none lim st e q in let_ran st e t (run lim (finish st e) t) l (f l))
      go (Some y) q f = unfold unless Ran in λ z w. absurd ((barred_some lim st e y q).1 (within_lets st e t z w))

-- ---- the cells that were passed, where a run is done

pub unless_done : (o : Option Refusal) (x : Scan) (u : Totals) (n : ℕ) → unless o x ≡ Ok (u, n) → (o ≡ None) × (x ≡ Ok (u, n))
unfolding unless
unless_done None x u n e = (refl, e)
unless_done (Some y) x u n e = absurd (let z : ◌≡◌ {A = ℕ} 0 1 = cc in omega arith)

list_of : (e : Event) (t : Trace) → (sums (item e t)).list ≡ cells_of e ++ (sums t).list
unfolding sums
list_of (plain p cs) t = refl
list_of (enter h) t = refl

finished_done : (lim : Limits) (t : Trace) (st u : Totals) (n : ℕ) → run lim st t ≡ Ok (u, n) → finished lim st t ≡ (sums t).list
unfolding run finished kept
finished_done lim (ended m) st u n h = unfold sums in refl
finished_done lim (refused y) st u n h = absurd (let z : ◌≡◌ {A = ℕ} 0 1 = cc in omega arith)
finished_done lim (item e t) st u n h =
    let g = unless_done (barred lim st e) (run lim (finish st e) t) u n h in
    ap (λ o. kept o (cells_of e ++ finished lim (finish st e) t)) g.0 ∙ ap (λ l. cells_of e ++ l) (finished_done lim t (finish st e) u n g.1) ∙ sym (list_of e t)

reached_both : (lv a b c d e f : ℕ) → Reached lv a b c → Reached lv d e f → Reached lv (a + d) (max b e) (max c f)
reached_both lv a b c d e f (inl x) (inl y) = inl (omega arith, omega arith, omega arith)
reached_both lv a b c d e f (inl x) (inr y) = inr (omega arith, omega arith, omega arith)
reached_both lv a b c d e f (inr x) (inl y) = inr (omega arith, omega arith, omega arith)
reached_both lv a b c d e f (inr x) (inr y) = inr (omega arith, omega arith, omega arith)

reached_in : (lv a b c : ℕ) → Reached (lv + 1) a b c → Reached lv (1 + a) (1 + b) (max (lv + 1) c)
reached_in lv a b c (inl x) = inr (omega arith, omega arith, omega arith)
reached_in lv a b c (inr x) = inr (omega arith, omega arith, omega arith)

reached_all : (t : Ty) (lv : ℕ) → ((v : Val t) → Reached lv (vectors t v) (nesting t v) (reach t lv v))
    → (vs : List (Val t)) → Reached lv (total (vectors t) vs) (highest (nesting t) vs) (highest (reach t lv) vs)
reached_all t lv h [] = inl (refl, refl, refl)
reached_all t lv h (v ∷ vs) = reached_both lv _ _ _ _ _ _ (h v) (reached_all t lv h vs)

reached : (t : Ty) (lv : ℕ) (v : Val t) → Reached lv (vectors t v) (nesting t v) (reach t lv v)
unfolding vectors nesting reach
reached (leaf k) lv v = inl (refl, refl, refl)
reached nothing lv v = inl (refl, refl, refl)
reached (result t u) lv (inl v) = reached t lv v
reached (result t u) lv (inr v) = reached u lv v
reached (pair t u) lv v = reached_both lv _ _ _ _ _ _ (reached t lv v.0) (reached u lv v.1)
reached (array n t) lv v = reached_all t lv (reached t lv) v
reached (vector t) lv v = reached_in lv _ _ _ (reached_all t (lv + 1) (reached t (lv + 1)) v)
reached bits lv v = inr (omega arith, omega arith, refl)

reach_front : (t : Ty) (v : Val t) → reach t 0 v ≡ nesting t v
reach_front t v = ⊎_elim (λ a. omega arith) (λ a. omega arith) (reached t 0 v)

answers : (t : Ty) (v : Val t) → plus start (sums_of t 0 v) ≡ answer t v
answers t v = same_totals (omega (arith, reach_front t v)) (omega arith) (omega arith)

-- what the trace of a readable message is
pub followed : (t : Ty) (s : List ℕ) (v : Val t) (n : ℕ) → read t 0 s ≡ got v n → (ending (trace t 0 0 s) ≡ got tt n) × (sums (trace t 0 0 s) ≡ sums_of t 0 v)
unfolding Traces
followed t s v n e =
    let r : Traces nil (trace t 0 0 s) (got v n) (λ x. nil ⊕ sums_of t 0 x) = subst (λ x. Traces nil (trace t 0 0 s) x (λ x. nil ⊕ sums_of t 0 x)) e (along t 0 0 s nil) in
    (r.0, sym (nil_left (sums (trace t 0 0 s))) ∙ r.1 ∙ nil_left (sums_of t 0 v))

-- exactly if: such a value is accepted, and what is accepted is such a value
pub accepts : (t : Ty) (lim : Limits) (s : List ℕ) → lim.memory < 2 ^ 64 → (v : Val t) (n : ℕ) → Accepted t lim s v n → scan t lim s ≡ Ok (answer t v, n)
unfolding scan
accepts t lim s m v n a = go (run lim start (trace t 0 0 s)) (run_ran lim m (trace t 0 0 s) start (omega arith))
  where
    f : (ending (trace t 0 0 s) ≡ got tt n) × (sums (trace t 0 0 s) ≡ sums_of t 0 v)
    f = followed t s v n a.reads

    inside : Within lim start (sums_of t 0 v)
    inside = record { deep = omega (arith, a.nests, reach_front t v); room = omega (arith, a.fills); memory = ⊎_elim (λ e. inl e) (λ e. inr (omega arith)) a.charges }

    go : (x : Scan) → Ran lim start (trace t 0 0 s) x → x ≡ Ok (answer t v, n)
    go (Ok (u, k)) h =
        let r : (ending (trace t 0 0 s) ≡ got tt k) × Within lim start (sums (trace t 0 0 s)) × (u ≡ plus start (sums (trace t 0 0 s))) = (unfold Ran in h) in
        let g : ending (trace t 0 0 s) ≡ got tt n = f.0 in
        let q : ending (trace t 0 0 s) ≡ got tt k = r.0 in
        let b : k ≡ n = cc in
        ap₂ (λ x y. Ok (x, y)) (r.2 ∙ ap (plus start) f.1 ∙ answers t v) b
    go (Err y) h =
        let r : (sums (trace t 0 0 s)).extra ≡ 0 → Within lim start (sums (trace t 0 0 s)) → ending (trace t 0 0 s) ≡ bad y = (unfold Ran in h) in
        let q : ending (trace t 0 0 s) ≡ bad y = r (ap (λ (x : Sums). x.extra) f.1) (subst (Within lim start) (sym f.1) inside) in
        let g : ending (trace t 0 0 s) ≡ got tt n = f.0 in
        absurd (let z : ◌≡◌ {A = ℕ} 0 1 = cc in omega arith)

pub accepted : (t : Ty) (lim : Limits) (s : List ℕ) → lim.memory < 2 ^ 64 → (u : Totals) (n : ℕ) → scan t lim s ≡ Ok (u, n)
    → (v : Val t) × Accepted t lim s v n × (u ≡ answer t v)
unfolding scan
accepted t lim s m u n e = go (read t 0 s) refl
  where
    r : Ran lim start (trace t 0 0 s) (Ok (u, n))
    r = subst (Ran lim start (trace t 0 0 s)) e (run_ran lim m (trace t 0 0 s) start (omega arith))

    q : (ending (trace t 0 0 s) ≡ got tt n) × Within lim start (sums (trace t 0 0 s)) × (u ≡ plus start (sums (trace t 0 0 s)))
    q = unfold Ran in r

    go : (x : Res (Val t)) → read t 0 s ≡ x → (v : Val t) × Accepted t lim s v n × (u ≡ answer t v)
    go (got v k) f =
        let g = followed t s v k f in
        let g0 : ending (trace t 0 0 s) ≡ got tt k = g.0 in
        let q0 : ending (trace t 0 0 s) ≡ got tt n = q.0 in
        let b : k ≡ n = cc in
        let w : Within lim start (sums_of t 0 v) = subst (Within lim start) g.1 q.1 in (
          v,
          record {
            reads = f ∙ ap (got v) b;
            nests = omega (arith, w.deep, reach_front t v);
            fills = omega (arith, w.room);
            charges = ⊎_elim (λ e. inl e) (λ e. inr (omega arith)) w.memory;
          },
          q.2 ∙ ap (plus start) g.1 ∙ answers t v,
        )
    go (bad y) f =
        let g : ending (trace t 0 0 s) ≡ bad y = (unfold Traces in (subst (λ x. Traces nil (trace t 0 0 s) x (λ x. nil ⊕ sums_of t 0 x)) f (along t 0 0 s nil))) in
        let q0 : ending (trace t 0 0 s) ≡ got tt n = q.0 in
        absurd (let z : ◌≡◌ {A = ℕ} 0 1 = cc in omega arith)

-- and the cells that were passed are the value's
pub passed : (t : Ty) (lim : Limits) (s : List ℕ) (v : Val t) (u : Totals) (n m : ℕ) → read t 0 s ≡ got v n → scan t lim s ≡ Ok (u, m) → scanned t lim s ≡ cells t v
unfolding scan scanned
passed t lim s v u n m e h = finished_done lim (trace t 0 0 s) start u m h ∙ ap (λ (x : Sums). x.list) (followed t s v n e).1
