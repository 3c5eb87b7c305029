-- Demands 1 and 3 about the public functions' own answers: r is any answer that the contract allows, and m what the lent cells l are afterwards.
use Rattle.std.specs.Prelude.{Bool, true, false, List, ◌++◌, ◌⊎◌, ◌≡◌, refl, ℕ, ◌^◌, ◌≤◌, ◌<◌, ltb, length, Ok, Err}
use Rattle.std.proofs.Common.{inl, inr, ◌∙◌, subst, arith, ltb-true, lt-ltb}
use Rattle.std.proofs.Math.Logic.{⊎_elim}
use Rattle.std.proofs.Math.Path.{ap, sym}
use Rattle.rules.specs.Basics.{pick, onto}
use Rattle.rules.specs.Cells.{cells}
use Rattle.rules.specs.Demands.{Decided}
use Rattle.rules.proofs.Laws.Demands.{front_accepts, front_accepted, front_cells, whole_accepts, whole_accepted, front_wider, whole_wider, cut_wider, front_grown, front_decided, whole_decided, whole_fills}
use Rattle.rules.specs.Jobs.{read_front, read_whole, cut_to, cells_after, read_fields}
use Rattle.rules.specs.Refusals.{bytes_left_at, number_of}
use Rattle.rules.specs.Scan.{scan, scanned, filling}
use Rattle.rules.specs.Scan.Accept.{Accepted, answer}
use Rattle.rules.proofs.Laws.Scan.Accept.{passed}
use Rattle.rules.specs.Scan.Barred.{Wider}
use Rattle.rules.specs.Scan.Refuse.{Refuses}
use Rattle.rules.proofs.Laws.Scan.Refuse.{scan_refused, scan_refuses}
use Rattle.rules.specs.Scan.Steady.{ByLimit, Short}
use Rattle.rules.proofs.Laws.Scan.Steady.{scanned_wider, scanned_grown}
use Rattle.rules.specs.Table.{Check, fine, root, check_table, after_check}
use Rattle.rules.specs.Table.Laws.{Good}
use Rattle.rules.specs.Totals.{nesting, charge}
use Rattle.rules.specs.Types.{Val}
use Rattle.rules.specs.declared.Limits.{Limits}
use Rattle.rules.specs.declared.Refusal.{Refusal}
use Rattle.rules.specs.Scan.{Scan}
use Rattle.rules.specs.declared.Totals.{Totals}

-- ---- into lent cells

-- what the contracts of `read_front` and `read_whole` say, for the job f
pub record Contract (f : List ℕ → List ℕ → Limits → Scan) (tb s : List ℕ) (lim : Limits) (l : List ℕ) (r : Scan) (m : List ℕ) : Type 0 where
  pub answers : r ≡ f tb s (cut_to (length l) lim)
  pub writes : m ≡ cells_after (scanned (root tb) (cut_to (length l) lim) s) r l

-- any two answers that it allows are equal, and so are the cells
pub one_reading : (f : List ℕ → List ℕ → Limits → Scan) (tb s : List ℕ) (lim : Limits) (l : List ℕ) (r r' : Scan) (m m' : List ℕ)
    → Contract f tb s lim l r m → Contract f tb s lim l r' m' → (r ≡ r') × (m ≡ m')
one_reading f tb s lim l r r' m m' c d =
    let e : r ≡ r' = c.answers ∙ sym d.answers in
    (e, c.writes ∙ ap (λ x. cells_after (scanned (root tb) (cut_to (length l) lim) s) x l) e ∙ sym d.writes)

-- DEMAND 1: a refusal leaves the lent cells as they were
pub refusal_leaves : (f : List ℕ → List ℕ → Limits → Scan) (tb s : List ℕ) (lim : Limits) (l : List ℕ) (r : Scan) (m : List ℕ) (y : Refusal) → Contract f tb s lim l r m → r ≡ Err y → m ≡ l
refusal_leaves f tb s lim l r m y c e = c.writes ∙ ap (λ x. cells_after (scanned (root tb) (cut_to (length l) lim) s) x l) e

-- .. and has number and place, with 0 in every other field
pub refusal_fields : (f : List ℕ → List ℕ → Limits → Scan) (tb s : List ℕ) (lim : Limits) (l : List ℕ) (r : Scan) (m : List ℕ) (y : Refusal) → Contract f tb s lim l r m → r ≡ Err y
    → read_fields r ≡ record { number = number_of y.reason; place = y.place; bytes = 0; cells = 0; charge = 0; depth = 0 }
refusal_fields f tb s lim l r m y c e = ap read_fields e

module _ (tb s : List ℕ) (lim : Limits) (l : List ℕ) (r : Scan) (m : List ℕ) (M : lim.memory < 2 ^ 64) where
  -- DEMAND 3: accepted exactly if ..; then the value's cells stand at the front of the lent ones, and the others stay
  pub read_accepts : Contract read_front tb s lim l r m → Good tb → (v : Val (root tb)) (n : ℕ) → Accepted (root tb) (cut_to (length l) lim) s v n
      → (r ≡ Ok (answer (root tb) v, n)) × (m ≡ onto (cells (root tb) v) l)
  read_accepts c g v n a =
      let e : read_front tb s (cut_to (length l) lim) ≡ Ok (answer (root tb) v, n) = front_accepts tb s (cut_to (length l) lim) M g v n a in
      let q : r ≡ Ok (answer (root tb) v, n) = c.answers ∙ e in
      (q, c.writes ∙ ap (λ x. cells_after (scanned (root tb) (cut_to (length l) lim) s) x l) q ∙ ap (λ x. onto x l) (front_cells tb s (cut_to (length l) lim) (answer (root tb) v) n v n e a.reads))

  -- the whole value's bytes, cells, charge and nesting stand in the answer
  pub read_fields_lem : Contract read_front tb s lim l r m → Good tb → (v : Val (root tb)) (n : ℕ) → Accepted (root tb) (cut_to (length l) lim) s v n
      → read_fields r ≡ record { number = 0; place = 0; bytes = n; cells = length (cells (root tb) v); charge = charge (root tb) v; depth = nesting (root tb) v }
  read_fields_lem c g v n a = ap read_fields (read_accepts c g v n a).0

  pub read_accepted : Contract read_front tb s lim l r m → (u : Totals) (n : ℕ) → r ≡ Ok (u, n)
      → Good tb × ((v : Val (root tb)) × Accepted (root tb) (cut_to (length l) lim) s v n × (u ≡ answer (root tb) v) × (m ≡ onto (cells (root tb) v) l))
  read_accepted c u n e =
      let q = front_accepted tb s (cut_to (length l) lim) M u n (sym c.answers ∙ e) in
      let v = q.1.0 in
      (q.0, (v, q.1.1, q.1.2, (read_accepts c q.0 v n q.1.1).1))

  -- the same of a whole message
  pub whole_read_accepts : Contract read_whole tb s lim l r m → Good tb → (v : Val (root tb)) → Accepted (root tb) (cut_to (length l) lim) s v (length s)
      → (r ≡ Ok (answer (root tb) v, length s)) × (m ≡ onto (cells (root tb) v) l)
  whole_read_accepts c g v a =
      let e : read_whole tb s (cut_to (length l) lim) ≡ Ok (answer (root tb) v, length s) = whole_accepts tb s (cut_to (length l) lim) M g v a in
      let q : r ≡ Ok (answer (root tb) v, length s) = c.answers ∙ e in
      let d : scan (root tb) (cut_to (length l) lim) s ≡ Ok (answer (root tb) v, length s) = (whole_decided tb s (cut_to (length l) lim) (answer (root tb) v) (length s) e).1 in (
        q,
        c.writes ∙ ap (λ x. cells_after (scanned (root tb) (cut_to (length l) lim) s) x l) q
            ∙ ap (λ x. onto x l) (passed (root tb) (cut_to (length l) lim) s v (answer (root tb) v) (length s) (length s) a.reads d),
      )

  pub whole_read_accepted : Contract read_whole tb s lim l r m → (u : Totals) (n : ℕ) → r ≡ Ok (u, n)
      → Good tb × ((v : Val (root tb)) × Accepted (root tb) (cut_to (length l) lim) s v (length s) × (u ≡ answer (root tb) v) × (n ≡ length s) × (m ≡ onto (cells (root tb) v) l))
  whole_read_accepted c u n e =
      let w = whole_accepted tb s (cut_to (length l) lim) M u n (sym c.answers ∙ e) in
      let v = w.1.0 in
      let d : scan (root tb) (cut_to (length l) lim) s ≡ Ok (u, n) = (whole_decided tb s (cut_to (length l) lim) u n (sym c.answers ∙ e)).1 in
      let k : m ≡ onto (scanned (root tb) (cut_to (length l) lim) s) l = c.writes ∙ ap (λ x. cells_after (scanned (root tb) (cut_to (length l) lim) s) x l) e in
      (w.0, (v, w.1.1, w.1.2, w.1.3, k ∙ ap (λ x. onto x l) (passed (root tb) (cut_to (length l) lim) s v u (length s) n w.1.1.reads d)))

-- why a front read is refused, both ways: by the table's check, or in the message, by a limit or by the written rule (`Scan.Refuse.Refuses`), whose number and place it then has
pub data Why (tb s : List ℕ) (lim : Limits) (y : Refusal) : Type 0 where
  by_table : check_table tb ≡ Err y → Why tb s lim y
  in_message : check_table tb ≡ fine → Refuses (root tb) lim s y → Why tb s lim y

front_refused : (tb s : List ℕ) (lim : Limits) (y : Refusal) → read_front tb s lim ≡ Err y → Why tb s lim y
unfolding read_front
front_refused tb s lim y e = go (check_table tb) refl e
  where
    go : (x : Check) → check_table tb ≡ x → after_check x Err (scan (root tb) lim s) ≡ Err y → Why tb s lim y
    go fine q f = in_message q (scan_refused (root tb) lim s y f)
    go (Err x) q f = let j : x ≡ y = cc in by_table (q ∙ ap Err j)

front_refuses : (tb s : List ℕ) (lim : Limits) (y : Refusal) → Why tb s lim y → read_front tb s lim ≡ Err y
unfolding read_front
front_refuses tb s lim y (by_table q) = ap (λ (x : Check). after_check x Err (scan (root tb) lim s)) q
front_refuses tb s lim y (in_message q f) = ap (λ (x : Check). after_check x Err (scan (root tb) lim s)) q ∙ scan_refuses (root tb) lim s y f

-- .. and a whole read: as its front is, or by 18 where the front is accepted and bytes are left
pub data WhyWhole (tb s : List ℕ) (lim : Limits) (y : Refusal) : Type 0 where
  at_front : Why tb s lim y → WhyWhole tb s lim y
  by_rest : (u : Totals) (n : ℕ) → read_front tb s lim ≡ Ok (u, n) → n < length s → y ≡ bytes_left_at n → WhyWhole tb s lim y

filling_refused : (tb s : List ℕ) (lim : Limits) (y : Refusal) → filling s (read_front tb s lim) ≡ Err y → WhyWhole tb s lim y
unfolding filling
filling_refused tb s lim y e = go (read_front tb s lim) refl e
  where
    left : (u : Totals) (n : ℕ) → read_front tb s lim ≡ Ok (u, n) → (b : Bool) → ltb n (length s) ≡ b → pick {A = Scan} b (Err (bytes_left_at n)) (Ok (u, n)) ≡ Err y → WhyWhole tb s lim y
    left u n q true t k = let z : bytes_left_at n ≡ y = cc in by_rest u n q (ltb-true n (length s) t) (sym z)
    left u n q false t k = absurd (let z : ◌≡◌ {A = ℕ} 0 1 = cc in omega arith)

    go : (x : Scan) → read_front tb s lim ≡ x → filling s x ≡ Err y → WhyWhole tb s lim y
    go (Ok (u, n)) q f = left u n q (ltb n (length s)) refl f
    go (Err x) q f = at_front (front_refused tb s lim y (q ∙ f))

filling_refuses : (tb s : List ℕ) (lim : Limits) (y : Refusal) → WhyWhole tb s lim y → filling s (read_front tb s lim) ≡ Err y
unfolding filling
filling_refuses tb s lim y (at_front w) = ap (filling s) (front_refuses tb s lim y w)
filling_refuses tb s lim y (by_rest u n q h k) = ap (filling s) q ∙ rw (lt-ltb n (length s) h, k)

module _ (tb s : List ℕ) (lim : Limits) (l : List ℕ) (r : Scan) (m : List ℕ) (y : Refusal) where
  pub read_refused : Contract read_front tb s lim l r m → r ≡ Err y → Why tb s (cut_to (length l) lim) y
  read_refused c e = front_refused tb s (cut_to (length l) lim) y (sym c.answers ∙ e)

  pub read_refuses : Contract read_front tb s lim l r m → Why tb s (cut_to (length l) lim) y → r ≡ Err y
  read_refuses c w = c.answers ∙ front_refuses tb s (cut_to (length l) lim) y w

  pub whole_read_refused : Contract read_whole tb s lim l r m → r ≡ Err y → WhyWhole tb s (cut_to (length l) lim) y
  whole_read_refused c e = filling_refused tb s (cut_to (length l) lim) y (sym (whole_fills tb s (cut_to (length l) lim)) ∙ sym c.answers ∙ e)

  pub whole_read_refuses : Contract read_whole tb s lim l r m → WhyWhole tb s (cut_to (length l) lim) y → r ≡ Err y
  whole_read_refuses c w = c.answers ∙ whole_fills tb s (cut_to (length l) lim) ∙ filling_refuses tb s (cut_to (length l) lim) y w

-- DEMAND 3: larger limits and more lent cells change only a refusal by a limit; what is accepted stays so, with the same totals and bytes, and the same cells are new
abbrev Job : Type 0
Job = List ℕ → List ℕ → Limits → Scan

-- what both answers leave: the same new cells, in front of what was lent to each
abbrev Same : List ℕ → List ℕ → List ℕ → List ℕ → Type 0
Same l l' m m' = (new : List ℕ) × (m ≡ onto new l) × (m' ≡ onto new l')

module _ (f : Job) (tb s : List ℕ) (lim lim' : Limits) (l l' : List ℕ) (r r' : Scan) (m m' : List ℕ) (c : Contract f tb s lim l r m) (d : Contract f tb s lim' l' r' m')
    (g : (f tb s (cut_to (length l) lim) ≡ f tb s (cut_to (length l') lim')) ⊎ ByLimit (f tb s (cut_to (length l) lim))) where
  changes : (r ≡ r') ⊎ ByLimit r
  changes = ⊎_elim (λ e. inl (c.answers ∙ e ∙ sym d.answers)) (λ e. inr (subst ByLimit (sym c.answers) e)) g

  keeps : Decided tb s (cut_to (length l) lim) (f tb s (cut_to (length l) lim)) → Wider (cut_to (length l) lim) (cut_to (length l') lim') → (u : Totals) (n : ℕ) → r ≡ Ok (u, n)
      → (r' ≡ Ok (u, n)) × Same l l' m m'
  unfolding ByLimit
  keeps D w u n e =
      let k : r' ≡ Ok (u, n) = ⊎_elim (λ h. sym h ∙ e) (λ h. absurd (subst ByLimit e h)) changes in
      let same = scanned_wider (cut_to (length l) lim) (cut_to (length l') lim') w (root tb) s u n (D u n (sym c.answers ∙ e)).1 in (
        k,
        (
          scanned (root tb) (cut_to (length l) lim) s,
          c.writes ∙ ap (λ x. cells_after (scanned (root tb) (cut_to (length l) lim) s) x l) e,
          d.writes ∙ ap (λ x. cells_after (scanned (root tb) (cut_to (length l') lim') s) x l') k ∙ ap (λ x. onto x l') (sym same),
        ),
      )

module _ (tb s : List ℕ) (lim lim' : Limits) (l l' : List ℕ) (r r' : Scan) (m m' : List ℕ) (w : Wider lim lim') (h : length l ≤ length l') where
  cut : Wider (cut_to (length l) lim) (cut_to (length l') lim')
  cut = cut_wider lim lim' (length l) (length l') w h

  pub read_wider : Contract read_front tb s lim l r m → Contract read_front tb s lim' l' r' m' → (r ≡ r') ⊎ ByLimit r
  read_wider c d = changes read_front tb s lim lim' l l' r r' m m' c d (front_wider tb s _ _ cut)

  pub read_kept : Contract read_front tb s lim l r m → Contract read_front tb s lim' l' r' m' → (u : Totals) (n : ℕ) → r ≡ Ok (u, n) → (r' ≡ Ok (u, n)) × Same l l' m m'
  read_kept c d = keeps read_front tb s lim lim' l l' r r' m m' c d (front_wider tb s _ _ cut) (front_decided tb s _) cut

  -- of a whole message
  pub whole_read_wider : Contract read_whole tb s lim l r m → Contract read_whole tb s lim' l' r' m' → (r ≡ r') ⊎ ByLimit r
  whole_read_wider c d = changes read_whole tb s lim lim' l l' r r' m m' c d (whole_wider tb s _ _ cut)

  pub whole_read_kept : Contract read_whole tb s lim l r m → Contract read_whole tb s lim' l' r' m' → (u : Totals) (n : ℕ) → r ≡ Ok (u, n) → (r' ≡ Ok (u, n)) × Same l l' m m'
  whole_read_kept c d = keeps read_whole tb s lim lim' l l' r r' m m' c d (whole_wider tb s _ _ cut) (whole_decided tb s _) cut

-- DEMAND 3: added bytes change only a refusal as short; what is accepted stays so, cells and all
module _ (tb s x : List ℕ) (lim : Limits) (l : List ℕ) (r r' : Scan) (m m' : List ℕ) (c : Contract read_front tb s lim l r m) (d : Contract read_front tb (s ++ x) lim l r' m') where
  pub read_grown : (r ≡ r') ⊎ Short r
  read_grown = ⊎_elim (λ e. inl (c.answers ∙ e ∙ sym d.answers)) (λ e. inr (subst Short (sym c.answers) e)) (front_grown tb s x (cut_to (length l) lim))

  pub read_grown_kept : (u : Totals) (n : ℕ) → r ≡ Ok (u, n) → (r' ≡ Ok (u, n)) × (m' ≡ m)
  read_grown_kept u n e =
      let never : Short (Ok (u, n)) → r' ≡ Ok (u, n) = λ h. absurd (let z : ◌≡◌ {A = ℕ} 0 1 = cc h.2 in omega arith) in
      let k : r' ≡ Ok (u, n) = ⊎_elim (λ h. sym h ∙ e) (λ h. never (subst Short e h)) read_grown in
      let same = scanned_grown (root tb) (cut_to (length l) lim) s x u n (front_decided tb s (cut_to (length l) lim) u n (sym c.answers ∙ e)).1 in (
        k,
        d.writes ∙ ap (λ y. cells_after (scanned (root tb) (cut_to (length l) lim) (s ++ x)) y l) k ∙ ap (λ y. onto y l) (sym same)
            ∙ sym (c.writes ∙ ap (λ y. cells_after (scanned (root tb) (cut_to (length l) lim) s) y l) e),
      )
