-- The public readings: from the walk to the jobs.
use Rattle.std.specs.Prelude.{Ok, Err, List, ◌≡◌, ℕ, ◌≤◌, ◌<◌, length}
use Rattle.std.proofs.Common.{refl, sym, ◌∙◌, subst, arith, lt-ltb, le-ltb}
use Rattle.std.proofs.lemmas.List.Edits.{sets}
use Rattle.rules.specs.Demands.{Decided}
use Rattle.rules.proofs.Laws.Demands.{scanned_fit, whole_fills}
use Rattle.rules.specs.Jobs.{read_front, read_whole, cut_to, cells_after}
use Rattle.rules.proofs.Laws.Places.{sets_onto}
use Rattle.rules.specs.Refusals.{bytes_left_at}
use Rattle.rules.specs.Scan.{Scan, scanned, filling}
use Rattle.rules.specs.Table.{root}
use Rattle.rules.specs.declared.Limits.{Limits}
use Rattle.rules.specs.declared.Refusal.{Refusal}
use Rattle.rules.specs.declared.Totals.{Totals}
use Rattle.scan.specs.Walk.{passed_in}

-- ---- bytes left over

module _ (tb s : List ℕ) (lim : Limits) where
  pub whole_refused : (r : Scan) (y : Refusal) → read_front tb s lim ≡ Err y → r ≡ Err y → r ≡ read_whole tb s lim
  unfolding filling
  whole_refused r y e q = rw (whole_fills tb s lim, e) q

  module _ (t : Totals) (n : ℕ) (e : read_front tb s lim ≡ Ok (t, n)) where
    pub whole_left : (r : Scan) → n < length s → r ≡ Err (bytes_left_at n) → r ≡ read_whole tb s lim
    unfolding filling
    whole_left r h q = rw (whole_fills tb s lim, e, lt-ltb n (length s) h) q

    pub whole_read : length s ≤ n → Ok (t, n) ≡ read_whole tb s lim
    unfolding filling
    whole_read h = rw (whole_fills tb s lim, e, le-ltb n (length s) h) refl

-- ---- into lent cells

-- what a reading of a kind f answers and leaves
abbrev Filled : (List ℕ → List ℕ → Limits → Scan) → List ℕ → List ℕ → Limits → List ℕ → Scan → List ℕ → Type 0
Filled f tb s lim l r m = record { answers : r ≡ f tb s lim; writes : m ≡ cells_after (scanned (root tb) lim s) r l }

module _ (f : List ℕ → List ℕ → Limits → Scan) (tb s l : List ℕ) (lim cut : Limits) (e : cut ≡ cut_to (length l) lim) (r : Scan) where
  pub cut_refused : (y : Refusal) → f tb s cut ≡ Err y → r ≡ Err y → Filled f tb s (cut_to (length l) lim) l r l
  cut_refused y d q = subst (λ (x : Limits). Filled f tb s x l r l) e (record { answers = q ∙ sym d; writes = rw q refl })

  -- what was decided is what the second walk answers, and its cells are all there
  pub cut_filled : (u : Totals) (n : ℕ) (m : List ℕ) → Decided tb s cut (f tb s cut) → f tb s cut ≡ Ok (u, n)
      → record { answers : r ≡ read_front tb s cut; writes : m ≡ sets l 0 (passed_in tb cut s) } → Filled f tb s (cut_to (length l) lim) l r m
  unfolding read_front passed_in
  cut_filled u n m d q w =
      let D = d u n q in
      let same : r ≡ Ok (u, n) = rw (D.0, D.1) at w.answers in
      let fit = scanned_fit (root tb) cut s u n D.1 in
      let room : cut.cells ≤ length l = rw e (omega arith) in
      let new : m ≡ sets l 0 (scanned (root tb) cut s) = rw D.0 at w.writes in
      subst (λ (x : Limits). Filled f tb s x l r m) e (record { answers = same ∙ sym q; writes = rw same (new ∙ sets_onto (scanned (root tb) cut s) l (omega arith)) })
