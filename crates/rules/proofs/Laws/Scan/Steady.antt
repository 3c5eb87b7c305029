-- Larger limits change only refusals by a limit, and added bytes only refusals as short; neither changes an accepted answer.
use Rattle.std.specs.Prelude.{List, ◌++◌, ◌⊎◌, ℕ, Option, Some, None, Ok}
use Rattle.std.proofs.Math.Logic.{inl, inr, ⊎_elim}
use Rattle.std.proofs.Math.Path.{◌≡◌, refl, ap}
use Rattle.std.proofs.Common.{sym, ◌∙◌, arith}
use Rattle.rules.specs.Refusals.{Refusal}
use Rattle.rules.specs.Types.{Ty}
use Rattle.rules.specs.Trace.{Trace, ended, refused, item, trace}
use Rattle.rules.specs.Trace.Grow.{Grown}
use Rattle.rules.proofs.Laws.Trace.Grow.{trace_grown}
use Rattle.rules.specs.Scan.{Limits, Totals, barred, unless, finish, run, start, cells_of, kept, finished, scan, scanned}
use Rattle.rules.specs.Scan.Barred.{Wider}
use Rattle.rules.proofs.Laws.Scan.Barred.{barred_some, barred_none, lets_none, lets_wider}
use Rattle.rules.specs.Scan.Steady.{ByLimit, Short}

module _ (lim lim' : Limits) (w : Wider lim lim') where
  pub run_wider : (t : Trace) (st : Totals) → (run lim st t ≡ run lim' st t) ⊎ ByLimit (run lim st t)
  unfolding run unless ByLimit
  run_wider (ended n) st = inl refl
  run_wider (refused y) st = inl refl
  run_wider (item e t) st = go (barred lim st e) refl (run_wider t (finish st e))
    where
      go : (o : Option Refusal) → barred lim st e ≡ o → (run lim (finish st e) t ≡ run lim' (finish st e) t) ⊎ ByLimit (run lim (finish st e) t)
          → (unless o (run lim (finish st e) t) ≡ unless (barred lim' st e) (run lim' (finish st e) t)) ⊎ ByLimit (unless o (run lim (finish st e) t))
      go (Some y) q h = inr (barred_some lim st e y q).0
      go None q h =
          let o : barred lim' st e ≡ None = lets_none lim' st e (lets_wider lim lim' w st e (barred_none lim st e q)) in
          ⊎_elim (λ f. inl (f ∙ ap (λ x. unless x (run lim' (finish st e) t)) (sym o))) (λ f. inr f) h

  -- where it is done, the cells are the same too
  finished_wider : (t : Trace) (st u : Totals) (n : ℕ) → run lim st t ≡ Ok (u, n) → finished lim st t ≡ finished lim' st t
  unfolding run unless finished kept
  finished_wider (ended n) st u m e = refl
  finished_wider (refused y) st u m e = refl
  finished_wider (item x t) st u m e = go (barred lim st x) refl e (finished_wider t (finish st x) u m)
    where
      go : (o : Option Refusal) → barred lim st x ≡ o → unless o (run lim (finish st x) t) ≡ Ok (u, m)
          → (run lim (finish st x) t ≡ Ok (u, m) → finished lim (finish st x) t ≡ finished lim' (finish st x) t)
          → kept o (cells_of x ++ finished lim (finish st x) t) ≡ kept (barred lim' st x) (cells_of x ++ finished lim' (finish st x) t)
      go (Some y) q f h = absurd (let z : ◌≡◌ {A = ℕ} 0 1 = cc (f) in omega arith)
      go None q f h =
          let o : barred lim' st x ≡ None = lets_none lim' st x (lets_wider lim lim' w st x (barred_none lim st x q)) in
          ap (◌++◌ (cells_of x)) (h f) ∙ ap (λ b. kept b (cells_of x ++ finished lim' (finish st x) t)) (sym o)

  -- for every message
  pub scan_wider : (t : Ty) (s : List ℕ) → (scan t lim s ≡ scan t lim' s) ⊎ ByLimit (scan t lim s)
  unfolding scan
  scan_wider t s = run_wider (trace t 0 0 s) start

  pub scanned_wider : (t : Ty) (s : List ℕ) (u : Totals) (n : ℕ) → scan t lim s ≡ Ok (u, n) → scanned t lim s ≡ scanned t lim' s
  unfolding scan scanned
  scanned_wider t s u n e = finished_wider (trace t 0 0 s) start u n e

run_grown : (lim : Limits) (t t' : Trace) (st : Totals) → Grown t t' → (run lim st t ≡ run lim st t') ⊎ Short (run lim st t)
unfolding run Grown
run_grown lim (ended n) t' st h = inl (ap (run lim st) (sym h))
run_grown lim (refused y) t' st (inl e) = inr (y, e, refl)
run_grown lim (refused y) t' st (inr e) = inl (ap (run lim st) (sym e))
run_grown lim (item e t) t' st h = go (barred lim st e) (run_grown lim t h.0 (finish st e) h.2) (ap (run lim st) (sym h.1))
  where
    go : (o : Option Refusal) → (run lim (finish st e) t ≡ run lim (finish st e) h.0) ⊎ Short (run lim (finish st e) t)
        → unless o (run lim (finish st e) h.0) ≡ run lim st t'
        → (unless o (run lim (finish st e) t) ≡ run lim st t') ⊎ Short (unless o (run lim (finish st e) t))
    go o (inl f) q = inl (ap (unless o) f ∙ q)
    go (Some y) (inr f) q = inl (unfold unless in q)
    go None (inr f) q = unfold unless in inr f

pub scan_grown : (t : Ty) (lim : Limits) (s x : List ℕ) → (scan t lim s ≡ scan t lim (s ++ x)) ⊎ Short (scan t lim s)
unfolding scan
scan_grown t lim s x = run_grown lim (trace t 0 0 s) (trace t 0 0 (s ++ x)) start (trace_grown t 0 0 s x)

-- the cells likewise
finished_grown : (lim : Limits) (t t' : Trace) (st u : Totals) (n : ℕ) → Grown t t' → run lim st t ≡ Ok (u, n) → finished lim st t ≡ finished lim st t'
unfolding run finished Grown
finished_grown lim (ended k) t' st u n h e = ap (finished lim st) (sym h)
finished_grown lim (refused y) t' st u n h e = absurd (let z : ◌≡◌ {A = ℕ} 0 1 = cc (e) in omega arith)
finished_grown lim (item x t) t' st u n h e = go (barred lim st x) e (finished_grown lim t h.0 (finish st x) u n h.2) (ap (finished lim st) (sym h.1))
  where
    go : (o : Option Refusal) → unless o (run lim (finish st x) t) ≡ Ok (u, n)
        → (run lim (finish st x) t ≡ Ok (u, n) → finished lim (finish st x) t ≡ finished lim (finish st x) h.0) → kept o (cells_of x ++ finished lim (finish st x) h.0) ≡ finished lim st t'
        → kept o (cells_of x ++ finished lim (finish st x) t) ≡ finished lim st t'
    go (Some y) f g q = unfold kept in q
    go None f g q = unfold kept unless in ap (◌++◌ (cells_of x)) (g f) ∙ q

pub scanned_grown : (t : Ty) (lim : Limits) (s x : List ℕ) (u : Totals) (n : ℕ) → scan t lim s ≡ Ok (u, n) → scanned t lim s ≡ scanned t lim (s ++ x)
unfolding scan scanned
scanned_grown t lim s x u n e = finished_grown lim (trace t 0 0 s) (trace t 0 0 (s ++ x)) start u n (trace_grown t 0 0 s x) e
