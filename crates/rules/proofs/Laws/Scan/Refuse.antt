-- Why a scan is refused: by a limit, at the first item that it bars, or by the written rule, where the limits let every item pass; with that number and place, both ways.
use Rattle.std.specs.Prelude.{List, ◌≡◌, refl, ℕ, Option, Some, None, Err}
use Rattle.std.proofs.Common.{inl, inr, ap, sym, ◌∙◌, subst, arith}
use Rattle.rules.specs.Refusals.{Refusal}
use Rattle.rules.specs.Types.{Ty, Val}
use Rattle.rules.specs.Parser.{Res, got, bad}
use Rattle.rules.specs.Wire.{read}
use Rattle.rules.specs.Trace.{Event, Trace, ended, refused, item, trace}
use Rattle.rules.specs.Trace.Sums.{◌⊕◌, nil, ending, Traces}
use Rattle.rules.specs.Trace.Follows.{sums_of}
use Rattle.rules.proofs.Laws.Trace.Follows.{along}
use Rattle.rules.specs.Scan.{Limits, Totals, barred, unless, finish, run, start, scan}
use Rattle.rules.specs.Scan.Barred.{Lets, Bars}
use Rattle.rules.proofs.Laws.Scan.Barred.{barred_by, barred_none, bars_some, lets_none}
use Rattle.rules.proofs.Laws.Scan.Accept.{followed}
use Rattle.rules.specs.Scan.Refuse.{Stops, Refuses, barring, ruling, by_limit, by_rule}

run_stopped : (lim : Limits) (t : Trace) (st : Totals) (y : Refusal) → run lim st t ≡ Err y → Stops lim st t y
unfolding run unless ending
run_stopped lim (ended n) st y e = absurd (let z : ◌≡◌ {A = ℕ} 0 1 = cc in omega arith)
run_stopped lim (refused x) st y e = let z : x ≡ y = cc in ruling tt (ap bad z)
run_stopped lim (item f t) st y e = go (barred lim st f) refl e (run_stopped lim t (finish st f) y)
  where
    go : (o : Option Refusal) → barred lim st f ≡ o → unless o (run lim (finish st f) t) ≡ Err y → (run lim (finish st f) t ≡ Err y → Stops lim (finish st f) t y)
        → Stops lim st (item f t) y
    go (Some x) q k h = let z : x ≡ y = cc in barring st f (inl (refl, refl)) (subst (Bars lim st f) z (barred_by lim st f x q))
    go None q k h = later (barred_none lim st f q) (h k)
      where
        later : Lets lim st f → Stops lim (finish st f) t y → Stops lim st (item f t) y
        later l (barring u e m b) = barring u e (inr (l, m)) b
        later l (ruling p r) = ruling (l, p) r

stops_run : (lim : Limits) (t : Trace) (st : Totals) (y : Refusal) → Stops lim st t y → run lim st t ≡ Err y
unfolding run unless ending
stops_run lim (ended n) st y (barring u e m b) = absurd m
stops_run lim (ended n) st y (ruling p r) = absurd (let z : ◌≡◌ {A = ℕ} 0 1 = cc in omega arith)
stops_run lim (refused x) st y (barring u e m b) = absurd m
stops_run lim (refused x) st y (ruling p r) = let z : x ≡ y = cc in ap Err z
stops_run lim (item f t) st y (barring u e (inl m) b) =
    let b' : Bars lim st f y = subst (λ (g : Event). Bars lim st g y) (sym m.1) (subst (λ (w : Totals). Bars lim w e y) (sym m.0) b) in
    ap (λ (o : Option Refusal). unless o (run lim (finish st f) t)) (bars_some lim st f y b')
stops_run lim (item f t) st y (barring u e (inr m) b) =
    ap (λ (o : Option Refusal). unless o (run lim (finish st f) t)) (lets_none lim st f m.0) ∙ stops_run lim t (finish st f) y (barring u e m.1 b)
stops_run lim (item f t) st y (ruling p r) =
    ap (λ (o : Option Refusal). unless o (run lim (finish st f) t)) (lets_none lim st f p.0) ∙ stops_run lim t (finish st f) y (ruling p.1 r)

ends_so : (t : Ty) (s : List ℕ) (y : Refusal) → read t 0 s ≡ bad y → ending (trace t 0 0 s) ≡ bad y
unfolding Traces
ends_so t s y e = subst (λ r. Traces nil (trace t 0 0 s) r (λ v. nil ⊕ sums_of t 0 v)) e (along t 0 0 s nil)

pub scan_refused : (t : Ty) (lim : Limits) (s : List ℕ) (y : Refusal) → scan t lim s ≡ Err y → Refuses t lim s y
unfolding scan
scan_refused t lim s y e = go (run_stopped lim (trace t 0 0 s) start y e)
  where
    so : ending (trace t 0 0 s) ≡ bad y → (x : Res (Val t)) → read t 0 s ≡ x → read t 0 s ≡ bad y
    so r (got v n) q = absurd (let k : got tt n ≡ bad y = sym (followed t s v n q).0 ∙ r in let z : ◌≡◌ {A = ℕ} 0 1 = cc in omega arith)
    so r (bad x) q = let k : bad x ≡ bad y = sym (ends_so t s x q) ∙ r in let z : x ≡ y = cc in q ∙ ap bad z

    go : Stops lim start (trace t 0 0 s) y → Refuses t lim s y
    go (barring u f m b) = by_limit u f m b
    go (ruling p r) = by_rule p (so r (read t 0 s) refl)

pub scan_refuses : (t : Ty) (lim : Limits) (s : List ℕ) (y : Refusal) → Refuses t lim s y → scan t lim s ≡ Err y
unfolding scan
scan_refuses t lim s y (by_limit u e m b) = stops_run lim (trace t 0 0 s) start y (barring u e m b)
scan_refuses t lim s y (by_rule p r) = stops_run lim (trace t 0 0 s) start y (ruling p (ends_so t s y r))
