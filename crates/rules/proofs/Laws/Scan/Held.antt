-- What a pass that is done says of its numbers: its bytes are there, and its cells are counted and within C.
use Rattle.std.specs.Prelude.{List, ◌++◌, ◌≡◌, refl, ℕ, ◌+◌, ◌≤◌, length, Ok, Err}
use Rattle.std.proofs.Common.{ap, sym, ◌∙◌, subst, add-zero, arith, length-append}
use Rattle.rules.specs.Types.{Ty}
use Rattle.rules.specs.Parser.{got}
use Rattle.rules.specs.Trace.{Event, plain, enter, Trace, ended, refused, item, trace}
use Rattle.rules.specs.Trace.Sums.{ending}
use Rattle.rules.proofs.Laws.Trace.Grow.{trace_used}
use Rattle.rules.specs.Scan.{Limits, Totals, Scan, barred, finish, run, cells_of, kept, finished}
use Rattle.rules.specs.Scan.Pass.{further, pass_from, pass_at}
use Rattle.rules.specs.Scan.Barred.{Lets}
use Rattle.rules.proofs.Laws.Basics.{same_parts}
use Rattle.rules.proofs.Laws.Scan.Barred.{barred_none}
use Rattle.rules.proofs.Laws.Scan.Accept.{unless_done}
use Rattle.rules.specs.Scan.Held.{Held}

run_ending : (lim : Limits) (t : Trace) (st u : Totals) (n : ℕ) → run lim st t ≡ Ok (u, n) → ending t ≡ got tt n
unfolding run ending
run_ending lim (ended m) st u n e = ap (got tt) (same_parts e).1
run_ending lim (refused y) st u n e = absurd (let z : ◌≡◌ {A = ℕ} 0 1 = cc in omega arith)
run_ending lim (item x t) st u n e = run_ending lim t (finish st x) u n (unless_done (barred lim st x) (run lim (finish st x) t) u n e).1

finish_cells : (st : Totals) (x : Event) → (finish st x).cells ≡ st.cells + length (cells_of x)
unfolding finish
finish_cells st (plain p cs) = refl
finish_cells st (enter h) = refl

run_counts : (lim : Limits) (t : Trace) (st u : Totals) (n : ℕ) → run lim st t ≡ Ok (u, n) → u.cells ≡ st.cells + length (finished lim st t)
unfolding run finished kept
run_counts lim (ended m) st u n e = ap (λ (x : Totals). x.cells) (sym (same_parts e).0) ∙ sym (add-zero st.cells)
run_counts lim (refused y) st u n e = absurd (let z : ◌≡◌ {A = ℕ} 0 1 = cc in omega arith)
run_counts lim (item x t) st u n e =
    let g = unless_done (barred lim st x) (run lim (finish st x) t) u n e in
    let l = finished lim (finish st x) t in
    let a : u.cells ≡ st.cells + length (cells_of x ++ l) = omega (arith, run_counts lim t (finish st x) u n g.1, finish_cells st x, length-append (cells_of x) l) in
    a ∙ ap (λ o. st.cells + length (kept o (cells_of x ++ l))) (sym g.0)

lets_cells : (lim : Limits) (st : Totals) (x : Event) → Lets lim st x → st.cells + length (cells_of x) ≤ lim.cells
lets_cells lim st (plain p cs) l = l
lets_cells lim st (enter h) l = omega (arith, l.2)

run_room : (lim : Limits) (t : Trace) (st u : Totals) (n : ℕ) → st.cells ≤ lim.cells → run lim st t ≡ Ok (u, n) → u.cells ≤ lim.cells
unfolding run
run_room lim (ended m) st u n h e = subst (λ (x : Totals). x.cells ≤ lim.cells) (same_parts e).0 h
run_room lim (refused y) st u n h e = absurd (let z : ◌≡◌ {A = ℕ} 0 1 = cc in omega arith)
run_room lim (item x t) st u n h e =
    let g = unless_done (barred lim st x) (run lim (finish st x) t) u n e in
    let l = lets_cells lim st x (barred_none lim st x g.0) in
    run_room lim t (finish st x) u n (omega (arith, finish_cells st x)) g.1

further_done : (n : ℕ) (x : Scan) (u : Totals) (e : ℕ) → further n x ≡ Ok (u, e) → (m : ℕ) × (x ≡ Ok (u, m)) × (e ≡ n + m)
unfolding further
further_done n (Ok (v, m)) u e f =
    let q = same_parts f in
    (m, ap (λ x. Ok (x, m)) q.0, sym q.1)
further_done n (Err y) u e f = absurd (let z : ◌≡◌ {A = ℕ} 0 1 = cc in omega arith)

pub pass_held : (t : Ty) (lim : Limits) (lv at : ℕ) (s : List ℕ) (st u : Totals) (e : ℕ) → st.cells ≤ lim.cells → (pass_at t lim lv at s st).answer ≡ Ok (u, e)
    → Held lim st at s (pass_at t lim lv at s st).cells u e
unfolding pass_at pass_from
pass_held t lim lv at s st u e h q =
    let f = further_done at (run lim st (trace t lv at s)) u e q in
    let n = f.0 in
    let l : n ≤ length s = trace_used t lv at s n (run_ending lim (trace t lv at s) st u n f.1) in
    record {
      from = omega (arith, f.2);
      used = omega (arith, f.2);
      counted = run_counts lim (trace t lv at s) st u n f.1;
      within = run_room lim (trace t lv at s) st u n h f.1;
    }
