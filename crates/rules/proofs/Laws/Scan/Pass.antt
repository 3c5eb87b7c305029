-- For the proofs of code: the limited reader kind by kind. `pass_at` is a reader at level lv and offset `at`, with the totals so far: its answer, with the offset
-- where it ended, and the cells of the items that it passed. Each law says what it is over its children, so that a walker's contract is met kind by kind.
use Rattle.std.specs.Prelude.{Bool, true, false, List, ◌++◌, ◌≡◌, ℕ, zero, suc, ◌+◌, ◌-◌, leb, drop, Option, Some, None, Ok, Err}
use Rattle.std.proofs.Common.{append_assoc, sym, ◌∙◌, add-zero, arith}
use Rattle.std.proofs.Math.Path.{refl, ap}
use Rattle.rules.specs.Refusals.{Refusal, bit_count_at, max_bits}
use Rattle.rules.specs.Basics.{pick, choose}
use Rattle.rules.specs.Types.{w4, Leaf, bool, compact, Ty, leaf, nothing, result, pair, array, vector, bits}
use Rattle.rules.specs.Parser.{Res, got, bad}
use Rattle.rules.specs.Wire.{leaf_from}
use Rattle.rules.specs.Cells.{leaf_cells}
use Rattle.rules.specs.Totals.{foot}
use Rattle.rules.specs.Trace.{Event, plain, Trace, ended, refused, item, Tracer, longer, ◌▷◌, follow, repeat, on, step, vector_head, bits_head, lane_trace, trace}
use Rattle.rules.specs.Scan.{Limits, Totals, Scan, barred, unless, finish, run, start, cells_of, kept, finished, scan, scanned}
use Rattle.rules.specs.Scan.Pass.{Pass, further, pass_from, pass_at, pass_none, behind, then_from, and_then, after, items, unless_barred, passing, headed, leaf_pass, lanes_at, bits_at}

-- ---- along a trace

pub same_pass : {p q : Pass} → p.answer ≡ q.answer → p.cells ≡ q.cells → p ≡ q
same_pass a c = λ i. record { answer = a i; cells = c i }

further_unless : (n : ℕ) (o : Option Refusal) (x : Scan) → unless o (further n x) ≡ further n (unless o x)
unfolding unless further
further_unless n (Some y) x = refl
further_unless n None x = refl

further_further : (a b : ℕ) (x : Scan) → further a (further b x) ≡ further (a + b) x
unfolding further
further_further a b (Ok (u, n)) = let e : a + (b + n) ≡ a + b + n = omega arith in ap (λ k. Ok (u, k)) e
further_further a b (Err y) = refl

run_longer : (lim : Limits) (n : ℕ) (t : Trace) (st : Totals) → run lim st (longer n t) ≡ further n (run lim st t)
unfolding run longer
run_longer lim n (ended m) st = unfold further in refl
run_longer lim n (refused y) st = unfold further in refl
run_longer lim n (item e t) st = ap (unless (barred lim st e)) (run_longer lim n t (finish st e)) ∙ further_unless n (barred lim st e) (run lim (finish st e) t)

finished_longer : (lim : Limits) (n : ℕ) (t : Trace) (st : Totals) → finished lim st (longer n t) ≡ finished lim st t
unfolding finished longer
finished_longer lim n (ended m) st = refl
finished_longer lim n (refused y) st = refl
finished_longer lim n (item e t) st = ap (λ l. kept (barred lim st e) (cells_of e ++ l)) (finished_longer lim n t (finish st e))

pass_longer : (lim : Limits) (st : Totals) (at n : ℕ) (t : Trace) → pass_from lim st at (longer n t) ≡ pass_from lim st (at + n) t
unfolding pass_from
pass_longer lim st at n t = same_pass (ap (further at) (run_longer lim n t st) ∙ further_further at n (run lim st t)) (finished_longer lim n t st)

-- one item, and what follows
pub pass_item : (lim : Limits) (st : Totals) (at : ℕ) (x : Event) (t : Trace) → pass_from lim st at (item x t) ≡ passing lim st x (λ u. pass_from lim u at t)
unfolding pass_from run finished
pass_item lim st at x t = go (barred lim st x)
  where
    go : (o : Option Refusal) → ◌≡◌ {A = Pass}
        (record { answer = further at (unless o (run lim (finish st x) t)); cells = kept o (cells_of x ++ finished lim (finish st x) t) })
        (unless_barred o (cells_of x) (record { answer = further at (run lim (finish st x) t); cells = finished lim (finish st x) t }))
    go (Some y) = unfold further unless kept unless_barred in refl
    go None = unfold unless kept unless_barred in refl

then_behind : (l : List ℕ) (p : Pass) (k : Totals → ℕ → Pass) → behind l (and_then p k) ≡ and_then (behind l p) k
then_behind l p k = go p.answer p.cells
  where
    go : (x : Scan) (m : List ℕ) → behind l (then_from x m k) ≡ then_from x (l ++ m) k
    go (Ok (u, e)) m = unfold then_from in same_pass refl (sym (append_assoc l m (k u e).cells))
    go (Err y) m = unfold then_from in refl

then_barred : (o : Option Refusal) (l : List ℕ) (p : Pass) (k : Totals → ℕ → Pass) → unless_barred o l (and_then p k) ≡ and_then (unless_barred o l p) k
unfolding unless_barred
then_barred (Some y) l p k = unfold then_from in refl
then_barred None l p k = then_behind l p k

-- a run along two traces
pub pass_on : (lim : Limits) (k : ℕ → Trace) (t : Trace) (st : Totals) (at : ℕ) → pass_from lim st at (t ▷ k) ≡ and_then (pass_from lim st at t) (λ u e. pass_from lim u e (k (e - at)))
pass_on lim k (ended n) st at =
    let e : n ≡ at + n - at = omega arith in
    let q : pass_from lim st at (ended n ▷ k) ≡ pass_from lim st (at + n) (k n) = (unfold ◌▷◌ in pass_longer lim st at n (k n)) in
    q ∙ ap (λ m. pass_from lim st (at + n) (k m)) e ∙ (unfold pass_from run finished further then_from in refl)
pass_on lim k (refused y) st at = unfold pass_from run finished further ◌▷◌ then_from in refl
pass_on lim k (item x t) st at =
    let q : pass_from lim st at (item x t ▷ k) ≡ passing lim st x (λ u. pass_from lim u at (t ▷ k)) = (unfold ◌▷◌ in pass_item lim st at x (t ▷ k)) in
    q
    ∙ ap (unless_barred (barred lim st x) (cells_of x)) (pass_on lim k t (finish st x) at)
    ∙ then_barred (barred lim st x) (cells_of x) (pass_from lim (finish st x) at t) (λ u e. pass_from lim u e (k (e - at)))
    ∙ ap (λ p. and_then p (λ u e. pass_from lim u e (k (e - at)))) (sym (pass_item lim st at x t))

pass_step : (lim : Limits) (st : Totals) (at : ℕ) (x : Event) (n : ℕ) (k : ℕ → Trace) → pass_from lim st at (step x n ▷ k) ≡ passing lim st x (λ u. pass_from lim u (at + n) (k n))
pass_step lim st at x n k =
    let q : pass_from lim st at (step x n ▷ k) ≡ passing lim st x (λ u. pass_from lim u at (longer n (k n))) = (unfold ◌▷◌ in pass_item lim st at x (longer n (k n))) in
    q ∙ ap (unless_barred (barred lim st x) (cells_of x)) (pass_longer lim (finish st x) at n (k n))

pass_headed : (lim : Limits) (st : Totals) (at : ℕ) (r : Res ℕ) (x : ℕ → Event) (k : ℕ → ℕ → Trace) (f : ℕ → ℕ → Totals → Pass)
    → ((v n : ℕ) (u : Totals) → pass_from lim u (at + n) (k v n) ≡ f v (at + n) u) → pass_from lim st at (on r (λ v n. step (x v) n ▷ k v)) ≡ headed lim st at r x f
unfolding on headed
pass_headed lim st at (got v n) x k f h = pass_step lim st at (x v) n (k v) ∙ ap (unless_barred (barred lim st (x v)) (cells_of (x v))) (h v n (finish st (x v)))
pass_headed lim st at (bad y) x k f h = unfold pass_from run finished further in refl

-- ---- kind by kind

pub pass_leaf : (k : Leaf) (lim : Limits) (lv at : ℕ) (s : List ℕ) (st : Totals) → pass_at (leaf k) lim lv at s st ≡ leaf_pass k lim at s st
unfolding pass_at trace leaf_pass
pass_leaf k lim lv at s st = go (leaf_from k at s)
  where
    go : (r : Res ℕ) → pass_from lim st at (on r (λ v n. step (plain at (leaf_cells k v)) n)) ≡ headed lim st at r (λ v. plain at (leaf_cells k v)) (λ v e u. pass_none (Ok (u, e)))
    go (got v n) = unfold on headed in (pass_item lim st at (plain at (leaf_cells k v)) (ended n) ∙ (unfold pass_from run finished further in refl))
    go (bad y) = unfold on headed pass_from run finished further in refl

pub pass_nothing : (lim : Limits) (lv at : ℕ) (s : List ℕ) (st : Totals) → pass_at nothing lim lv at s st ≡ pass_none (Ok (st, at))
unfolding pass_at trace pass_from run finished further
pass_nothing lim lv at s st = ap (λ e. pass_none (Ok (st, e))) (add-zero at)

-- what goes on, goes on from an offset past `at`
then_same : (lim : Limits) (st : Totals) (at : ℕ) (t : Trace) (k k' : Totals → ℕ → Pass) → ((u : Totals) (n : ℕ) → k u (at + n) ≡ k' u (at + n))
    → and_then (pass_from lim st at t) k ≡ and_then (pass_from lim st at t) k'
unfolding pass_from
then_same lim st at t k k' h = go (run lim st t)
  where
    go : (x : Scan) → then_from (further at x) (finished lim st t) k ≡ then_from (further at x) (finished lim st t) k'
    go (Ok (u, n)) = unfold further then_from in ap (behind (finished lim st t)) (h u n)
    go (Err y) = unfold further then_from in refl

-- one trace after another
pass_follow : (p q : Tracer) (lim : Limits) (at : ℕ) (s : List ℕ) (st : Totals)
    → pass_from lim st at (follow p q at s) ≡ and_then (pass_from lim st at (p at s)) (λ u e. pass_from lim u e (q e (drop (e - at) s)))
pass_follow p q lim at s st =
    pass_on lim (λ n. q (at + n) (drop n s)) (p at s) st at
    ∙ then_same lim st at (p at s) _ _ (λ u n. let e : at + (at + n - at) ≡ at + n = omega arith in ap (λ m. pass_from lim u (at + n) (q m (drop (at + n - at) s))) e)

pub pass_pair : (t u : Ty) (lim : Limits) (lv at : ℕ) (s : List ℕ) (st : Totals)
    → pass_at (pair t u) lim lv at s st ≡ and_then (pass_at t lim lv at s st) (after (pass_at u lim lv) at s)
unfolding pass_at trace
pass_pair t u lim lv at s st = pass_follow (trace t lv) (trace u lv) lim at s st

repeat_items : (t : Ty) (lim : Limits) (lv n at : ℕ) (s : List ℕ) (st : Totals) → pass_from lim st at (repeat n (trace t lv) at s) ≡ items n (pass_at t lim lv) at s st
unfolding repeat items pass_at
repeat_items t lim lv zero at s st = unfold pass_from run finished further in ap (λ e. pass_none (Ok (st, e))) (add-zero at)
repeat_items t lim lv (suc n) at s st =
    pass_follow (trace t lv) (repeat n (trace t lv)) lim at s st
    ∙ ap (and_then (pass_from lim st at (trace t lv at s))) (λ i u e. repeat_items t lim lv n e (drop (e - at) s) u i)

pub pass_array : (n : ℕ) (t : Ty) (lim : Limits) (lv at : ℕ) (s : List ℕ) (st : Totals) → pass_at (array n t) lim lv at s st ≡ items n (pass_at t lim lv) at s st
unfolding trace
pass_array n t lim lv at s st = unfold pass_at in repeat_items t lim lv n at s st

pub pass_result : (t u : Ty) (lim : Limits) (lv at : ℕ) (s : List ℕ) (st : Totals)
    → pass_at (result t u) lim lv at s st
    ≡ headed lim st at (leaf_from bool at s) (λ b. plain at (leaf_cells bool b)) (λ b e x. after (choose b (pass_at t lim lv) (pass_at u lim lv)) at s x e)
unfolding pass_at trace
pass_result t u lim lv at s st = pass_headed lim st at (leaf_from bool at s) (λ b. plain at (leaf_cells bool b)) _ _ go
  where
    go : (b n : ℕ) (x : Totals) → pass_from lim x (at + n) (choose b (trace t lv) (trace u lv) (at + n) (drop n s)) ≡ choose b (pass_at t lim lv) (pass_at u lim lv) (at + n) (drop (at + n - at) s) x
    go zero n x = let e : n ≡ at + n - at = omega arith in ap (λ m. pass_from lim x (at + n) (trace t lv (at + n) (drop m s))) e
    go (suc b) n x = let e : n ≡ at + n - at = omega arith in ap (λ m. pass_from lim x (at + n) (trace u lv (at + n) (drop m s))) e

pub pass_vector : (t : Ty) (lim : Limits) (lv at : ℕ) (s : List ℕ) (st : Totals)
    → pass_at (vector t) lim lv at s st
    ≡ headed lim st at (leaf_from (compact w4) at s) (vector_head (foot t) lv at) (λ c e u. after (items c (pass_at t lim (lv + 1))) at s u e)
unfolding trace
pass_vector t lim lv at s st = unfold pass_at in pass_headed lim st at (leaf_from (compact w4) at s) (vector_head (foot t) lv at) (λ c n. repeat c (trace t (lv + 1)) (at + n) (drop n s)) _ go
  where
    go : (c n : ℕ) (u : Totals) → pass_from lim u (at + n) (repeat c (trace t (lv + 1)) (at + n) (drop n s)) ≡ items c (pass_at t lim (lv + 1)) (at + n) (drop (at + n - at) s) u
    go c n u = let e : n ≡ at + n - at = omega arith in repeat_items t lim (lv + 1) c (at + n) (drop n s) u ∙ ap (λ m. items c (pass_at t lim (lv + 1)) (at + n) (drop m s) u) e

pub pass_bits : (lim : Limits) (lv at : ℕ) (s : List ℕ) (st : Totals) → pass_at bits lim lv at s st ≡ bits_at lim lv at s st (leaf_from (compact w4) at s)
unfolding pass_at trace lanes_at
pass_bits lim lv at s st = go (leaf_from (compact w4) at s)
  where
    inner : (c n : ℕ) (b : Bool) → pass_from lim st at (pick b (step (bits_head lv at c) n ▷ (λ m. lane_trace c at (at + m) (drop m s))) (refused (bit_count_at at)))
        ≡ pick b (passing lim st (bits_head lv at c) (lanes_at lim c at s (at + n))) (pass_none (Err (bit_count_at at)))
    inner c n true =
        let e : n ≡ at + n - at = omega arith in
        pass_step lim st at (bits_head lv at c) n (λ m. lane_trace c at (at + m) (drop m s))
        ∙ ap (λ m. passing lim st (bits_head lv at c) (λ u. pass_from lim u (at + n) (lane_trace c at (at + n) (drop m s)))) e
    inner c n false = unfold pass_from run finished further in refl

    go : (r : Res ℕ) → pass_from lim st at (on r (λ c n. pick (leb c max_bits) (step (bits_head lv at c) n ▷ (λ m. lane_trace c at (at + m) (drop m s))) (refused (bit_count_at at)))) ≡ bits_at lim lv at s st r
    go (got c n) = unfold on bits_at in inner c n (leb c max_bits)
    go (bad y) = unfold on bits_at pass_from run finished further in refl

-- ---- at the front of a message

further_none : (x : Scan) → further 0 x ≡ x
unfolding further
further_none (Ok (u, n)) = let e : 0 + n ≡ n = omega arith in ap (λ k. Ok (u, k)) e
further_none (Err y) = refl

pub pass_front : (t : Ty) (lim : Limits) (s : List ℕ) → ((pass_at t lim 0 0 s start).answer ≡ scan t lim s) × ((pass_at t lim 0 0 s start).cells ≡ scanned t lim s)
unfolding pass_at pass_from scan scanned
pass_front t lim s = (further_none (run lim start (trace t 0 0 s)), refl)
