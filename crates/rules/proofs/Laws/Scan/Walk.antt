-- For the walkers: a tag and what follows it as one pass after another, what a tag that was passed says of the message, and units by the number that stands for them.
use Rattle.std.specs.Prelude.{Bool, true, false, List, ◌++◌, [], ◌∷◌, ℕ, zero, suc, ◌+◌, ◌-◌, ◌*◌, ◌^◌, ◌≤◌, ◌<◌, min, ltb, length, get_or, Option, Some, None, Ok, Err}
use Rattle.std.proofs.Common.{append-nil, ap, ◌∙◌, subst, le_of_eq, le_trans, arith}
use Rattle.std.proofs.Math.Path.{◌≡◌, refl, sym}
use Rattle.std.proofs.Math.Decide.{dec_le}
use Rattle.rules.specs.Refusals.{Refusal, tag_at}
use Rattle.rules.specs.Basics.{pick, choose}
use Rattle.rules.specs.Types.{Leaf, bool, Ty, leaf, result}
use Rattle.rules.specs.Parser.{Res, got, bad}
use Rattle.rules.specs.Wire.{byte_from, leaf_from}
use Rattle.rules.specs.Cells.{leaf_cells}
use Rattle.rules.specs.Trace.{Event, plain}
use Rattle.rules.specs.Scan.{Limits, Totals, Scan, barred, finish, cells_of}
use Rattle.rules.specs.Scan.Pass.{Pass, Passer, pass_at, pass_none, then_from, and_then, after, items, unless_barred, passing, headed, leaf_pass}
use Rattle.rules.proofs.Laws.Scan.Pass.{same_pass, pass_leaf, pass_result}
use Rattle.rules.specs.Scan.Held.{Held}
use Rattle.rules.proofs.Laws.Scan.Held.{pass_held}
use Rattle.rules.specs.Scan.Units.{units_at}
use Rattle.rules.proofs.Laws.Scan.Units.{units_many}

then_passing : (lim : Limits) (st : Totals) (x : Event) (e : ℕ) (f : Totals → ℕ → Pass) → and_then (passing lim st x (λ u. pass_none (Ok (u, e)))) f ≡ passing lim st x (λ u. f u e)
then_passing lim st x e f = go (barred lim st x)
  where
    go : (o : Option Refusal) → and_then (unless_barred o (cells_of x) (pass_none (Ok (finish st x, e)))) f ≡ unless_barred o (cells_of x) (f (finish st x) e)
    go (Some y) = unfold unless_barred then_from in refl
    go None = unfold unless_barred then_from in same_pass refl (ap (λ l. l ++ (f (finish st x) e).cells) (append-nil (cells_of x)))

-- a tag is the message's first byte
pub tag_is : (at : ℕ) (s : List ℕ) (b n : ℕ) → leaf_from bool at s ≡ got b n → (b ≡ get_or s 0 0) × (n ≡ 1) × (1 ≤ length s)
unfolding leaf_from byte_from
tag_is at [] b n e = absurd (let z : ◌≡◌ {A = ℕ} 0 1 = cc in omega arith)
tag_is at (c ∷ s) b n e = go (ltb c 2) e
  where
    go : (x : Bool) → pick x (got c 1) (bad (tag_at at)) ≡ got b n → (b ≡ c) × (n ≡ 1) × (1 ≤ suc (length s))
    go true f =
        let p : c ≡ b = cc in
        let q : 1 ≡ n = cc in
        (sym p, sym q, omega arith)
    go false f = absurd (let z : ◌≡◌ {A = ℕ} 0 1 = cc in omega arith)

-- a Result: its tag, and then what the tag chooses
pub result_then : (t u : Ty) (lim : Limits) (lv at : ℕ) (s : List ℕ) (st : Totals)
    → pass_at (result t u) lim lv at s st ≡ and_then (leaf_pass bool lim at s st) (after (choose (get_or s 0 0) (pass_at t lim lv) (pass_at u lim lv)) at s)
unfolding leaf_pass
result_then t u lim lv at s st = pass_result t u lim lv at s st ∙ go (leaf_from bool at s) refl
  where
    go : (r : Res ℕ) → leaf_from bool at s ≡ r
        → headed lim st at r (λ b. plain at (leaf_cells bool b)) (λ b e x. after (choose b (pass_at t lim lv) (pass_at u lim lv)) at s x e)
        ≡ and_then (headed lim st at r (λ b. plain at (leaf_cells bool b)) (λ b e x. pass_none (Ok (x, e)))) (after (choose (get_or s 0 0) (pass_at t lim lv) (pass_at u lim lv)) at s)
    go (got b n) q = unfold headed in
        (ap (λ c. passing lim st (plain at (leaf_cells bool b)) (λ x. after (choose c (pass_at t lim lv) (pass_at u lim lv)) at s x (at + n))) (tag_is at s b n q).0
        ∙ sym (then_passing lim st (plain at (leaf_cells bool b)) (at + n) (after (choose (get_or s 0 0) (pass_at t lim lv) (pass_at u lim lv)) at s)))
    go (bad y) q = unfold headed then_from in refl

-- a tag that was passed is there
pub tag_there : (lim : Limits) (at : ℕ) (s : List ℕ) (st u : Totals) (e : ℕ) → (leaf_pass bool lim at s st).answer ≡ Ok (u, e) → 1 ≤ length s
unfolding leaf_pass
tag_there lim at s st u e q = go (leaf_from bool at s) refl q
  where
    go : (r : Res ℕ) → leaf_from bool at s ≡ r → (headed lim st at r (λ b. plain at (leaf_cells bool b)) (λ b e x. pass_none (Ok (x, e)))).answer ≡ Ok (u, e) → 1 ≤ length s
    go (got b n) p f = (tag_is at s b n p).2
    go (bad y) p f = absurd (let g : ◌≡◌ {A = Scan} (Err y) (Ok (u, e)) = (unfold headed in f) in let z : ◌≡◌ {A = ℕ} 0 1 = cc in omega arith)

-- the same of a leaf as of any type
pub leaf_held : (k : Leaf) (lim : Limits) (at : ℕ) (s : List ℕ) (st u : Totals) (e : ℕ) → st.cells ≤ lim.cells → (leaf_pass k lim at s st).answer ≡ Ok (u, e)
    → Held lim st at s (leaf_pass k lim at s st).cells u e
leaf_held k lim at s st u e h q =
    let p : pass_at (leaf k) lim 0 at s st ≡ leaf_pass k lim at s st = pass_leaf k lim 0 at s st in
    subst (λ (x : Pass). x.answer ≡ Ok (u, e) → Held lim st at s x.cells u e) p (pass_held (leaf k) lim 0 at s st u e h) q

-- n times the units that a number stands for
pub units_code : (lim : Limits) (st : Totals) (at n m code : ℕ) → lim.cells < 2 ^ 64 → 1 ≤ m → code ≡ min (m - 1) (2 ^ 64 - 1) → units_at lim st at (n * (code + 1)) ≡ units_at lim st at (n * m)
units_code lim st at zero m code c h e = let z : 0 * (code + 1) ≡ 0 * m = omega arith in ap (units_at lim st at) z
units_code lim st at (suc n) m code c h e = go (dec_le m (2 ^ 64))
  where
    go : Dec (m ≤ 2 ^ 64) → units_at lim st at (suc n * (code + 1)) ≡ units_at lim st at (suc n * m)
    go (yes p) = let q : code + 1 ≡ m = omega arith in ap (λ k. units_at lim st at (suc n * k)) q
    go (no p) = let q : code + 1 ≡ 2 ^ 64 = omega arith in
        units_many lim st at (suc n * (code + 1)) (suc n * m) c (le_trans (le_of_eq (sym q)) (times_more n (code + 1))) (le_trans (omega arith) (times_more n m))
      where
        times_more : (n k : ℕ) → k ≤ suc n * k
        times_more n k = omega arith

-- one item is a list of one
pub one_item : (p : Passer) (at : ℕ) (s : List ℕ) (st : Totals) → p at s st ≡ items 1 p at s st
unfolding items
one_item p at s st = go (p at s st).answer (p at s st).cells
  where
    go : (x : Scan) (l : List ℕ) → record { answer = x; cells = l } ≡ then_from x l (λ u e. pass_none (Ok (u, e)))
    go (Ok (u, e)) l = unfold then_from in same_pass refl (sym (append-nil l))
    go (Err y) l = unfold then_from in refl
