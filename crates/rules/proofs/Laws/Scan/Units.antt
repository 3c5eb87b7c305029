-- Types of footprint 0, which are units and pairs and arrays of them, take no bytes. So what a reader meets there is known from the number of their cells, without a
-- walk: either all of them are passed, or as many as there is room for.
use Rattle.std.specs.Prelude.{List, [], ◌∷◌, ◌≡◌, ℕ, zero, suc, ◌+◌, ◌-◌, ◌*◌, ◌^◌, ◌≤◌, ◌<◌, min, drop, Option, Some, None, Ok, Err}
use Rattle.std.proofs.Math.Path.{refl, ap, sym}
use Rattle.std.proofs.Common.{◌∙◌, subst, add-zero, lt-ltb, le-ltb, arith}
use Rattle.std.proofs.Math.Decide.{dec_le}
use Rattle.std.proofs.lemmas.List.{replicate-append-replicate}
use Rattle.rules.specs.Refusals.{Refusal, room_at}
use Rattle.rules.specs.Basics.{pick}
use Rattle.rules.specs.Types.{Width, w1, w2, w4, w8, w16, Leaf, unit, bool, opt_bool, fixed, compact, float, size, Ty, leaf, nothing, result, pair, array, vector, bits}
use Rattle.rules.specs.Wire.{leaf_from}
use Rattle.rules.specs.Cells.{leaf_cells}
use Rattle.rules.specs.Totals.{leaf_foot, foot, unit_cells}
use Rattle.rules.specs.Trace.{plain}
use Rattle.rules.specs.Scan.{Limits, Totals, barred, finish}
use Rattle.rules.specs.Scan.Pass.{Pass, Passer, pass_at, pass_none, behind, then_from, and_then, after, items, unless_barred, passing, headed, leaf_pass}
use Rattle.rules.proofs.Laws.Scan.Pass.{same_pass, pass_leaf, pass_nothing, pass_pair, pass_array}
use Rattle.rules.proofs.Laws.Scan.Barred.{lets_none}
use Rattle.rules.specs.Scan.Units.{plus_cells, zeros, units_at}

-- all of them pass, or there is no room for the last
pub units_fit : (lim : Limits) (st : Totals) (at m : ℕ) → st.cells + m ≤ lim.cells → units_at lim st at m ≡ record { answer = Ok (plus_cells st m, at); cells = zeros m }
unfolding units_at
units_fit lim st at m h =
    let e : min m (lim.cells - st.cells) ≡ m = omega arith in
    same_pass (ap (λ b. pick b (Err (room_at at)) (Ok (plus_cells st m, at))) (le-ltb lim.cells (st.cells + m) h)) (ap zeros e)

pub units_stop : (lim : Limits) (st : Totals) (at m : ℕ) → lim.cells < st.cells + m → units_at lim st at m ≡ record { answer = Err (room_at at); cells = zeros (lim.cells - st.cells) }
unfolding units_at
units_stop lim st at m h =
    let e : min m (lim.cells - st.cells) ≡ lim.cells - st.cells = omega arith in
    same_pass (ap (λ b. pick b (Err (room_at at)) (Ok (plus_cells st m, at))) (lt-ltb lim.cells (st.cells + m) h)) (ap zeros e)

plus_plus : (st : Totals) (a b : ℕ) → plus_cells (plus_cells st a) b ≡ plus_cells st (a + b)
plus_plus st a b = let e : st.cells + a + b ≡ st.cells + (a + b) = omega arith in ap (λ c. record { depth = st.depth; charge = st.charge; cells = c }) e

-- units, and then units
units_then : (lim : Limits) (st : Totals) (at a b : ℕ) (k : Totals → ℕ → Pass) → st.cells ≤ lim.cells
    → ((u : Totals) → u.cells ≤ lim.cells → k u at ≡ units_at lim u at b) → and_then (units_at lim st at a) k ≡ units_at lim st at (a + b)
units_then lim st at a b k h f = go (dec_le (st.cells + a) lim.cells) (dec_le (st.cells + (a + b)) lim.cells)
  where
    first : st.cells + a ≤ lim.cells → and_then (units_at lim st at a) k ≡ behind (zeros a) (units_at lim (plus_cells st a) at b)
    first p = ap (λ q. and_then q k) (units_fit lim st at a p) ∙ (unfold then_from in ap (behind (zeros a)) (f (plus_cells st a) p))

    go : Dec (st.cells + a ≤ lim.cells) → Dec (st.cells + (a + b) ≤ lim.cells) → and_then (units_at lim st at a) k ≡ units_at lim st at (a + b)
    go (yes p) (yes q) =
        first p ∙ ap (behind (zeros a)) (units_fit lim (plus_cells st a) at b (omega arith))
        ∙ same_pass (ap (λ u. Ok (u, at)) (plus_plus st a b)) (replicate-append-replicate a b 0) ∙ sym (units_fit lim st at (a + b) q)
    go (yes p) (no q) =
        let e : a + (lim.cells - (st.cells + a)) ≡ lim.cells - st.cells = omega arith in
        first p ∙ ap (behind (zeros a)) (units_stop lim (plus_cells st a) at b (omega arith))
        ∙ same_pass refl (replicate-append-replicate a (lim.cells - (st.cells + a)) 0 ∙ ap zeros e) ∙ sym (units_stop lim st at (a + b) (omega arith))
    go (no p) q =
        ap (λ q. and_then q k) (units_stop lim st at a (omega arith)) ∙ (unfold then_from in sym (units_stop lim st at (a + b) (omega arith)))

-- none
pub units_none : (lim : Limits) (st : Totals) (at : ℕ) → st.cells ≤ lim.cells → pass_none (Ok (st, at)) ≡ units_at lim st at 0
units_none lim st at h =
    let e : st.cells ≡ st.cells + 0 = omega arith in
    same_pass (ap (λ c. Ok (record { depth = st.depth; charge = st.charge; cells = c }, at)) e) refl ∙ sym (units_fit lim st at 0 (omega arith))

-- one
one_unit : (lim : Limits) (st : Totals) (at : ℕ) → passing lim st (plain at (0 ∷ [])) (λ u. pass_none (Ok (u, at))) ≡ units_at lim st at 1
unfolding unless_barred finish
one_unit lim st at = go (dec_le (st.cells + 1) lim.cells)
  where
    after_limit : Option Refusal → Pass
    after_limit o = unless_barred o (0 ∷ []) (pass_none (Ok (finish st (plain at (0 ∷ [])), at)))

    go : Dec (st.cells + 1 ≤ lim.cells) → passing lim st (plain at (0 ∷ [])) (λ u. pass_none (Ok (u, at))) ≡ units_at lim st at 1
    go (yes p) = ap after_limit (lets_none lim st (plain at (0 ∷ [])) p) ∙ sym (units_fit lim st at 1 p)
    go (no p) =
        let b : barred lim st (plain at (0 ∷ [])) ≡ Some (room_at at) =
        (unfold barred in ap (λ b. pick b (Some (room_at at)) None) (lt-ltb lim.cells (st.cells + 1) (omega arith))) in
        let z : 0 ≡ lim.cells - st.cells = omega arith in
        ap after_limit b ∙ same_pass refl (ap zeros z) ∙ sym (units_stop lim st at 1 (omega arith))

units_one : (lim : Limits) (lv at : ℕ) (s : List ℕ) (st : Totals) → pass_at (leaf unit) lim lv at s st ≡ units_at lim st at 1
unfolding leaf_pass leaf_from headed leaf_cells
units_one lim lv at s st =
    pass_leaf unit lim lv at s st ∙ ap (λ e. passing lim st (plain at (0 ∷ [])) (λ u. pass_none (Ok (u, e)))) (add-zero at) ∙ one_unit lim st at

size_pos : (w : Width) → size w ≡ 0 → ⊥
size_pos w1 e = omega arith
size_pos w2 e = omega arith
size_pos w4 e = omega arith
size_pos w8 e = omega arith
size_pos w16 e = omega arith

leaf_pos : (k : Leaf) → leaf_foot k ≡ 0 → k ≡ unit
leaf_pos unit e = refl
leaf_pos bool e = absurd (omega arith)
leaf_pos opt_bool e = absurd (omega arith)
leaf_pos (fixed w) e = absurd (size_pos w e)
leaf_pos (compact w) e = absurd (size_pos w e)
leaf_pos (float w) e = absurd (size_pos w e)

-- n items, each of m units
units_items : (lim : Limits) (p : Passer) (m : ℕ) → ((at : ℕ) (s : List ℕ) (st : Totals) → st.cells ≤ lim.cells → p at s st ≡ units_at lim st at m)
    → (n at : ℕ) (s : List ℕ) (st : Totals) → st.cells ≤ lim.cells → items n p at s st ≡ units_at lim st at (n * m)
unfolding items
units_items lim p m f zero at s st h = let e : 0 ≡ 0 * m = omega arith in units_none lim st at h ∙ ap (units_at lim st at) e
units_items lim p m f (suc n) at s st h =
    let e : m + n * m ≡ suc n * m = omega arith in
    ap (λ q. and_then q (after (items n p) at s)) (f at s st h)
    ∙ units_then lim st at m (n * m) (after (items n p) at s) h (λ u l. units_items lim p m f n at (drop (at - at) s) u l)
    ∙ ap (units_at lim st at) e

-- THE LAW: what is met in a type of footprint 0
pub pass_units : (t : Ty) → foot t ≡ 0 → (lim : Limits) (lv at : ℕ) (s : List ℕ) (st : Totals) → st.cells ≤ lim.cells → pass_at t lim lv at s st ≡ units_at lim st at (unit_cells t)
unfolding foot unit_cells items
pass_units (leaf k) z lim lv at s st h = subst (λ x. pass_at (leaf x) lim lv at s st ≡ units_at lim st at 1) (sym (leaf_pos k z)) (units_one lim lv at s st)
pass_units nothing z lim lv at s st h = pass_nothing lim lv at s st ∙ units_none lim st at h
pass_units (result t u) z lim lv at s st h = absurd (omega arith)
pass_units (pair t u) z lim lv at s st h =
    pass_pair t u lim lv at s st
    ∙ ap (λ q. and_then q (after (pass_at u lim lv) at s)) (pass_units t (omega arith) lim lv at s st h)
    ∙ units_then lim st at (unit_cells t) (unit_cells u) (after (pass_at u lim lv) at s) h (λ x l. pass_units u (omega arith) lim lv at (drop (at - at) s) x l)
pass_units (array zero t) z lim lv at s st h =
    let e : 0 ≡ 0 * unit_cells t = omega arith in
    pass_array 0 t lim lv at s st ∙ units_none lim st at h ∙ ap (units_at lim st at) e
pass_units (array (suc n) t) z lim lv at s st h =
    let f : foot t ≡ 0 = mul_zero_right n (foot t) z in
    pass_array (suc n) t lim lv at s st ∙ units_items lim (pass_at t lim lv) (unit_cells t) (λ a l x g. pass_units t f lim lv a l x g) (suc n) at s st h
  where
    mul_zero_right : (n m : ℕ) → suc n * m ≡ 0 → m ≡ 0
    mul_zero_right n m e = omega arith
pass_units (vector t) z lim lv at s st h = absurd (omega arith)
pass_units bits z lim lv at s st h = absurd (omega arith)

-- c items of it
pub items_units : (t : Ty) → foot t ≡ 0 → (lim : Limits) (lv c at : ℕ) (s : List ℕ) (st : Totals) → st.cells ≤ lim.cells
    → items c (pass_at t lim lv) at s st ≡ units_at lim st at (c * unit_cells t)
items_units t z lim lv c at s st h = units_items lim (pass_at t lim lv) (unit_cells t) (λ a l x g. pass_units t z lim lv a l x g) c at s st h

-- more than 2^64 - 1 units never pass, however many they are
pub units_many : (lim : Limits) (st : Totals) (at m n : ℕ) → lim.cells < 2 ^ 64 → 2 ^ 64 ≤ m → 2 ^ 64 ≤ n → units_at lim st at m ≡ units_at lim st at n
units_many lim st at m n c h g = units_stop lim st at m (omega arith) ∙ sym (units_stop lim st at n (omega arith))
