-- One item under the limits, by the tests that decide it: for the code that passes scalars, heads and units.
use Rattle.std.specs.Prelude.{Bool, ◌≡◌, drop, Option, Some, None, Ok, Err}
use Rattle.std.proofs.Math.Path.{refl, ap}
use Rattle.std.proofs.Common.{◌∙◌, subst, arith, List, [], ◌∷◌, append-nil, ℕ, ◌+◌, ◌-◌, ◌≤◌, ◌<◌, lt-ltb, le-ltb, le-leb}
use Rattle.std.proofs.lemmas.Bool.{lt-leb}
use Rattle.std.proofs.Math.ListN.{length}
use Rattle.rules.specs.Refusals.{Refusal, bit_count_at, depth_at, memory_at, room_at, max_bits}
use Rattle.rules.specs.Basics.{pick}
use Rattle.rules.specs.Types.{w4, compact, Ty, vector, bits}
use Rattle.rules.specs.Bits.{words64, pack}
use Rattle.rules.proofs.Laws.Bits.{length_pack}
use Rattle.rules.specs.Parser.{Res, got, bad}
use Rattle.rules.specs.Wire.{leaf_from, lanes_from}
use Rattle.rules.specs.Totals.{foot}
use Rattle.rules.specs.Trace.{Head, plain, enter, ended, item, on, step, vector_head, bits_head, lane_trace}
use Rattle.rules.specs.Scan.{Limits, Totals, Scan, sat, barred, finish, run, finished}
use Rattle.rules.specs.Scan.Pass.{Pass, further, pass_from, pass_at, pass_none, after, items, unless_barred, passing, plain_pass, entry_pass, headed, lanes_at, bits_at}
use Rattle.rules.proofs.Laws.Scan.Pass.{same_pass, pass_item, pass_vector, pass_bits}
use Rattle.rules.proofs.Laws.Scan.Barred.{barred_none, lets_none}
use Rattle.rules.specs.Scan.Units.{plus_cells}
use Rattle.rules.specs.Scan.Single.{entered, Entering, lanes_done, lanes_pass}

plain_bars : (lim : Limits) (st : Totals) (at : ℕ) (cs : List ℕ) → lim.cells < st.cells + length cs → barred lim st (plain at cs) ≡ Some (room_at at)
unfolding barred
plain_bars lim st at cs h = ap (λ b. pick b (Some (room_at at)) None) (lt-ltb lim.cells (st.cells + length cs) h)

pub plain_stops : (lim : Limits) (st : Totals) (at : ℕ) (cs : List ℕ) (e : ℕ) → lim.cells < st.cells + length cs → plain_pass lim st at cs e ≡ pass_none (Err (room_at at))
unfolding plain_pass unless_barred
plain_stops lim st at cs e h = ap (λ o. unless_barred o cs (pass_none (Ok (finish st (plain at cs), e)))) (plain_bars lim st at cs h)

pub plain_passes : (lim : Limits) (st : Totals) (at : ℕ) (cs : List ℕ) (e : ℕ) → st.cells + length cs ≤ lim.cells
    → plain_pass lim st at cs e ≡ record { answer = Ok (plus_cells st (length cs), e); cells = cs }
unfolding plain_pass unless_barred finish
plain_passes lim st at cs e h =
    ap (λ o. unless_barred o cs (pass_none (Ok (finish st (plain at cs), e)))) (lets_none lim st (plain at cs) h) ∙ same_pass refl (append-nil cs)

module _ (lim : Limits) (st : Totals) (h : Head) (e : ℕ) where
  by_limit_lem : Option Refusal → Pass
  by_limit_lem o = unless_barred o (h.cell ∷ []) (pass_none (Ok (entered st h, e)))

  entry_is : entry_pass lim st h e ≡ by_limit_lem (barred lim st (enter h))
  unfolding entry_pass finish by_limit_lem
  entry_is = refl

  stops : (y : Refusal) → by_limit_lem (Some y) ≡ pass_none (Err y)
  unfolding by_limit_lem unless_barred
  stops y = refl

  pub entry_deep : lim.depth < h.level → entry_pass lim st h e ≡ pass_none (Err (depth_at h.place))
  entry_deep d =
      let o : barred lim st (enter h) ≡ Some (depth_at h.place) = (unfold barred in rw (lt-ltb lim.depth h.level d)) in
      entry_is ∙ ap by_limit_lem o ∙ stops (depth_at h.place)

  pub entry_dear : h.level ≤ lim.depth → lim.memory ≤ sat (st.charge + h.charge) → entry_pass lim st h e ≡ pass_none (Err (memory_at h.place))
  entry_dear d m =
      let o : barred lim st (enter h) ≡ Some (memory_at h.place) = (unfold barred in rw (le-ltb lim.depth h.level d, le-leb lim.memory (sat (st.charge + h.charge)) m)) in
      entry_is ∙ ap by_limit_lem o ∙ stops (memory_at h.place)

  pub entry_full : h.level ≤ lim.depth → sat (st.charge + h.charge) < lim.memory → lim.cells < st.cells + (1 + h.extra)
      → entry_pass lim st h e ≡ pass_none (Err (room_at h.place))
  entry_full d m c =
      let o : barred lim st (enter h) ≡ Some (room_at h.place) =
      (unfold barred in rw (le-ltb lim.depth h.level d, lt-leb lim.memory (sat (st.charge + h.charge)) m, lt-ltb lim.cells (st.cells + (1 + h.extra)) c)) in
      entry_is ∙ ap by_limit_lem o ∙ stops (room_at h.place)

  pub entry_passes : h.level ≤ lim.depth → sat (st.charge + h.charge) < lim.memory → st.cells + (1 + h.extra) ≤ lim.cells
      → entry_pass lim st h e ≡ record { answer = Ok (entered st h, e); cells = h.cell ∷ [] }
  unfolding by_limit_lem unless_barred
  entry_passes d m c = entry_is ∙ ap by_limit_lem (lets_none lim st (enter h) (d, m, c))

-- by whether a limit bars it
EntryTold : (lim : Limits) (st : Totals) (h : Head) (e : ℕ) → Scan → Type 0
EntryTold lim st h e (Ok (u, e')) = Entering lim st h e u e'
EntryTold lim st h e (Err y) = (f : Totals → Pass) → passing lim st (enter h) f ≡ pass_none (Err y)

entry_told : (lim : Limits) (st : Totals) (h : Head) (e : ℕ) → EntryTold lim st h e (entry_pass lim st h e).answer
unfolding entry_pass unless_barred finish EntryTold
entry_told lim st h e = go (barred lim st (enter h)) refl
  where
    over : Option Refusal → (Totals → Pass) → Pass
    over o f = unless_barred o (h.cell ∷ []) (f (entered st h))

    go : (o : Option Refusal) → barred lim st (enter h) ≡ o → EntryTold lim st h e (over o (λ u. pass_none (Ok (u, e)))).answer
    go (Some y) q = λ f. ap (λ o. over o f) q
    go None q = record {
      lets = barred_none lim st (enter h) q;
      totals = refl;
      place = refl;
      cells = ap (λ o. (over o (λ u. pass_none (Ok (u, e)))).cells) q;
      goes = λ f. ap (λ o. over o f) q;
    }

pub entry_stopped : (lim : Limits) (st : Totals) (h : Head) (e : ℕ) (y : Refusal) → (entry_pass lim st h e).answer ≡ Err y
    → (f : Totals → Pass) → passing lim st (enter h) f ≡ pass_none (Err y)
unfolding EntryTold
entry_stopped lim st h e y q = subst (EntryTold lim st h e) q (entry_told lim st h e)

pub entry_done : (lim : Limits) (st : Totals) (h : Head) (e : ℕ) (u : Totals) (e' : ℕ) → (entry_pass lim st h e).answer ≡ Ok (u, e') → Entering lim st h e u e'
unfolding EntryTold
entry_done lim st h e u e' q = subst (EntryTold lim st h e) q (entry_told lim st h e)

pub lanes_pass_lem : (lim : Limits) (n at e : ℕ) (s : List ℕ) (u : Totals) → u.cells + words64 n ≤ lim.cells → lanes_at lim n at s e u ≡ lanes_pass n at e (drop (e - at) s) u
unfolding lanes_at lane_trace lanes_pass lanes_done on
lanes_pass_lem lim n at e s u h = go (lanes_from n at e (drop (e - at) s))
  where
    go : (r : Res (List Bool)) → pass_from lim u e (on r (λ v k. step (plain at (pack 64 (words64 n) v)) k)) ≡ lanes_done n e u r
    go (bad y) = unfold pass_from run finished further in refl
    go (got v j) =
        let cs : List ℕ = pack 64 (words64 n) v in
        let k : length cs ≡ words64 n = length_pack 64 (words64 n) v in
        let p : pass_from lim u e (item (plain at cs) (ended j)) ≡ plain_pass lim u at cs (e + j) =
        pass_item lim u e (plain at cs) (ended j) ∙ (unfold plain_pass pass_from run finished further in refl) in
        p ∙ plain_passes lim u at cs (e + j) (omega arith)
        ∙ ap (λ m. record { answer = Ok (plus_cells u m, e + j); cells = cs }) k

-- ---- a bit vector, by its count

module _ (lim : Limits) (lv at : ℕ) (s : List ℕ) (st : Totals) where
  pub bits_refused : (y : Refusal) → leaf_from (compact w4) at s ≡ bad y → pass_at bits lim lv at s st ≡ pass_none (Err y)
  unfolding bits_at
  bits_refused y e = pass_bits lim lv at s st ∙ ap (bits_at lim lv at s st) e

  pub bits_many : (c n : ℕ) → leaf_from (compact w4) at s ≡ got c n → max_bits < c → pass_at bits lim lv at s st ≡ pass_none (Err (bit_count_at at))
  unfolding bits_at
  bits_many c n e h =
      pass_bits lim lv at s st ∙ ap (bits_at lim lv at s st) e
      ∙ ap (λ b. pick b (passing lim st (bits_head lv at c) (lanes_at lim c at s (at + n))) (pass_none (Err (bit_count_at at)))) (lt-leb c max_bits h)

  pub bits_few : (c n : ℕ) → leaf_from (compact w4) at s ≡ got c n → c ≤ max_bits → pass_at bits lim lv at s st ≡ passing lim st (bits_head lv at c) (lanes_at lim c at s (at + n))
  unfolding bits_at
  bits_few c n e h =
      pass_bits lim lv at s st ∙ ap (bits_at lim lv at s st) e
      ∙ ap (λ b. pick b (passing lim st (bits_head lv at c) (lanes_at lim c at s (at + n))) (pass_none (Err (bit_count_at at)))) (le-leb c max_bits h)

  -- ---- a vector, by its count

  pub vector_refused : (t : Ty) (y : Refusal) → leaf_from (compact w4) at s ≡ bad y → pass_at (vector t) lim lv at s st ≡ pass_none (Err y)
  unfolding headed
  vector_refused t y e = pass_vector t lim lv at s st ∙ ap (λ r. headed lim st at r (vector_head (foot t) lv at) (λ c e u. after (items c (pass_at t lim (lv + 1))) at s u e)) e

  pub vector_counted : (t : Ty) (c n : ℕ) → leaf_from (compact w4) at s ≡ got c n
      → pass_at (vector t) lim lv at s st ≡ passing lim st (vector_head (foot t) lv at c) (λ u. after (items c (pass_at t lim (lv + 1))) at s u (at + n))
  unfolding headed
  vector_counted t c n e = pass_vector t lim lv at s st ∙ ap (λ r. headed lim st at r (vector_head (foot t) lv at) (λ c e u. after (items c (pass_at t lim (lv + 1))) at s u e)) e
