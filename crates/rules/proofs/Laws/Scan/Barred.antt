-- When a limit bars an item: exactly if the item does not keep within D, M and C. Larger limits bar less.
use Rattle.std.specs.Prelude.{Bool, true, false, ◌≡◌, refl, ℕ, ◌+◌, ltb, leb, length, Option, Some, None}
use Rattle.std.proofs.Common.{inl, inr, ap, subst, arith, ltb-true, ltb-false, leb-true, leb-false, lt-ltb, le-ltb, le-leb}
use Rattle.std.proofs.lemmas.Bool.{lt-leb}
use Rattle.rules.specs.Refusals.{Refusal, depth_at, memory_at, room_at, number_of}
use Rattle.rules.specs.Basics.{pick}
use Rattle.rules.specs.Trace.{Event, plain, enter}
use Rattle.rules.specs.Scan.{Limits, Totals, sat, barred}
use Rattle.rules.specs.Scan.Barred.{Limit, Lets, Bars, Told, Wider}

barred_told : (lim : Limits) (st : Totals) (e : Event) → Told lim st e (barred lim st e)
unfolding barred
barred_told lim st (plain p cs) = go (ltb lim.cells (st.cells + length cs)) refl
  where
    go : (b : Bool) → ltb lim.cells (st.cells + length cs) ≡ b → Told lim st (plain p cs) (pick b (Some (room_at p)) None)
    go true q = (ltb-true lim.cells (st.cells + length cs) q, refl)
    go false q = ltb-false lim.cells (st.cells + length cs) q
barred_told lim st (enter h) = go (ltb lim.depth h.level) refl (leb lim.memory c) refl (ltb lim.cells r) refl
  where
    c : ℕ
    c = sat (st.charge + h.charge)

    r : ℕ
    r = st.cells + (1 + h.extra)

    go : (a : Bool) → ltb lim.depth h.level ≡ a → (b : Bool) → leb lim.memory c ≡ b → (d : Bool) → ltb lim.cells r ≡ d
        → Told lim st (enter h) (pick a (Some (depth_at h.place)) (pick b (Some (memory_at h.place)) (pick d (Some (room_at h.place)) None)))
    go true p b q d x = inl (ltb-true lim.depth h.level p, refl)
    go false p true q d x = inr (inl (ltb-false lim.depth h.level p, leb-true lim.memory c q, refl))
    go false p false q true x = inr (inr (ltb-false lim.depth h.level p, leb-false lim.memory c q, ltb-true lim.cells r x, refl))
    go false p false q false x = (ltb-false lim.depth h.level p, leb-false lim.memory c q, ltb-false lim.cells r x)

bars_limit : (lim : Limits) (st : Totals) (e : Event) (y : Refusal) → Bars lim st e y → Limit y × (Lets lim st e → ⊥)
bars_limit lim st (plain p cs) y b = (inr (inr (ap (λ (z : Refusal). number_of z.reason) b.1)), λ l. omega (arith, b.0))
bars_limit lim st (enter h) y (inl b) = (inl (ap (λ (z : Refusal). number_of z.reason) b.1), λ l. omega (arith, l.0, b.0))
bars_limit lim st (enter h) y (inr (inl b)) = (inr (inl (ap (λ (z : Refusal). number_of z.reason) b.2)), λ l. omega (arith, l.1, b.1))
bars_limit lim st (enter h) y (inr (inr b)) = (inr (inr (ap (λ (z : Refusal). number_of z.reason) b.3)), λ l. omega (arith, l.2, b.2))

-- a barred item, and one that is let pass
pub barred_by : (lim : Limits) (st : Totals) (e : Event) (y : Refusal) → barred lim st e ≡ Some y → Bars lim st e y
barred_by lim st e y q = subst (Told lim st e) q (barred_told lim st e)

pub bars_some : (lim : Limits) (st : Totals) (e : Event) (y : Refusal) → Bars lim st e y → barred lim st e ≡ Some y
unfolding barred
bars_some lim st (plain p cs) y b = rw (lt-ltb lim.cells (st.cells + length cs) b.0, b.1)
bars_some lim st (enter h) y (inl b) = rw (lt-ltb lim.depth h.level b.0, b.1)
bars_some lim st (enter h) y (inr (inl b)) = rw (le-ltb lim.depth h.level b.0, le-leb lim.memory (sat (st.charge + h.charge)) b.1, b.2)
bars_some lim st (enter h) y (inr (inr b)) =
    rw (le-ltb lim.depth h.level b.0, lt-leb lim.memory (sat (st.charge + h.charge)) b.1, lt-ltb lim.cells (st.cells + (1 + h.extra)) b.2, b.3)

pub barred_some : (lim : Limits) (st : Totals) (e : Event) (y : Refusal) → barred lim st e ≡ Some y → Limit y × (Lets lim st e → ⊥)
barred_some lim st e y q = bars_limit lim st e y (barred_by lim st e y q)

pub barred_none : (lim : Limits) (st : Totals) (e : Event) → barred lim st e ≡ None → Lets lim st e
barred_none lim st e q = subst (Told lim st e) q (barred_told lim st e)

pub lets_none : (lim : Limits) (st : Totals) (e : Event) → Lets lim st e → barred lim st e ≡ None
lets_none lim st e l = go (barred lim st e) refl
  where
    go : (o : Option Refusal) → barred lim st e ≡ o → o ≡ None
    go None q = refl
    go (Some y) q = absurd ((barred_some lim st e y q).1 l)

pub lets_wider : (lim lim' : Limits) → Wider lim lim' → (st : Totals) (e : Event) → Lets lim st e → Lets lim' st e
lets_wider lim lim' w st (plain p cs) l = omega (arith, w.rooms)
lets_wider lim lim' w st (enter h) l = (omega (arith, l.0, w.depths), omega (arith, l.1, w.memories), omega (arith, l.2, w.rooms))
