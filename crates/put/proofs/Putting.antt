-- One part behind another: from what the parts answer and leave to what the whole does.
use Rattle.std.specs.Prelude.{List, ◌++◌, ◌≡◌, refl, ℕ, ◌+◌, length, Ok, Err}
use Rattle.std.proofs.Common.{ap₂, sym, ◌∙◌, arith, length-append}
use Rattle.std.proofs.lemmas.List.Edits.{sets}
use Rattle.rules.specs.Parser.{Res, got, bad, more, next, map_res}
use Rattle.rules.specs.Put.{Put, ahead, put_of}
use Rattle.rules.specs.declared.Refusal.{Refusal}
use Rattle.rules.proofs.Laws.Basics.{same_parts}
use Rattle.rules.proofs.Laws.Places.{sets_join}
use Rattle.put.specs.Written.{PutsAt}

-- the same, for what is equal
pub same_put : {at pos : ℕ} {P Q : Res (List ℕ)} {out m : List ℕ} {r : Put} → P ≡ Q → PutsAt at pos Q out m r → PutsAt at pos P out m r
same_put e h = rw e h

-- a first part that was put, up to cell c and byte e: its value, and what it left
pub record Gone {A : Type 0} (f : A → List ℕ) (at pos : ℕ) (out m : List ℕ) (R : Res A) (c e : ℕ) : Type 0 where
  pub value : A
  pub used : ℕ
  pub is : R ≡ got value used
  pub cell : c ≡ at + used
  pub byte : e ≡ pos + length (f value)
  pub leaves : m ≡ sets out pos (f value)

module _ {A : Type 0} (f : A → List ℕ) {at pos : ℕ} {out m : List ℕ} {r : Put} where
  pub gone : (R : Res A) → PutsAt at pos (map_res f R) out m r → {c e : ℕ} → r ≡ Ok (c, e) → Gone f at pos out m R c e
  unfolding map_res put_of
  gone (got v n) h {c} {e} d =
      let parts = same_parts (sym d ∙ h.answers) in
      record { value = v; used = n; is = refl; cell = parts.0; byte = parts.1; leaves = h.writes }
  gone (bad y) h {c} {e} d = absurd (let k : ◌≡◌ {A = Put} (Err y) (Ok (c, e)) = sym h.answers ∙ d in let z : ◌≡◌ {A = ℕ} 0 1 = cc in omega arith)

  -- a refused part refuses the whole
  pub stops : (q : A → ℕ → Res (List ℕ)) (R : Res A) → PutsAt at pos (map_res f R) out m r → {y : Refusal} {a : Put} → r ≡ Err y → a ≡ Err y → PutsAt at pos (ahead f q R) out m a
  unfolding map_res put_of next
  stops q (got v n) h {y} d e = absurd (let k : ◌≡◌ {A = Put} (Ok (at + n, pos + length (f v))) (Err y) = sym h.answers ∙ d in let z : ◌≡◌ {A = ℕ} 0 1 = cc in omega arith)
  stops q (bad z) h d e = record { answers = e ∙ sym d ∙ h.answers; writes = tt }

module _ {A : Type 0} {f : A → List ℕ} {at pos : ℕ} {out m : List ℕ} {R : Res A} {c e : ℕ} (q : A → ℕ → Res (List ℕ)) (g : Gone f at pos out m R c e) {r : Put} {l : List ℕ} where
  behind : (Q : Res (List ℕ)) → PutsAt c e Q m l r → PutsAt at pos (more g.used (map_res (λ x. f g.value ++ x) Q)) out l r
  unfolding map_res more put_of
  behind (got x k) h =
      let a : c + k ≡ at + (g.used + k) = omega (arith, g.cell) in
      let b : e + length x ≡ pos + length (f g.value ++ x) = omega (arith, g.byte, length-append (f g.value) x) in
      record { answers = h.answers ∙ ap₂ (λ x y. Ok (x, y)) a b; writes = h.writes ∙ ap₂ (λ y i. sets y i x) g.leaves g.byte ∙ sets_join (f g.value) x out pos }
  behind (bad y) h = record { answers = h.answers; writes = tt }

  -- and what follows it puts the rest
  pub follows : PutsAt c e (q g.value g.used) m l r → PutsAt at pos (ahead f q R) out l r
  unfolding next
  follows h = rw g.is (behind (q g.value g.used) h)
