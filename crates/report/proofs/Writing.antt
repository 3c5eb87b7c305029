-- Texts put one after another.
use Rattle.std.proofs.Common.{◌≡◌, ℕ, ◌+◌, ◌*◌, ◌≤◌, ◌<◌, List, [], ◌∷◌, ◌++◌, length, take, get_or, refl, ap, sym, ◌∙◌, subst, append_assoc, append-nil, arith, add-zero, add-one, take-suc, length-append, length-take, MutBor}
use Rattle.std.proofs.lemmas.List.Edits.{sets}
use Rattle.rules.specs.Basics.{flat}
use Rattle.rules.proofs.Laws.Places.{sets_join}
use Rattle.report.specs.Text.{spaced, cell_line}
use Rattle.report.specs.Contract.{Contract}
use Rattle.report.specs.Writer.{Adds, ended}
use Rattle.report.specs.declared.Writer.{Writer}
use Rattle.report.proofs.Answers.{cells_length}

-- ---- one text, and another behind it

pub then : {a b : List ℕ} {u v w : Writer} → Adds a u v → Adds b v w → Adds (a ++ b) u w
then {a} {b} {u} {v} p q =
    record {
      ends = omega (arith, p.ends, q.ends, length-append a b);
      holds = q.holds ∙ ap (λ (x : List ℕ). sets x v.end b) p.holds ∙ ap (λ (i : ℕ). sets (sets u.out.now u.end a) i b) p.ends ∙ sets_join a b u.out.now u.end;
      same_memory = q.same_memory ∙ p.same_memory;
    }

pub same_text : {a b : List ℕ} {v w : Writer} → a ≡ b → Adds a v w → Adds b v w
same_text {v = v} {w = w} e p = subst (λ x. Adds x v w) e p

-- the writer is given up, and what it put is what the lent memory holds
pub given_back : {a k : List ℕ} {o : MutBor (List ℕ)} {w : Writer} → Adds a (record { out = o; end = 0 }) w → (o.ghost_name ≡ w.out.ghost_name → k ≡ w.out.now) → Contract a o.now w.end k
given_back p h = record { answers = omega (arith, p.ends); writes = h (sym p.same_memory) ∙ p.holds }

-- ---- numbers behind a space

spaced_out : (t : List ℕ) (n c : ℕ) → (t ++ (32 ∷ [])) ++ ended n c ≡ (t ++ spaced n) ++ (c ∷ [])
spaced_out t n c = append_assoc t (32 ∷ []) (ended n c) ∙ sym (append_assoc t (spaced n) (c ∷ []))

pub then_two : (t : List ℕ) (a b c : ℕ) {u v w : Writer} → Adds (t ++ (32 ∷ [])) u v → Adds (ended a 32 ++ ended b c) v w → Adds (((t ++ spaced a) ++ spaced b) ++ (c ∷ [])) u w
then_two t a b c p q =
    let s = t ++ (32 ∷ []) in
    same_text (sym (append_assoc s (ended a 32) (ended b c)) ∙ ap (λ (x : List ℕ). x ++ ended b c) (spaced_out t a 32) ∙ spaced_out (t ++ spaced a) b c) (then p q)

-- ---- lines, cell by cell

flat_append : {A : Type 0} (f : A → List ℕ) (a b : List A) → flat f (a ++ b) ≡ flat f a ++ flat f b
flat_append f [] b = refl
flat_append f (x ∷ a) b = ap (λ l. f x ++ l) (flat_append f a b) ∙ sym (append_assoc (f x) (flat f a) (flat f b))

-- none
pub no_cells : (v : Writer) → Adds [] v v
no_cells v = record { ends = sym (add-zero v.end); holds = refl; same_memory = refl }

-- one more
pub cell_more : (s : List ℕ) (u v w : Writer) (i : ℕ) → i < length s → Adds (flat cell_line (take i s)) u v → Adds (ended (get_or s i 0) 10) v w
    → Adds (flat cell_line (take (i + 1) s)) u w
unfolding cell_line
cell_more s u v w i h p q =
    let cell : List ℕ = get_or s i 0 ∷ [] in
    let line : ended (get_or s i 0) 10 ≡ flat cell_line cell = sym (append-nil (ended (get_or s i 0) 10)) in
    let next : take i s ++ cell ≡ take (i + 1) s = sym (take-suc s i 0 h) ∙ ap (λ (x : ℕ). take x s) (sym (add-one i)) in
    same_text (sym (flat_append cell_line (take i s) cell) ∙ ap (flat cell_line) next) (then p (same_text line q))

-- where the lines of the first i cells end
pub cells_end : (s : List ℕ) (v w : Writer) (i : ℕ) → i ≤ length s → Adds (flat cell_line (take i s)) v w → w.end ≤ v.end + 21 * i
cells_end s v w i h p = omega (arith, p.ends, cells_length (take i s), length-take i s)
