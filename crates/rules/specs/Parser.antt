-- Readers of a list of units (bytes, or cells): what stands at the front, and how many units it takes, or a refusal.
-- A reader is told the place of the list's first unit.
pub mod Laws
use Rattle.std.specs.Prelude.{List, [], ◌∷◌, ℕ, zero, suc, ◌+◌, drop}
use Rattle.rules.specs.Refusals.{Refusal}

pub data Res (A : Type 0) : Type 0 where
  got : A → ℕ → Res A
  bad : Refusal → Res A

abbrev pub Parser : Type 0 → Type 0
Parser A = ℕ → List ℕ → Res A

-- n units more were used
unfoldable pub more : {A : Type 0} → ℕ → Res A → Res A
more n (got v m) = got v (n + m)
more n (bad y) = bad y

unfoldable pub next : {A B : Type 0} → Res A → (A → ℕ → Res B) → Res B
next (got v n) f = more n (f v n)
next (bad y) f = bad y

unfoldable pub map_res : {A B : Type 0} → (A → B) → Res A → Res B
map_res g (got v n) = got (g v) n
map_res g (bad y) = bad y

-- a reader, then one that starts where it ended
abbrev pub bind : {A B : Type 0} → Parser A → (A → Parser B) → Parser B
bind p f at s = next (p at s) (λ v n. f v (at + n) (drop n s))

abbrev pub map : {A B : Type 0} → (A → B) → Parser A → Parser B
map g p at s = map_res g (p at s)

-- n items, one after another
unfoldable pub times : {A : Type 0} → ℕ → Parser A → Parser (List A)
times zero p = λ at s. got [] 0
times (suc n) p = bind p (λ v. map (λ vs. v ∷ vs) (times n p))
