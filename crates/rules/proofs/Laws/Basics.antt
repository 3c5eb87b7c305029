-- Small words that the definitions use: a choice by a test, what holds of each element, and sums over a list.
use Rattle.std.specs.Prelude.{◌≡◌, Result, Ok, Err, IsErrAnd}
use Rattle.std.proofs.Common.{sym, ap, ◌∙◌}

-- a contract of the form `r ≡ x` allows one answer
pub one_answer : {A : Type 0} (x r r' : A) → r ≡ x → r' ≡ x → r ≡ r'
one_answer x r r' e f = e ∙ sym f

-- two answers of a pair that are the same have the same parts
pub same_parts : {A B E : Type 0} {a a' : A} {b b' : B} → ◌≡◌ {A = Result (A × B) E} (Ok (a, b)) (Ok (a', b')) → (a ≡ a') × (b ≡ b')
same_parts {A} {B} {E} {a} {a'} {b} {b'} e = let q : ◌≡◌ {A = A × B} (a, b) (a', b') = cc in (ap (λ (p : A × B). p.0) q, ap (λ (p : A × B). p.1) q)

-- what the exit of a `?` answers is the error that came
pub handed_on : {T E : Type 0} (r : Result T E) (e : E) → IsErrAnd r (λ y. y ≡ e) → r ≡ Err e
handed_on (Ok x) e h = absurd h
handed_on (Err y) e h = ap Err h
