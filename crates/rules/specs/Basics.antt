-- Small words that the definitions use: a choice by a test, what holds of each element, and sums over a list.
use Rattle.std.specs.Prelude.{Bool, true, false, List, ◌++◌, [], ◌∷◌, ℕ, zero, suc, ◌+◌, max, ◌<◌, length, drop, get_or}

-- the first where the test holds, else the second
abbrev pub pick : {A : Type 0} → Bool → A → A → A
pick true a b = a
pick false a b = b

-- the first for 0, else the second
abbrev pub choose : {A : Type 0} → ℕ → A → A → A
choose zero a b = a
choose (suc n) a b = b

abbrev pub All : {A : Type 0} → (A → Type 0) → List A → Type 0
All P [] = Prim.Unit {0}
All P (x ∷ xs) = P x × All P xs

-- each number is below m
abbrev pub Under : ℕ → List ℕ → Type 0
Under m s = (i : ℕ) → get_or s i 0 < m

-- what is written for each item, one after another
abbrev pub flat : {A : Type 0} → (A → List ℕ) → List A → List ℕ
flat f [] = []
flat f (x ∷ xs) = f x ++ flat f xs

abbrev pub total : {A : Type 0} → (A → ℕ) → List A → ℕ
total f [] = 0
total f (x ∷ xs) = f x + total f xs

abbrev pub highest : {A : Type 0} → (A → ℕ) → List A → ℕ
highest f [] = 0
highest f (x ∷ xs) = max (f x) (highest f xs)

-- a list at the front of another, in place of as many elements there
abbrev pub onto : List ℕ → List ℕ → List ℕ
onto l m = l ++ drop (length l) m
