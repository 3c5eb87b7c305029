-- Cells that are stored one after another, and how many items go into a room.
use Rattle.std.specs.Prelude.{List, ◌++◌, ◌∷◌, ◌≡◌, refl, ℕ, zero, suc, ◌+◌, ◌-◌, ◌*◌, ◌/◌, ◌≤◌, ◌<◌, min, length, drop, take, Err}
use Rattle.std.proofs.Common.{ap, sym, ◌∙◌, arith, le-div_iff_mul-le, div-lt_iff_lt-mul, div-le_self, add-one, drop_of_length-le, set, get_or}
use Rattle.std.proofs.lemmas.List.{length-replicate, drop_more}
use Rattle.std.proofs.lemmas.List.Edits.{sets}
use Rattle.rules.proofs.Laws.Places.{part_set}
use Rattle.rules.specs.Refusals.{room_at}
use Rattle.rules.specs.Scan.Pass.{pass_none}
use Rattle.rules.specs.Scan.Units.{zeros, units_at}
use Rattle.rules.proofs.Laws.Scan.Units.{units_stop}
use Rattle.rules.specs.declared.Limits.{Limits}
use Rattle.rules.specs.declared.Totals.{Totals}

-- n items of m cells, where so many go into the room, and where they don't
pub room_holds : (n m room : ℕ) → (n ≡ 0 → ⊥) → m < room / n → n * (m + 1) ≤ room
room_holds n m room z h =
    let p : 0 < n = omega arith in
    let e : (m + 1) * n ≤ room = (le-div_iff_mul-le p).0 (omega arith) in
    omega arith

pub room_one : (n m room : ℕ) → m < room / n → m + 1 ≤ room
room_one n m room h = omega (arith, div-le_self room n)

pub room_ends : (n m room : ℕ) → (n ≡ 0 → ⊥) → room / n ≤ m → room < n * (m + 1)
room_ends n m room z h =
    let p : 0 < n = omega arith in
    let e : room < (m + 1) * n = (div-lt_iff_lt-mul p).0 (omega arith) in
    omega arith

-- the cells left, once the next one is stored, and where none is left
pub stored_next : (i k : ℕ) (l new : List ℕ) → k < length new → sets (set l i (get_or new k 0)) (i + 1) (drop (k + 1) new) ≡ sets l i (drop k new)
stored_next i k l new h = rw (drop_more new k 0 h, add-one i) refl

pub stored_all : (i k : ℕ) (l new : List ℕ) → length new ≤ k → sets l i (drop k new) ≡ l
stored_all i k l new h = rw (drop_of_length-le new {i = k} h) refl

-- zeros that were filled in: j is the place, or the end, and k is how many go in
pub zeros_filled : (n i j k : ℕ) (l : List ℕ) → j ≡ min i (length l) → k ≡ min n (length l - j) → take j l ++ (zeros k ++ drop k (drop j l)) ≡ sets l i (zeros n)
zeros_filled n i j k l ej ek =
    let z : take k (zeros n) ≡ zeros k = take_zeros k n (omega arith) in
    ap (λ m. take j l ++ (m ++ drop k (drop j l))) (sym z) ∙ part_set (zeros n) l i j k ej (ek ∙ ap (λ x. min x (length l - j)) (sym (length-replicate n 0)))
  where
    take_zeros : (k n : ℕ) → k ≤ n → take k (zeros n) ≡ zeros k
    take_zeros zero n h = refl
    take_zeros (suc k) zero h = absurd (omega arith)
    take_zeros (suc k) (suc n) h = ap (λ m. 0 ∷ m) (take_zeros k n (omega arith))

-- units where the room is used up already
pub units_full : (lim : Limits) (st : Totals) (at m : ℕ) → lim.cells < st.cells → units_at lim st at m ≡ pass_none (Err (room_at at))
units_full lim st at m h =
    let none : lim.cells - st.cells ≡ 0 = omega arith in
    units_stop lim st at m (omega arith) ∙ ap (λ n. record { answer = Err (room_at at); cells = zeros n }) none
