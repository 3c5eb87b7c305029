-- Places are relative: what a reader answers at a place is what it answers at 0, but that a refusal's place is further on by so much. So a leaf or bits can be
-- put with places counted from their own first cell.
use Rattle.std.specs.Prelude.{Bool, true, false, [], ◌∷◌, ◌≡◌, refl, ℕ, ◌+◌, ◌≤◌, ltb, leb, length, take}
use Rattle.std.proofs.Common.{ap, arith, ltb-false}
use Rattle.rules.specs.Basics.{pick}
use Rattle.rules.specs.Bits.{words64, lanes, clear}
use Rattle.rules.specs.Cells.{wide, one, halves, leaf_taken, bits_taken}
use Rattle.rules.specs.Form.{write, parse}
use Rattle.rules.specs.Parser.{Res, got, bad, Parser, map_res, map}
use Rattle.rules.specs.Put.{put, put_leaf}
use Rattle.rules.specs.Refusals.{Refusal, because, bit_count_at, cells_end_at, unfit_at, max_bits}
use Rattle.rules.specs.Types.{Leaf, bits, bound}
use Rattle.rules.specs.Wire.{leaf_bytes, bits_bytes}
use Rattle.rules.specs.Put.Relative.{shifted, Moved, Relative}

module _ {A : Type 0} (at n : ℕ) where
  refused : (y : Refusal) (further : ℕ) → further ≡ at + y.place → y.place ≤ n → Moved {A = A} at n (bad y) (bad (because y.reason further))
  unfolding shifted
  refused y further e h = (ap (λ p. bad (because y.reason p)) e, h)

  taken : (v : A) (k : ℕ) → Moved at n (got v k) (got v k)
  unfolding shifted
  taken v k = (refl, tt)

  picked : (b : Bool) (R R' S S' : Res A) → (b ≡ true → Moved at n R S) → (b ≡ false → Moved at n R' S') → Moved at n (pick b R R') (pick b S S')
  picked true R R' S S' f g = f refl
  picked false R R' S S' f g = g refl

-- ---- the cells of a leaf and of bits

one_relative : (m : ℕ) → Relative (one m)
unfolding one
one_relative m at [] = refused at 0 (cells_end_at 0) at (omega arith) (omega arith)
one_relative m at (c ∷ s) = picked at (length (c ∷ s)) (ltb c m) (got c 1) (bad (unfit_at 0)) (got c 1) (bad (unfit_at at)) (λ _. taken at (length (c ∷ s)) c 1) (λ _. refused at (length (c ∷ s)) (unfit_at 0) at (omega arith) (omega arith))

halves_relative : Relative halves
unfolding halves
halves_relative at [] = refused at 0 (cells_end_at 0) at (omega arith) (omega arith)
halves_relative at (a ∷ []) = refused at 1 (cells_end_at 1) (at + 1) refl (omega arith)
halves_relative at (a ∷ b ∷ s) = taken at (length (a ∷ b ∷ s)) _ 2

leaf_relative : (k : Leaf) → Relative (leaf_taken k)
unfolding leaf_taken
leaf_relative k at s = picked at (length s) (wide k) (halves 0 s) (one (bound k) 0 s) (halves at s) (one (bound k) at s) (λ _. halves_relative at s) (λ _. one_relative (bound k) at s)

bits_relative : Relative bits_taken
unfolding bits_taken
bits_relative at [] = refused at 0 (cells_end_at 0) at (omega arith) (omega arith)
bits_relative at (c ∷ s) =
    let n = length (c ∷ s) in
    picked at n (leb c max_bits) _ _ _ _
    (λ _. picked at n (ltb (length s) (words64 c)) _ _ _ _ (λ _. refused at n (cells_end_at (0 + 1 + length s)) (at + 1 + length s) (omega arith) (omega arith))
    (λ e. picked at n (clear 64 c (take (words64 c) s)) _ _ _ _ (λ _. taken at n (lanes 64 c (take (words64 c) s)) (1 + words64 c))
    (λ _. refused at n (unfit_at (0 + words64 c)) (at + words64 c) (omega arith) (omega (arith, ltb-false (length s) (words64 c) e)))))
    (λ _. refused at n (bit_count_at 0) at (omega arith) (omega arith))

-- ---- and their bytes

map_relative : {A B : Type 0} (f : A → B) (p : Parser A) → Relative p → Relative (map f p)
unfolding map_res shifted
map_relative {A = A} f p h at s = go (p 0 s) (p at s) (h at s)
  where
    go : (R S : Res A) → Moved at (length s) R S → Moved at (length s) (map_res f R) (map_res f S)
    go (got v k) S m = (ap (map_res f) m.0, tt)
    go (bad y) S m = (ap (map_res f) m.0, m.1)

pub put_leaf_relative : (k : Leaf) → Relative (put_leaf k)
put_leaf_relative k = map_relative (leaf_bytes k) (leaf_taken k) (leaf_relative k)

pub put_bits_relative : Relative (put bits)
unfolding put parse write
put_bits_relative = map_relative bits_bytes bits_taken bits_relative
