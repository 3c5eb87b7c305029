-- What the readers of bytes use is there, whatever the message holds.
use Rattle.std.specs.Prelude.{Bool, true, false, List, [], ◌∷◌, ◌≡◌, ℕ, zero, suc, ◌≤◌, ltb, leb, length, take}
use Rattle.std.proofs.Common.{inl, inr, arith}
use Rattle.rules.specs.Refusals.{Refusal, tag_at, bit_count_at, max_bits}
use Rattle.rules.specs.Basics.{pick, choose}
use Rattle.rules.specs.Types.{w4, Leaf, unit, bool, opt_bool, fixed, compact, float, size, Ty, leaf, nothing, result, pair, array, vector, bits}
use Rattle.rules.specs.Bytes.{le_value}
use Rattle.rules.specs.Compact.{compact_from}
use Rattle.rules.proofs.Laws.Compact.Law.{compact_took}
use Rattle.rules.specs.Parser.{got, bad, Parser, map, times}
use Rattle.rules.specs.Parser.Laws.{Inside}
use Rattle.rules.proofs.Laws.Parser.{inside_map, inside_bind, inside_times}
use Rattle.rules.specs.Form.{parse}
use Rattle.rules.specs.Wire.{byte_from, whole, number_from, leaf_from, lanes_from, bits_body, bits_from, read}
use Rattle.rules.proofs.Laws.Wire.{placed_says, whole_got, lanes_got}

byte_inside : (m : ℕ) → Inside (byte_from m)
unfolding byte_from
byte_inside m at [] v n e = absurd (let z : ◌≡◌ {A = ℕ} 0 1 = cc in omega arith)
byte_inside m at (b ∷ s) v n e = go (ltb b m) e
  where
    go : (x : Bool) → pick x (got b 1) (bad (tag_at at)) ≡ got v n → n ≤ suc (length s)
    go true f = let a : 1 ≡ n = cc in omega arith
    go false f = absurd (let z : ◌≡◌ {A = ℕ} 0 1 = cc in omega arith)

whole_inside : {A : Type 0} (k : ℕ) (f : List ℕ → A) (y : Refusal) (s : List ℕ) (v : A) (n : ℕ) → whole k y s (λ l. got (f l) k) ≡ got v n → n ≤ length s
whole_inside k f y s v n e =
    let w = whole_got k y s (λ l. got (f l) k) v n e in
    let g : got (f (take k s)) k ≡ got v n = w.1 in
    let a : k ≡ n = cc in
    omega (arith, w.0)

pub leaf_used : (k : Leaf) → Inside (leaf_from k)
unfolding leaf_from number_from
leaf_used unit at s v n e = let a : 0 ≡ n = cc in omega arith
leaf_used bool at s v n e = byte_inside 2 at s v n e
leaf_used opt_bool at s v n e = byte_inside 3 at s v n e
leaf_used (fixed w) at s v n e = whole_inside (size w) le_value _ s v n e
leaf_used (compact w) at s v n e = (compact_took (size w) v n s (placed_says at (compact_from (size w) s) v n e)).1
leaf_used (float w) at s v n e = whole_inside (size w) le_value _ s v n e

pub lanes_used : (c at : ℕ) → Inside (lanes_from c at)
lanes_used c at from s v n e = let r = lanes_got c at from s v n e in omega (arith, r.there, r.used)

bits_used : Inside bits_from
unfolding bits_from bits_body
bits_used at s v n e = inside_bind (leaf_from (compact w4)) (λ c. bits_body c at) (leaf_used (compact w4)) (λ c a l x m f. go c a (leb c max_bits) l x m f) at s v n e
  where
    go : (c a : ℕ) (b : Bool) (l : List ℕ) (x : List Bool) (m : ℕ) → pick b (lanes_from c at a l) (bad (bit_count_at at)) ≡ got x m → m ≤ length l
    go c a true l x m f = lanes_used c at a l x m f
    go c a false l x m f = absurd (let z : ◌≡◌ {A = ℕ} 0 1 = cc in omega arith)

inside_choose : {A : Type 0} (p q : Parser A) → Inside p → Inside q → (b : ℕ) → Inside (choose b p q)
inside_choose p q h g zero = h
inside_choose p q h g (suc b) = g

pub read_used : (t : Ty) → Inside (read t)
unfolding parse
read_used (leaf k) = leaf_used k
read_used nothing = λ at s v n e. let a : 0 ≡ n = cc in omega arith
read_used (result t u) =
    inside_bind (leaf_from bool) (λ b. choose b (map inl (read t)) (map inr (read u))) (leaf_used bool)
    (inside_choose (map inl (read t)) (map inr (read u)) (inside_map (read t) inl (read_used t)) (inside_map (read u) inr (read_used u)))
read_used (pair t u) = inside_bind (read t) (λ v. map (λ w. (v, w)) (read u)) (read_used t) (λ v. inside_map (read u) (λ w. (v, w)) (read_used u))
read_used (array n t) = inside_times (read t) (read_used t) n
read_used (vector t) = inside_bind (leaf_from (compact w4)) (λ n. times n (read t)) (leaf_used (compact w4)) (λ n. inside_times (read t) (read_used t) n)
read_used bits = bits_used
