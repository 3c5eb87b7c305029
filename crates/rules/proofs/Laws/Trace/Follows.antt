-- A type's trace follows its reader: it ends where the reader does, and adds up to the value's nesting, charge, vectors and cells.
use Rattle.std.specs.Prelude.{Bool, false, List, ◌∷◌, ◌≡◌, ℕ, zero, suc, ◌+◌, ◌<◌, leb, length, drop}
use Rattle.std.proofs.Math.Bool.{true}
use Rattle.std.proofs.Common.{inl, inr, sym, ◌∙◌, arith}
use Rattle.std.proofs.Math.Path.{refl, ap}
use Rattle.rules.specs.Refusals.{bit_count_at, max_bits}
use Rattle.rules.specs.Basics.{pick, choose}
use Rattle.rules.specs.Types.{w4, Leaf, bool, compact, Ty, leaf, nothing, result, pair, array, vector, bits, Val}
use Rattle.rules.specs.Bits.{words64, pack}
use Rattle.rules.proofs.Laws.Bits.{length_pack}
use Rattle.rules.specs.Parser.{Res, got, bad, more, next, map_res, map, times}
use Rattle.rules.proofs.Laws.Parser.{times_length}
use Rattle.rules.specs.Form.{write, parse}
use Rattle.rules.specs.Wire.{leaf_from, lanes_from, bits_body, bits_from, read}
use Rattle.rules.proofs.Laws.Wire.{tag_lt, lanes_length}
use Rattle.rules.specs.Cells.{leaf_cells, bits_cells}
use Rattle.rules.specs.Totals.{foot, charge, vectors}
use Rattle.rules.specs.Trace.{Event, plain, refused, ◌▷◌, repeat, on, step, vector_head, bits_head, lane_trace, trace}
use Rattle.rules.specs.Trace.Sums.{Sums, ◌⊕◌, of, sums, ending, Traces}
use Rattle.rules.proofs.Laws.Trace.Sums.{same_sums, sums_assoc, chain, traces_map, traces_same, traces_step, traces_leaf, traces_on}
use Rattle.rules.specs.Trace.Follows.{reach, sums_of, sums_all, Along}

all_along : (t : Ty) (lv : ℕ) → Along t lv → (n at : ℕ) (s : List ℕ) (z : Sums) → Traces z (repeat n (trace t lv) at s) (times n (read t) at s) (λ v. z ⊕ sums_all t lv v)
unfolding repeat times
all_along t lv h zero at s z = unfold Traces sums ending in (refl, refl)
all_along t lv h (suc n) at s z =
    chain z (trace t lv at s) (read t at s) (λ m. repeat n (trace t lv) (at + m) (drop m s)) (λ v m. map_res (λ vs. v ∷ vs) (times n (read t) (at + m) (drop m s)))
    (λ v. z ⊕ sums_of t lv v) (λ v. z ⊕ sums_all t lv v) (h at s z)
    (λ v m e. traces_map (z ⊕ sums_of t lv v) (repeat n (trace t lv) (at + m) (drop m s)) (times n (read t) (at + m) (drop m s)) (λ vs. v ∷ vs)
    (λ vs. z ⊕ sums_of t lv v ⊕ sums_all t lv vs) (λ vs. z ⊕ sums_all t lv vs) (all_along t lv h n (at + m) (drop m s) (z ⊕ sums_of t lv v))
    (λ vs. sums_assoc z (sums_of t lv v) (sums_all t lv vs) ∙ ap (λ x. z ⊕ x) (same_sums refl refl refl (omega arith) refl)))

-- a bit vector's bytes
lane_along : (c at from : ℕ) (l : List ℕ) (z : Sums) → Traces z (lane_trace c at from l) (lanes_from c at from l) (λ v. z ⊕ of (plain at (pack 64 (words64 c) v)))
unfolding lane_trace
lane_along c at from l z = traces_leaf z (lanes_from c at from l) (λ v. plain at (pack 64 (words64 c) v))

bits_sums : (lv at c : ℕ) (v : List Bool) → length v ≡ c
    → of (bits_head lv at c) ⊕ of (plain at (pack 64 (words64 c) v)) ≡ sums_of bits lv v
unfolding reach charge vectors write bits_cells leaf_cells
bits_sums lv at c v e =
    ap (λ x. of (bits_head lv at x) ⊕ of (plain at (pack 64 (words64 x) v))) (sym e)
    ∙ same_sums (omega arith) (omega arith) refl (omega (arith, length_pack 64 (words64 (length v)) v)) refl

bits_along : (lv at : ℕ) (s : List ℕ) (z : Sums) (r : Res ℕ)
    → Traces z
    (on r (λ c n. pick (leb c max_bits) (step (bits_head lv at c) n ▷ (λ m. lane_trace c at (at + m) (drop m s))) (refused (bit_count_at at))))
    (next r (λ c n. bits_body c at (at + n) (drop n s))) (λ v. z ⊕ sums_of bits lv v)
unfolding on next bits_body
bits_along lv at s z (bad y) = unfold Traces ending in refl
bits_along lv at s z (got c n) = go (leb c max_bits)
  where
    body : ℕ → Res (List Bool)
    body m = lanes_from c at (at + m) (drop m s)

    e : Event
    e = bits_head lv at c

    go : (b : Bool) → Traces z (pick b (step e n ▷ (λ m. lane_trace c at (at + m) (drop m s))) (refused (bit_count_at at))) (more n (pick b (body n) (bad (bit_count_at at)))) (λ v. z ⊕ sums_of bits lv v)
    go false = unfold Traces ending more in refl
    go true = chain z (step e n) (got c n) (λ m. lane_trace c at (at + m) (drop m s)) (λ x m. body m) (λ x. z ⊕ of e) (λ v. z ⊕ sums_of bits lv v) (traces_step z e n c)
        (λ x m q. traces_same (z ⊕ of e) (lane_trace c at (at + m) (drop m s)) (body m) (λ v. z ⊕ of e ⊕ of (plain at (pack 64 (words64 c) v))) (λ v. z ⊕ sums_of bits lv v)
        (lane_along c at (at + m) (drop m s) (z ⊕ of e))
        (λ v k f. sums_assoc z (of e) (of (plain at (pack 64 (words64 c) v))) ∙ ap (λ y. z ⊕ y) (bits_sums lv at c v (lanes_length c at (at + m) (drop m s) v k f))))

leaf_along : (k : Leaf) (lv : ℕ) → Along (leaf k) lv
unfolding trace parse reach charge vectors write
leaf_along k lv at s z = traces_leaf z (leaf_from k at s) (λ v. plain at (leaf_cells k v))

left_sums : (t u : Ty) (lv at : ℕ) (v : Val t) → of (plain at (leaf_cells bool 0)) ⊕ sums_of t lv v ≡ sums_of (result t u) lv (inl v)
unfolding reach charge vectors write
left_sums t u lv at v = same_sums (omega arith) (omega arith) (omega arith) (omega arith) refl

right_sums : (t u : Ty) (lv at : ℕ) (v : Val u) → of (plain at (leaf_cells bool 1)) ⊕ sums_of u lv v ≡ sums_of (result t u) lv (inr v)
unfolding reach charge vectors write
right_sums t u lv at v = same_sums (omega arith) (omega arith) (omega arith) (omega arith) refl

result_along : (t u : Ty) (lv : ℕ) → Along t lv → Along u lv → Along (result t u) lv
unfolding trace parse
result_along t u lv f g at s z =
    traces_on z (leaf_from bool at s) (λ b. plain at (leaf_cells bool b)) (λ b m. choose b (trace t lv) (trace u lv) (at + m) (drop m s)) _ (λ v. z ⊕ sums_of (result t u) lv v) go
  where
    tag : ℕ → Sums
    tag b = z ⊕ of (plain at (leaf_cells bool b))

    go : (b n : ℕ) → leaf_from bool at s ≡ got b n → Traces (z ⊕ of (plain at (leaf_cells bool b))) (choose b (trace t lv) (trace u lv) (at + n) (drop n s))
        (choose b (map inl (read t)) (map inr (read u)) (at + n) (drop n s)) (λ v. z ⊕ sums_of (result t u) lv v)
    go zero n e = traces_map (tag 0) (trace t lv (at + n) (drop n s)) (read t (at + n) (drop n s)) inl
        (λ v. tag 0 ⊕ sums_of t lv v) (λ v. z ⊕ sums_of (result t u) lv v) (f (at + n) (drop n s) (tag 0))
        (λ v. sums_assoc z (of (plain at (leaf_cells bool 0))) (sums_of t lv v) ∙ ap (λ x. z ⊕ x) (left_sums t u lv at v))
    go (suc zero) n e = traces_map (tag 1) (trace u lv (at + n) (drop n s)) (read u (at + n) (drop n s)) inr
        (λ v. tag 1 ⊕ sums_of u lv v) (λ v. z ⊕ sums_of (result t u) lv v) (g (at + n) (drop n s) (tag 1))
        (λ v. sums_assoc z (of (plain at (leaf_cells bool 1))) (sums_of u lv v) ∙ ap (λ x. z ⊕ x) (right_sums t u lv at v))
    go (suc (suc b)) n e = let l : suc (suc b) < 2 = tag_lt at s (suc (suc b)) n e in absurd (omega arith)

pair_along : (t u : Ty) (lv : ℕ) → Along t lv → Along u lv → Along (pair t u) lv
unfolding trace parse reach charge vectors write
pair_along t u lv f g at s z =
    chain z (trace t lv at s) (read t at s) (λ m. trace u lv (at + m) (drop m s)) (λ v m. map_res (λ w. (v, w)) (read u (at + m) (drop m s)))
    (λ v. z ⊕ sums_of t lv v) (λ v. z ⊕ sums_of (pair t u) lv v) (f at s z)
    (λ v m e. traces_map (z ⊕ sums_of t lv v) (trace u lv (at + m) (drop m s)) (read u (at + m) (drop m s)) (λ w. (v, w))
    (λ w. z ⊕ sums_of t lv v ⊕ sums_of u lv w) (λ w. z ⊕ sums_of (pair t u) lv w) (g (at + m) (drop m s) (z ⊕ sums_of t lv v))
    (λ w. sums_assoc z (sums_of t lv v) (sums_of u lv w) ∙ ap (λ x. z ⊕ x) (same_sums refl refl refl (omega arith) refl)))

array_along : (n : ℕ) (t : Ty) (lv : ℕ) → Along t lv → Along (array n t) lv
unfolding trace parse reach charge vectors write
array_along n t lv f at s z = all_along t lv f n at s z

vector_along : (t : Ty) (lv : ℕ) → Along t (lv + 1) → Along (vector t) lv
unfolding trace parse
vector_along t lv f at s z =
    traces_on z (leaf_from (compact w4) at s) (λ c. vector_head (foot t) lv at c) (λ c m. repeat c (trace t (lv + 1)) (at + m) (drop m s)) _ (λ v. z ⊕ sums_of (vector t) lv v)
    (λ c n b. traces_same (z ⊕ of (vector_head (foot t) lv at c)) (repeat c (trace t (lv + 1)) (at + n) (drop n s)) (times c (read t) (at + n) (drop n s))
    (λ v. z ⊕ of (vector_head (foot t) lv at c) ⊕ sums_all t (lv + 1) v) (λ v. z ⊕ sums_of (vector t) lv v)
    (all_along t (lv + 1) f c (at + n) (drop n s) (z ⊕ of (vector_head (foot t) lv at c)))
    (λ v m e. sums_assoc z (of (vector_head (foot t) lv at c)) (sums_all t (lv + 1) v)
    ∙ ap (λ x. z ⊕ x) (head c v (times_length (read t) c (at + n) (drop n s) v m e))))
  where
    head : (c : ℕ) (v : List (Val t)) → length v ≡ c → of (vector_head (foot t) lv at c) ⊕ sums_all t (lv + 1) v ≡ sums_of (vector t) lv v
    head c v e = unfold reach charge vectors write leaf_cells in
        (ap (λ x. of (vector_head (foot t) lv at x) ⊕ sums_all t (lv + 1) v) (sym e) ∙ same_sums refl refl refl (omega arith) refl)

pub along : (t : Ty) (lv : ℕ) → Along t lv
along (leaf k) lv = leaf_along k lv
along nothing lv = λ at s z. unfold Traces trace parse sums ending reach charge vectors write in (refl, refl)
along (result t u) lv = result_along t u lv (along t lv) (along u lv)
along (pair t u) lv = pair_along t u lv (along t lv) (along u lv)
along (array n t) lv = array_along n t lv (along t lv)
along (vector t) lv = vector_along t lv (along t (lv + 1))
along bits lv = λ at s z. unfold trace parse bits_from in bits_along lv at s z (leaf_from (compact w4) at s)
