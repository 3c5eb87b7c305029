-- Leaves and bit vectors over cells: a value's cells are taken for it, and cells that are taken are the value's.
use Rattle.std.specs.Prelude.{Bool, true, false, List, ◌++◌, [], ◌∷◌, ◌≡◌, refl, ℕ, suc, ◌+◌, ◌*◌, ◌/◌, ◌%◌, ◌^◌, ◌≤◌, ◌<◌, ltb, leb, length, take, replicate}
use Rattle.std.proofs.Common.{ap, sym, ◌∙◌, ap₂, subst, zero-le, suc-le-suc, add_comm, arith, ltb-true, ltb-false, lt-ltb, le-ltb, leb-true, le-leb, length-append, take_at, length-take-le}
use Rattle.std.proofs.Math.Arith.{digits_lt}
use Rattle.std.proofs.Math.Pow.{low, high}
use Rattle.rules.specs.Refusals.{bit_count_at, cells_end_at, unfit_at, max_bits}
use Rattle.rules.specs.Basics.{pick, Under}
use Rattle.rules.specs.Types.{Width, w1, w2, w4, w8, w16, Leaf, unit, bool, opt_bool, fixed, compact, float, size, bound}
use Rattle.rules.proofs.Laws.Bytes.{under_take}
use Rattle.rules.specs.Bits.{words64, pack, lanes, clear}
use Rattle.rules.specs.Bits.Laws.{Like}
use Rattle.rules.proofs.Laws.Bits.{length_pack, lanes_pack, length_lanes, pack_clear, clear_pack, like_same}
use Rattle.rules.specs.Parser.{got, bad}
use Rattle.rules.specs.Parser.Laws.{Writes, Backs}
use Rattle.rules.specs.Form.Laws.{Reads, Returns}
use Rattle.rules.specs.Cells.{two, wide, leaf_cells, bits_cells, as_cells, one, halves, leaf_taken, bits_taken, from_cells}
use Rattle.rules.specs.Cells.Laws.{full}

-- ---- a value's cells are taken for it

leaf_reads : (k : Leaf) (v : ℕ) → v < bound k → Writes (leaf_taken k) v (leaf_cells k v)
unfolding leaf_taken leaf_cells halves one
leaf_reads k v h at s = go (wide k)
  where
    go : (b : Bool) → pick b (halves at (pick b (v % 2 ^ 64 ∷ v / 2 ^ 64 ∷ []) (v ∷ []) ++ s)) (one (bound k) at (pick b (v % 2 ^ 64 ∷ v / 2 ^ 64 ∷ []) (v ∷ []) ++ s))
        ≡ got v (length (pick b (v % 2 ^ 64 ∷ v / 2 ^ 64 ∷ []) (v ∷ [])))
    go true = let e : v % 2 ^ 64 + v / 2 ^ 64 * 2 ^ 64 ≡ v = omega arith in ap (λ x. got x 2) e
    go false = ap (λ b. pick b (got v 1) (bad (unfit_at at))) (lt-ltb v (bound k) h)

bits_reads : (v : List Bool) → length v ≤ max_bits → Writes bits_taken v (bits_cells v)
unfolding bits_taken bits_cells
bits_reads v h at s =
    let n = length v in
    let k = words64 n in
    let p = pack 64 k v in
    let x = take k (p ++ s) in
    let there : k ≤ length (p ++ s) = omega (arith, length-append p s, length_pack 64 k v) in
    let same : x ≡ p = take_at p s k (length_pack 64 k v) in
    ap (λ b. pick b (pick (ltb (length (p ++ s)) k) (bad (cells_end_at (at + 1 + length (p ++ s)))) (pick (clear 64 n x) (got (lanes 64 n x) (1 + k)) (bad (unfit_at (at + k))))) (bad (bit_count_at at))) (le-leb n max_bits h)
    ∙ ap (λ b. pick b (bad (cells_end_at (at + 1 + length (p ++ s)))) (pick (clear 64 n x) (got (lanes 64 n x) (1 + k)) (bad (unfit_at (at + k))))) (le-ltb (length (p ++ s)) k there)
    ∙ ap (λ b. pick b (got (lanes 64 n x) (1 + k)) (bad (unfit_at (at + k)))) (ap (clear 64 n) same ∙ clear_pack 64 k v)
    ∙ ap₂ got (ap (lanes 64 n) same ∙ lanes_pack 64 k v (omega arith)) (omega (arith, length_pack 64 k v))

pub cells_read_lem : Reads as_cells from_cells
cells_read_lem = record { leaf_reads = leaf_reads; bits_reads = bits_reads }

exact_like : (w l : List ℕ) → w ≡ l → Under (2 ^ 64) l → Like (replicate (length w) 64) w l
exact_like w l e u = subst (λ x. Like (replicate (length x) 64) x l) (sym e) (like_same 64 l u)

two_bound : (w : Width) → two w ≡ true → 2 ^ (8 * size w) ≡ 2 ^ 128
two_bound w1 e = absurd (let z : ◌≡◌ {A = ℕ} 0 1 = cc in omega arith)
two_bound w2 e = absurd (let z : ◌≡◌ {A = ℕ} 0 1 = cc in omega arith)
two_bound w4 e = absurd (let z : ◌≡◌ {A = ℕ} 0 1 = cc in omega arith)
two_bound w8 e = absurd (let z : ◌≡◌ {A = ℕ} 0 1 = cc in omega arith)
two_bound w16 e = refl

wide_bound : (k : Leaf) → wide k ≡ true → bound k ≡ 2 ^ 128
wide_bound unit e = absurd (let z : ◌≡◌ {A = ℕ} 0 1 = cc in omega arith)
wide_bound bool e = absurd (let z : ◌≡◌ {A = ℕ} 0 1 = cc in omega arith)
wide_bound opt_bool e = absurd (let z : ◌≡◌ {A = ℕ} 0 1 = cc in omega arith)
wide_bound (fixed w) e = two_bound w e
wide_bound (compact w) e = two_bound w e
wide_bound (float w) e = two_bound w e

whole_lt : (a b : ℕ) → a < 2 ^ 64 → b < 2 ^ 64 → a + b * 2 ^ 64 < 2 ^ 128
whole_lt a b l h = rw (add_comm a (b * 2 ^ 64)) (digits_lt {q = b} {m = 2 ^ 64} {r = a} {c = 2 ^ 64} h l)

halves_back : (at : ℕ) (s : List ℕ) (v n : ℕ) → Under (2 ^ 64) s → halves at s ≡ got v n → (n ≤ length s) × ((v < 2 ^ 128) × (v % 2 ^ 64 ∷ v / 2 ^ 64 ∷ [] ≡ take n s))
unfolding halves
halves_back at [] v n u e = absurd (let z : ◌≡◌ {A = ℕ} 0 1 = cc in omega arith)
halves_back at (a ∷ []) v n u e = absurd (let z : ◌≡◌ {A = ℕ} 0 1 = cc in omega arith)
halves_back at (a ∷ b ∷ s) v n u e =
    let x : a + b * 2 ^ 64 ≡ v = cc in
    let c : 2 ≡ n = cc in
    let ha : a < 2 ^ 64 = u 0 in
    let hb : b < 2 ^ 64 = u 1 in
    let y : v ≡ b * 2 ^ 64 + a = sym x ∙ add_comm a (b * 2 ^ 64) in
    let lo : v % 2 ^ 64 ≡ a = ap (λ z. z % 2 ^ 64) y ∙ low b 64 ha in
    let hi : v / 2 ^ 64 ≡ b = ap (λ z. z / 2 ^ 64) y ∙ high b 64 ha in
    (subst (λ z. z ≤ length (a ∷ b ∷ s)) c (suc-le-suc (suc-le-suc zero-le)), (subst (λ y. y < 2 ^ 128) x (whole_lt a b ha hb), ap₂ (λ y z. y ∷ z ∷ []) lo hi ∙ ap (λ y. take y (a ∷ b ∷ s)) c))

one_back : (m at : ℕ) (s : List ℕ) (v n : ℕ) → one m at s ≡ got v n → (n ≤ length s) × ((v < m) × (v ∷ [] ≡ take n s))
unfolding one
one_back m at [] v n e = absurd (let z : ◌≡◌ {A = ℕ} 0 1 = cc in omega arith)
one_back m at (c ∷ s) v n e = go (ltb c m) refl e
  where
    go : (x : Bool) → ltb c m ≡ x → pick x (got c 1) (bad (unfit_at at)) ≡ got v n → (n ≤ suc (length s)) × ((v < m) × (v ∷ [] ≡ take n (c ∷ s)))
    go true q f =
        let a : c ≡ v = cc in
        let b : 1 ≡ n = cc in
        (omega arith, (omega (arith, ltb-true c m q), ap (λ x. x ∷ []) (sym a) ∙ ap (λ x. take x (c ∷ s)) b))
    go false q f = absurd (let z : ◌≡◌ {A = ℕ} 0 1 = cc in omega arith)

exact_back : (k : Leaf) → Backs (2 ^ 64) (λ v l. (v < bound k) × (leaf_cells k v ≡ l)) (leaf_taken k)
unfolding leaf_taken leaf_cells
exact_back k at s v n u e = go (wide k) refl e
  where
    go : (b : Bool) → wide k ≡ b → pick b (halves at s) (one (bound k) at s) ≡ got v n
        → (n ≤ length s) × ((v < bound k) × (pick b (v % 2 ^ 64 ∷ v / 2 ^ 64 ∷ []) (v ∷ []) ≡ take n s))
    go true q f = let r = halves_back at s v n u f in (r.0, (subst (λ x. v < x) (sym (wide_bound k q)) r.1.0, r.1.1))
    go false q f = one_back (bound k) at s v n f

bits_exact : Backs (2 ^ 64) (λ v l. (length v ≤ max_bits) × (bits_cells v ≡ l)) bits_taken
unfolding bits_taken bits_cells
bits_exact at [] v j u e = absurd (let z : ◌≡◌ {A = ℕ} 0 1 = cc in omega arith)
bits_exact at (n ∷ s) v j u e = go (leb n max_bits) refl (ltb (length s) (words64 n)) refl (clear 64 n (take (words64 n) s)) refl e
  where
    go : (x : Bool) → leb n max_bits ≡ x → (y : Bool) → ltb (length s) (words64 n) ≡ y → (z : Bool) → clear 64 n (take (words64 n) s) ≡ z
        → pick x (pick y (bad (cells_end_at (at + 1 + length s))) (pick z (got (lanes 64 n (take (words64 n) s)) (1 + words64 n)) (bad (unfit_at (at + words64 n))))) (bad (bit_count_at at)) ≡ got v j
        → (j ≤ suc (length s)) × ((length v ≤ max_bits) × (length v ∷ pack 64 (words64 (length v)) v ≡ take j (n ∷ s)))
    go false p y q z c f = absurd (let z : ◌≡◌ {A = ℕ} 0 1 = cc in omega arith)
    go true p true q z c f = absurd (let z : ◌≡◌ {A = ℕ} 0 1 = cc in omega arith)
    go true p false q false c f = absurd (let z : ◌≡◌ {A = ℕ} 0 1 = cc in omega arith)
    go true p false q true c f =
        let k = words64 n in
        let a : lanes 64 n (take k s) ≡ v = cc in
        let b : 1 + k ≡ j = cc in
        let there : k ≤ length s = ltb-false (length s) k q in
        let len : length (take k s) ≡ k = length-take-le k s there in
        let lv : length v ≡ n = ap length (sym a) ∙ length_lanes 64 n (take k s) (omega arith) in
        let back : pack 64 k v ≡ take k s = ap₂ (pack 64) (sym len) (sym a) ∙ pack_clear 64 n (take k s) c in
        let j' : suc k ≡ j = omega arith in (
          omega arith,
          (
            omega (arith, leb-true n max_bits p),
            ap (λ x. x ∷ pack 64 (words64 x) v) lv ∙ ap (λ x. n ∷ x) back ∙ ap (λ x. take x (n ∷ s)) j',
          ),
        )

pub cells_return : Returns as_cells full from_cells (2 ^ 64)
cells_return = record {
  leaf_back = λ k at s v n u e. let r = exact_back k at s v n u e in (r.0, (r.1.0, exact_like (leaf_cells k v) (take n s) r.1.1 (under_take (2 ^ 64) n s u)));
  bits_back = λ at s v n u e. let r = bits_exact at s v n u e in (r.0, (r.1.0, exact_like (bits_cells v) (take n s) r.1.1 (under_take (2 ^ 64) n s u)));
}
