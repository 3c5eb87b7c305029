-- Taking a leaf's cells, by the tests that the code makes, and the bytes of its value.
use Rattle.std.specs.Prelude.{List, ◌⊎◌, [], ◌∷◌, ◌≡◌, refl, false, ℕ, ◌+◌, ◌-◌, ◌/◌, ◌%◌, ◌^◌, ◌≤◌, ◌<◌, min, length, get_or, Ok, Err}
use Rattle.std.proofs.Common.{inl, inr, ap, ap₂, sym, ◌∙◌, arith, lt-ltb, le-ltb}
use Rattle.leaf.specs.Laws.{leaf_got}
use Rattle.leaf.specs.Taken.{halved}
use Rattle.rules.specs.Basics.{Under}
use Rattle.rules.specs.Bytes.{whole, le_bytes, halves as in_halves}
use Rattle.rules.specs.Cells.{two, wide, one, halves, leaf_taken}
use Rattle.rules.specs.Form.{parse}
use Rattle.rules.specs.Refusals.{Answer, cells_end_at, unfit_at}
use Rattle.rules.specs.Types.{leaf, bound}
use Rattle.rules.specs.Wire.{leaf_bytes}
use Rattle.rules.specs.declared.Halves.{Halves}
use Rattle.rules.specs.declared.Leaf.{Leaf}
use Rattle.rules.specs.declared.Leaf.TheVariants.{Unit as unit, Bool as bool, OptionBool as opt_bool, Fixed as fixed, Compact as compact, Float as float}
use Rattle.rules.specs.declared.Width.{Width}
use Rattle.rules.specs.declared.Width.TheVariants.{W1 as w1, W2 as w2, W4 as w4, W8 as w8, W16 as w16}
use Rattle.rules.proofs.Laws.RoundTrip.{cells_unpacked}

-- the halves that say a number, and those of a word
both_halves : (a b : ℕ) → a < 2 ^ 64 → ◌≡◌ {A = Halves} (record { low = a; high = b }) (in_halves (whole a b))
both_halves a b lt =
    let lo : a ≡ whole a b % 2 ^ 64 = omega arith in
    let hi : b ≡ whole a b / 2 ^ 64 = omega arith in
    ap₂ (λ (x y : ℕ). record { low = x; high = y }) lo hi

word_in_halves : (v : ℕ) (h : Halves) → v < 2 ^ 64 → h ≡ record { low = v; high = 0 } → h ≡ in_halves v
word_in_halves v h lt e = let w : whole v 0 ≡ v = omega arith in e ∙ both_halves v 0 lt ∙ ap in_halves w

-- ---- one cell

pub one_none : (m : ℕ) (cs : List ℕ) → length cs ≡ 0 → Err (cells_end_at 0) ≡ halved (one m 0 cs)
unfolding halved one
one_none m [] e = refl
one_none m (c ∷ cs) e = absurd (omega arith)

pub one_large : (m : ℕ) (cs : List ℕ) → (length cs ≡ 0 → ⊥) → m < get_or cs 0 0 → Err (unfit_at 0) ≡ halved (one (m + 1) 0 cs)
unfolding halved one
one_large m [] n h = absurd (n refl)
one_large m (c ∷ cs) n h = rw (le-ltb c (m + 1) (omega arith)) refl

pub one_small : (m : ℕ) (cs : List ℕ) (h : Halves) → (length cs ≡ 0 → ⊥) → get_or cs 0 0 ≤ m → get_or cs 0 0 < 2 ^ 64 → h ≡ record { low = get_or cs 0 0; high = 0 } → Ok (h, 1) ≡ halved (one (m + 1) 0 cs)
unfolding halved one
one_small m [] h n le fits e = absurd (n refl)
one_small m (c ∷ cs) h n le fits e = rw (lt-ltb c (m + 1) (omega arith)) (ap (λ x. Ok (x, 1)) (word_in_halves c h fits e))

-- ---- two cells

pub halves_few : (cs : List ℕ) → length cs < 2 → Err (cells_end_at (length cs)) ≡ halved (halves 0 cs)
unfolding halved halves
halves_few [] h = refl
halves_few (c ∷ []) h = refl
halves_few (c ∷ d ∷ cs) h = absurd (omega arith)

pub halves_both : (cs : List ℕ) → 2 ≤ length cs → get_or cs 0 0 < 2 ^ 64 → ◌≡◌ {A = Answer (Halves × ℕ)} (Ok (record { low = get_or cs 0 0; high = get_or cs 1 0 }, 2)) (halved (halves 0 cs))
unfolding halved halves
halves_both [] h lt = absurd (omega arith)
halves_both (c ∷ []) h lt = absurd (omega arith)
halves_both (c ∷ d ∷ cs) h lt = ap (λ x. Ok (x, 2)) (both_halves c d lt)

-- ---- the cells of a leaf

-- a leaf of one cell has at most 2^64 values
narrow_width : (w : Width) → two w ≡ false → bound (fixed w) ≡ min (bound (fixed w)) (2 ^ 64) - 1 + 1
narrow_width w1 e = refl
narrow_width w2 e = refl
narrow_width w4 e = refl
narrow_width w8 e = refl
narrow_width w16 e = absurd (let z : ◌≡◌ {A = ℕ} 0 1 = cc in omega arith)

pub narrow_bound : (k : Leaf) → wide k ≡ false → min (bound k) (2 ^ 64) - 1 + 1 ≡ bound k
narrow_bound unit e = refl
narrow_bound bool e = refl
narrow_bound opt_bool e = refl
narrow_bound (fixed w) e = sym (narrow_width w e)
narrow_bound (compact w) e = sym (narrow_width w e)
narrow_bound (float w) e = sym (narrow_width w e)

-- a value that was taken fits
pub taken_fits : (k : Leaf) (cs : List ℕ) (h : Halves) (n : ℕ) → Under (2 ^ 64) cs → Ok (h, n) ≡ halved (leaf_taken k 0 cs) → whole h.low h.high < bound k
unfolding parse
taken_fits k cs h n u e = (cells_unpacked (leaf k) 0 cs (whole h.low h.high) n u (leaf_got _ _ h n e refl).0).1

-- ---- the bytes of a value

-- a tag is a number of one byte
pub tag_bytes : (k : Leaf) (v : ℕ) → (k ≡ bool) ⊎ (k ≡ opt_bool) → v < bound k → leaf_bytes (fixed w1) v ≡ leaf_bytes k v
unfolding leaf_bytes le_bytes
tag_bytes k v (inl e) h = let lt : v < 2 = rw e at h in let m : v % 256 ≡ v = omega arith in rw (e, m)
tag_bytes k v (inr e) h = let lt : v < 3 = rw e at h in let m : v % 256 ≡ v = omega arith in rw (e, m)
