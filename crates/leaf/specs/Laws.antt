-- For callers: what a leaf's or a count's answer says of the written rule's.
use Rattle.std.specs.Prelude.{false, List, ◌≡◌, ℕ, ◌*◌, ◌^◌, ◌≤◌, ◌<◌, Ok, Err}
use Rattle.std.proofs.Common.{ap, sym, ◌∙◌, ap₂, arith}
use Rattle.rules.specs.Basics.{Under}
use Rattle.rules.specs.Bytes.{whole, halves}
use Rattle.rules.specs.Cells.{two, wide}
use Rattle.rules.specs.Parser.{Res, got, bad}
use Rattle.rules.specs.Refusals.{Answer}
use Rattle.rules.specs.Types.{size, bound}
use Rattle.rules.specs.Wire.{leaf_from}
use Rattle.rules.specs.declared.Leaf.{Leaf}
use Rattle.rules.specs.declared.Leaf.TheVariants.{Unit as unit, Bool as bool, OptionBool as opt_bool, Fixed as fixed, Compact as compact, Float as float}
use Rattle.rules.specs.declared.Width.{Width}
use Rattle.rules.specs.declared.Width.TheVariants.{W1 as w1, W2 as w2, W4 as w4, W8 as w8, W16 as w16}
use Rattle.rules.specs.declared.Halves.{Halves}
use Rattle.rules.specs.declared.Refusal.{Refusal}
use Rattle.rules.proofs.Laws.Basics.{same_parts}
use Rattle.rules.proofs.Laws.Wire.{leaf_bound}
use Rattle.leaf.specs.Taken.{halved, count_of}

pub count_got : (r : Res ℕ) (q : Answer (ℕ × ℕ)) (n u : ℕ) → q ≡ count_of r → q ≡ Ok (n, u) → r ≡ got n u
unfolding count_of
count_got (got v m) q n u e f = let p = same_parts (sym e ∙ f) in ap₂ got p.0 p.1
count_got (bad y) q n u e f = absurd (let g : ◌≡◌ {A = Answer (ℕ × ℕ)} (Err y) (Ok (n, u)) = sym e ∙ f in let z : ◌≡◌ {A = ℕ} 0 1 = cc in omega arith)

pub count_bad : (r : Res ℕ) (q : Answer (ℕ × ℕ)) (y : Refusal) → q ≡ count_of r → q ≡ Err y → r ≡ bad y
unfolding count_of
count_bad (got v m) q y e f = absurd (let g : ◌≡◌ {A = Answer (ℕ × ℕ)} (Ok (v, m)) (Err y) = sym e ∙ f in let z : ◌≡◌ {A = ℕ} 0 1 = cc in omega arith)
count_bad (bad x) q y e f = let g : ◌≡◌ {A = Answer (ℕ × ℕ)} (Err x) (Err y) = sym e ∙ f in let a : x ≡ y = cc in ap bad a

-- a value that was read is what its halves say, and one that was not is refused
pub leaf_got : (r : Res ℕ) (q : Answer (Halves × ℕ)) (h : Halves) (n : ℕ) → q ≡ halved r → q ≡ Ok (h, n) → (r ≡ got (whole h.low h.high) n) × (h ≡ halves (whole h.low h.high))
unfolding halved
leaf_got (got v m) q h n e f =
    let p = same_parts (sym e ∙ f) in
    let w : v ≡ whole (halves v).low (halves v).high = omega arith in
    let k : v ≡ whole h.low h.high = w ∙ ap (λ (x : Halves). whole x.low x.high) p.0 in
    (ap₂ got k p.1, sym p.0 ∙ ap halves k)
leaf_got (bad y) q h n e f = absurd (let g : ◌≡◌ {A = Answer (Halves × ℕ)} (Err y) (Ok (h, n)) = sym e ∙ f in let z : ◌≡◌ {A = ℕ} 0 1 = cc in omega arith)

pub leaf_bad : (r : Res ℕ) (q : Answer (Halves × ℕ)) (y : Refusal) → q ≡ halved r → q ≡ Err y → r ≡ bad y
unfolding halved
leaf_bad (got v m) q y e f = absurd (let g : ◌≡◌ {A = Answer (Halves × ℕ)} (Ok (halves v, m)) (Err y) = sym e ∙ f in let z : ◌≡◌ {A = ℕ} 0 1 = cc in omega arith)
leaf_bad (bad x) q y e f = let g : ◌≡◌ {A = Answer (Halves × ℕ)} (Err x) (Err y) = sym e ∙ f in let a : x ≡ y = cc in ap bad a

-- ---- a leaf of one cell

sized : (w : Width) → two w ≡ false → 2 ^ (8 * size w) ≤ 2 ^ 64
sized w1 e = omega arith
sized w2 e = omega arith
sized w4 e = omega arith
sized w8 e = omega arith
sized w16 e = cc

narrow : (k : Leaf) → wide k ≡ false → bound k ≤ 2 ^ 64
narrow unit e = omega arith
narrow bool e = omega arith
narrow opt_bool e = omega arith
narrow (fixed w) e = sized w e
narrow (compact w) e = sized w e
narrow (float w) e = sized w e

-- its value is the low half, and the high one is 0
pub narrow_got : (k : Leaf) (at : ℕ) (s : List ℕ) (q : Answer (Halves × ℕ)) (h : Halves) (n : ℕ) → wide k ≡ false → Under 256 s → q ≡ halved (leaf_from k at s) → q ≡ Ok (h, n) → (leaf_from k at s ≡ got h.low n) × (h.high ≡ 0)
narrow_got k at s q h n g u e f =
    let read = leaf_got _ q h n e f in
    let small : whole h.low h.high < bound k = leaf_bound k at s _ n u read.0 in
    let one : whole h.low h.high ≡ h.low = omega (arith, small, narrow k g) in
    (read.0 ∙ ap (λ v. got v n) one, omega (arith, one))
