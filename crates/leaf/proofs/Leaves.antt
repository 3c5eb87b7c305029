-- Leaves, by the tests that the code makes: one law for each return.
use Rattle.std.specs.Prelude.{List, [], ◌∷◌, ◌≡◌, refl, ℕ, ◌/◌, ◌%◌, ◌^◌, ◌≤◌, ◌<◌, min, length, take, get_or, Ok, Err}
use Rattle.std.proofs.Common.{ap, ap₂, sym, ◌∙◌, arith, lt-ltb, le-ltb}
use Rattle.compact.specs.Faults.{reason_of}
use Rattle.compact.specs.Halves.{in_halves}
use Rattle.compact.specs.declared.Fault.{Fault}
use Rattle.compact.specs.declared.Fault.TheVariants.{Short, Prefix, Range}
use Rattle.rules.specs.Basics.{pick, Under}
use Rattle.rules.proofs.Laws.Basics.{same_parts}
use Rattle.rules.specs.Bytes.{le_value, whole, halves}
use Rattle.rules.specs.Compact.{Answer as Said, value, short, prefix, range}
use Rattle.rules.specs.Parser.{Res, got, bad}
use Rattle.rules.specs.Refusals.{Answer, because, short_at, tag_at}
use Rattle.rules.specs.Wire.{byte_from, number_from, placed, leaf_from}
use Rattle.rules.proofs.Laws.Wire.{whole_there, whole_short, leaf_bound}
use Rattle.rules.specs.declared.Halves.{Halves}
use Rattle.rules.specs.declared.Leaf.TheVariants.{Compact as compact}
use Rattle.rules.specs.declared.Refusal.{Refusal}
use Rattle.rules.specs.declared.Width.TheVariants.{W4 as w4}
use Rattle.leaf.specs.Laws.{leaf_got}
use Rattle.leaf.specs.Taken.{halved, count_of}

pub byte_none : (m at : ℕ) (s : List ℕ) → length s ≡ 0 → Err (short_at at) ≡ halved (byte_from m at s)
unfolding halved byte_from
byte_none m at [] e = refl
byte_none m at (b ∷ s) e = absurd (omega arith)

pub byte_large : (m at : ℕ) (s : List ℕ) → (length s ≡ 0 → ⊥) → m ≤ get_or s 0 0 → Err (tag_at at) ≡ halved (byte_from m at s)
unfolding halved byte_from
byte_large m at [] n h = absurd (n refl)
byte_large m at (b ∷ s) n h = sym (ap (λ x. halved (pick x (got b 1) (bad (tag_at at)))) (le-ltb b m h))

pub byte_small : (m at : ℕ) (s : List ℕ) (h : Halves) → (length s ≡ 0 → ⊥) → get_or s 0 0 < m → get_or s 0 0 < 256 → h ≡ record { low = get_or s 0 0; high = 0 } → Ok (h, 1) ≡ halved (byte_from m at s)
unfolding halved byte_from
byte_small m at [] h n lt le e = absurd (n refl)
byte_small m at (b ∷ s) h n lt le e =
    let lo : b ≡ b % 2 ^ 64 = omega arith in
    let hi : 0 ≡ b / 2 ^ 64 = omega arith in
    let k : h ≡ halves b = e ∙ ap₂ (λ (x y : ℕ). record { low = x; high = y }) lo hi in
    ap (λ x. Ok (x, 1)) k ∙ sym (ap (λ x. halved (pick x (got b 1) (bad (tag_at at)))) (lt-ltb b m lt))

pub number_short : (n at : ℕ) (s : List ℕ) → length s < n → Err (short_at at) ≡ halved (number_from n at s)
unfolding halved number_from
number_short n at s h = sym (ap halved (whole_short n _ s (λ l. got (le_value l) n) h))

pub number_there : (n at : ℕ) (s : List ℕ) (h : Halves) → n ≤ length s → n ≤ 16 → h ≡ halves (le_value (take (min n 16) s)) → Ok (h, n) ≡ halved (number_from n at s)
unfolding halved number_from
number_there n at s h there few e =
    let m : min n 16 ≡ n = omega arith in
    ap (λ x. Ok (x, n)) (e ∙ ap (λ k. halves (le_value (take k s))) m) ∙ sym (ap halved (whole_there n _ s (λ l. got (le_value l) n) there))

-- a compact number, from the rule's answer
pub compact_read : (a : Said) (at n : ℕ) (h : Halves) → Ok (h, n) ≡ in_halves a → Ok (h, n) ≡ halved (placed at a)
unfolding halved placed
compact_read (value v m) at n h e = let p = same_parts e in ap₂ (λ x y. Ok (x, y)) p.0 p.1
compact_read short at n h e = absurd (let z : ◌≡◌ {A = ℕ} 0 1 = cc in omega arith)
compact_read prefix at n h e = absurd (let z : ◌≡◌ {A = ℕ} 0 1 = cc in omega arith)
compact_read range at n h e = absurd (let z : ◌≡◌ {A = ℕ} 0 1 = cc in omega arith)

pub compact_refused : (a : Said) (at : ℕ) (f : Fault) → Err f ≡ in_halves a → Err (because (reason_of f) at) ≡ halved (placed at a)
unfolding halved placed
compact_refused (value v m) at f e = absurd (let z : ◌≡◌ {A = ℕ} 0 1 = cc in omega arith)
compact_refused short at f e = let q : f ≡ Short = cc in ap (λ x. Err (because (reason_of x) at)) q
compact_refused prefix at f e = let q : f ≡ Prefix = cc in ap (λ x. Err (because (reason_of x) at)) q
compact_refused range at f e = let q : f ≡ Range = cc in ap (λ x. Err (because (reason_of x) at)) q

-- ---- a count

pub count_read : (r : Res ℕ) (h : Halves) (n : ℕ) → Ok (h, n) ≡ halved r → h.high ≡ 0 → Ok (h.low, n) ≡ count_of r
unfolding halved count_of
count_read (got v m) h n e z =
    let p = same_parts e in
    let lo : h.low ≡ v % 2 ^ 64 = ap (λ (x : Halves). x.low) p.0 in
    let hi : h.high ≡ v / 2 ^ 64 = ap (λ (x : Halves). x.high) p.0 in
    let w : h.low ≡ v = omega arith in
    ap₂ (λ x y. Ok (x, y)) w p.1
count_read (bad y) h n e z = absurd (let k : ◌≡◌ {A = Answer (Halves × ℕ)} (Ok (h, n)) (Err y) = e in let z : ◌≡◌ {A = ℕ} 0 1 = cc in omega arith)

pub count_refused : (r : Res ℕ) (y : Refusal) → Err y ≡ halved r → Err y ≡ count_of r
unfolding halved count_of
count_refused (got v m) y e = absurd (let k : ◌≡◌ {A = Answer (Halves × ℕ)} (Err y) (Ok (halves v, m)) = e in let z : ◌≡◌ {A = ℕ} 0 1 = cc in omega arith)
count_refused (bad x) y e = let k : ◌≡◌ {A = Answer (Halves × ℕ)} (Err y) (Err x) = e in let q : y ≡ x = cc in ap Err q

-- a count is a number of 32 bits
pub count_small : (at : ℕ) (s : List ℕ) (h : Halves) (n : ℕ) → Under 256 s → Ok (h, n) ≡ halved (leaf_from (compact w4) at s) → h.high ≡ 0
count_small at s h n u e =
    let g = leaf_got (leaf_from (compact w4) at s) (Ok (h, n)) h n e refl in
    let b : whole h.low h.high < 2 ^ 32 = leaf_bound (compact w4) at s (whole h.low h.high) n u g.0 in
    omega arith
