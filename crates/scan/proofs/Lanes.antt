-- The bytes of a bit vector: from what `bit_vec::read` answers and writes to what a pass leaves.
use Rattle.std.specs.Prelude.{Ok, Err, Bool, List, ◌≡◌, ℕ, ◌+◌, ◌-◌, ◌≤◌, length, drop, take}
use Rattle.std.proofs.Common.{refl, ap, sym, ◌∙◌, ap₂, arith}
use Rattle.bit_vec.specs.Moves.{moved, stored, bits_read, cells_read}
use Rattle.rules.specs.Bits.{words64}
use Rattle.rules.proofs.Laws.Places.{part_rest}
use Rattle.rules.specs.Parser.{Res, got, bad}
use Rattle.rules.specs.Wire.{lanes_from}
use Rattle.rules.proofs.Laws.Wire.Used.{lanes_used}
use Rattle.rules.specs.declared.Refusal.{Refusal}
use Rattle.rules.specs.Refusals.{Answer}
use Rattle.rules.specs.Scan.Pass.{landed, lanes_at}
use Rattle.rules.specs.Scan.Single.{lanes_done, lanes_pass}
use Rattle.rules.proofs.Laws.Scan.Single.{lanes_pass_lem}
use Rattle.rules.specs.Scan.Units.{plus_cells}
use Rattle.rules.specs.declared.Limits.{Limits}
use Rattle.rules.specs.Scan.{Scan}
use Rattle.rules.specs.declared.Totals.{Totals}
use Rattle.rules.specs.Scan.Landing.{Lands}
use Rattle.rules.proofs.Laws.Scan.Landing.{same_pass_as}

-- what is answered of bytes that were read or refused
abbrev counted : ℕ → ℕ → Totals → Answer ℕ → Scan
counted n e t (Ok used) = Ok (plus_cells t (words64 n), e + used)
counted n e t (Err y) = Err y

module _ (n at e : ℕ) (s l m : List ℕ) (t : Totals) (q : Answer ℕ) (a : q ≡ bits_read n at s) (b : m ≡ cells_read n at s l t.cells) where
  lanes_land_as : Lands (lanes_pass n at e s t) l t (counted n e t q) m
  unfolding bits_read cells_read lanes_from lanes_pass lanes_done landed
  lanes_land_as = rw (a, b) (go (lanes_from n at e s))
    where
      go : (r : Res (List Bool)) → Lands (lanes_done n e t r) l t (counted n e t (moved r)) (stored n l t.cells r)
      go (bad x) = record { answers = refl; writes = refl }
      go (got v k) = record { answers = refl; writes = refl }

  pub lanes_refused : (y : Refusal) → q ≡ Err y → {r : Scan} → r ≡ Err y → Lands (lanes_pass n at e s t) l t r m
  lanes_refused y f {r} g = rw (g ∙ sym (ap (counted n e t) f)) lanes_land_as

  pub lanes_bytes : (used : ℕ) → q ≡ Ok used → Lands (lanes_pass n at e s t) l t (Ok (plus_cells t (words64 n), e + used)) m
  lanes_bytes used f = rw f at lanes_land_as

  pub lanes_within : (used : ℕ) → q ≡ Ok used → used ≤ length s
  unfolding bits_read
  lanes_within used f = go (lanes_from n at at s) refl (sym a ∙ f)
    where
      go : (r : Res (List Bool)) → lanes_from n at at s ≡ r → moved r ≡ Ok used → used ≤ length s
      go (bad x) d p = absurd (let z : ◌≡◌ {A = ℕ} 0 1 = cc in omega arith)
      go (got v k) d p = let z : k ≡ used = cc in omega (arith, lanes_used n at at s v k d)

-- the same on what stands behind the head
pub lanes_land : (lim : Limits) (n at used e : ℕ) (s : List ℕ) (u : Totals) (r : Scan) (l m : List ℕ) → u.cells + words64 n ≤ lim.cells → e ≡ at + used
    → Lands (lanes_pass n at e (take (length s - used) (drop used s)) u) l u r m → Lands (lanes_at lim n at s (at + used) u) l u r m
lanes_land lim n at used e s u r l m h q f =
    let k : used ≡ at + used - at = omega arith in
    let p : lanes_at lim n at s (at + used) u ≡ lanes_pass n at e (take (length s - used) (drop used s)) u =
    lanes_pass_lem lim n at (at + used) s u h ∙ ap (λ j. lanes_pass n at (at + used) (drop j s) u) (sym k) ∙ ap₂ (λ j t. lanes_pass n at j t u) (sym q) (sym (part_rest used s)) in
    same_pass_as (lanes_at lim n at s (at + used) u) _ r l m u p f
