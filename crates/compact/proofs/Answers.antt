-- What the code's tests say of `settled`, one law for each way to an answer.
use Rattle.std.proofs.Common.{Bool, true, false, ◌≡◌, refl, ap, sym, ◌∙◌, ℕ, ◌^◌, max, min, ◌≤◌, ◌<◌, arith, leb-true, leb-false, le-leb, le-ltb, leb}
use Rattle.std.specs.Prelude.{List, take}
use Rattle.std.proofs.lemmas.Bool.{lt-leb}
use Rattle.rules.specs.Basics.{pick}
use Rattle.rules.specs.Compact.{significant, fits, Answer, value, range, settled}
use Rattle.rules.proofs.Laws.Compact.Answers.{lt_fits, settled_yes, settled_low}
use Rattle.std.specs.Prelude.{Ok, Err}
use Rattle.compact.specs.declared.Fault.TheVariants.{Range}
use Rattle.rules.specs.declared.Halves.{Halves}
use Rattle.rules.specs.Bytes.{le_value, whole, halves}
use Rattle.compact.specs.Halves.{in_halves}
use Rattle.compact.specs.Laws.{in_halves_lem}
use Rattle.compact.specs.Sizes.{whole_low, under, over}

-- below the form's first value
pub refuse_low : (w least v n : ℕ) → v < least → Err Range ≡ in_halves (settled w least v n)
refuse_low w least v n lt = ap in_halves (sym (settled_low w least v n lt))

-- below the second of two bounds
pub refuse_max : (w l m v n : ℕ) → v < m → Err Range ≡ in_halves (settled w (max l m) v n)
refuse_max w l m v n lt = refuse_low w (max l m) v n (omega arith)

-- too wide
pub refuse_wide : (w least v n : ℕ) → w < significant v → Err Range ≡ in_halves (settled w least v n)
unfolding settled fits
refuse_wide w least v n h = simp (le-ltb _ _ (over w v h)) (ap in_halves (sym (either (leb least v) range)))
  where
    either : (t : Bool) (a : Answer) → pick t a a ≡ a
    either true a = refl
    either false a = refl

-- and a value in between
pub accept : (w least low high n : ℕ) → w ≤ 16 → low < 2 ^ 64 → significant (whole low high) ≤ w → least ≤ whole low high
    → Ok (record { low = low; high = high }, n) ≡ in_halves (settled w least (whole low high) n)
accept w least low high n le lt h h' =
    sym (in_halves_lem low high n lt) ∙ ap in_halves (sym (settled_yes w least (whole low high) n h' (lt_fits w (whole low high) (under w (whole low high) le h))))

-- a value of the low half alone
pub low_half : (x v : ℕ) (h : Halves) → h ≡ record { low = x; high = 0 } → x ≡ v → whole h.low h.high ≡ v
low_half x v h q e = rw q (sym (whole_low x 0 refl) ∙ e)

-- at most sixteen bytes in two halves
pub halves_whole : (n : ℕ) (s : List ℕ) (h : Halves) → n ≤ 16 → h ≡ halves (le_value (take (min n 16) s)) → whole h.low h.high ≡ le_value (take n s)
halves_whole n s h le q =
    let m : min n 16 ≡ n = omega arith in
    let back : (v : ℕ) → whole (halves v).low (halves v).high ≡ v = λ v. omega arith in
    rw q (back (le_value (take (min n 16) s)) ∙ ap (λ k. le_value (take k s)) m)

pub one_half : (w least x v n : ℕ) (h : Halves) → h ≡ record { low = x; high = 0 } → x ≡ v → in_halves (settled w least (whole h.low h.high) n) ≡ in_halves (settled w least v n)
one_half w least x v n h q e = ap (λ (y : ℕ). in_halves (settled w least y n)) (low_half x v h q e)

-- a second bound that is met makes no difference
pub settled_max : (w l m v n : ℕ) → m ≤ v → settled w l v n ≡ settled w (max l m) v n
unfolding settled
settled_max w l m v n h = ap (λ (t : Bool). pick t (pick (fits w v) (value v n) range) range) (go (leb l v) refl)
  where
    go : (t : Bool) → leb l v ≡ t → leb l v ≡ leb (max l m) v
    go true e = e ∙ sym (le-leb (max l m) v (omega (arith, leb-true l v e)))
    go false e = e ∙ sym (lt-leb (max l m) v (omega (arith, leb-false l v e)))
