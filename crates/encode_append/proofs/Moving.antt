-- The buffer, step by step: bytes moved up, the new head put in front of them, and the new items behind.
use Rattle.std.specs.Prelude.{List, ◌++◌, [], ◌≡◌, ℕ, ◌+◌, ◌-◌, ◌≤◌, length, drop, take}
use Rattle.std.proofs.Common.{ap, ap₂, sym, ◌∙◌, arith, append_assoc, append-nil, length-drop, length-append, length-take-le, drop_of_length-le, drop_at, drop-drop}
use Rattle.std.specs.List.{copy_within}
use Rattle.std.proofs.lemmas.List.{take-append-drop}
use Rattle.std.proofs.lemmas.List.Edits.{sets}
use Rattle.std.proofs.Math.Seq.{take_at}
use Rattle.rules.specs.Basics.{onto}
use Rattle.rules.specs.Bytes.{whole}
use Rattle.rules.specs.Compact.{compact_bytes}
use Rattle.rules.specs.declared.Halves.{Halves}
use Rattle.rules.proofs.Laws.Places.{sets_onto, part_rest, drop_take}

-- ---- the head in front

-- the encoding of a count
pub head_put : {count : ℕ} {v : Halves} (a : List ℕ) {b : List ℕ} → v ≡ record { low = count; high = 0 } → b ≡ sets a 0 (compact_bytes (whole v.low v.high)) → b ≡ sets a 0 (compact_bytes count)
head_put {count} {v} a {b} e f = let w : whole v.low v.high ≡ count = ap (λ (x : Halves). whole x.low x.high) e ∙ omega arith in f ∙ ap (λ (x : ℕ). sets a 0 (compact_bytes x)) w

-- bytes that are moved to where they are
pub unmoved : (buf : List ℕ) (old used new : ℕ) → old ≡ new → buf ≡ copy_within buf old used new
unmoved buf old used new e =
    let n = used - old in
    let rest : take n (drop old buf) ++ drop (old + n) buf ≡ drop old buf =
    ap (λ (l : List ℕ). take n (drop old buf) ++ l) (sym (drop-drop n old buf)) ∙ take-append-drop n (drop old buf) in
    rw (← e) (sym (append_assoc (take old buf) (take n (drop old buf)) (drop (old + n) buf) ∙ ap (λ (l : List ℕ). take old buf ++ l) rest ∙ take-append-drop old buf))

-- a is the buffer with the bytes behind the old head moved, and H the new head
pub replaced : (buf a b H : List ℕ) (used old new : ℕ) → used ≤ length buf → old ≤ used → new ≡ length H → new + (used - old) ≤ length buf
    → length a ≡ length buf → a ≡ copy_within buf old used new → b ≡ sets a 0 H → b ≡ onto (H ++ drop old (take used buf)) buf
replaced buf a b H used old new h g n far la ea eb =
    let K : List ℕ = take (used - old) (drop old buf) in
    let k : length K ≡ used - old = length-take-le (used - old) (drop old buf) (omega (arith, length-drop old buf)) in
    let front : length (take new buf) ≡ length H = length-take-le new buf (omega arith) ∙ n in
    let behind : drop (length H) a ≡ K ++ drop (new + (used - old)) buf =
    ap (drop (length H)) (ea ∙ append_assoc (take new buf) K (drop (new + (used - old)) buf)) ∙ drop_at (take new buf) (K ++ drop (new + (used - old)) buf) (length H) front in
    let all : new + (used - old) ≡ length (H ++ K) = omega (arith, length-append H K) in
    eb ∙ sets_onto H a (omega arith) ∙ ap (λ (m : List ℕ). H ++ m) behind ∙ sym (append_assoc H K (drop (new + (used - old)) buf))
    ∙ ap (λ (x : ℕ). (H ++ K) ++ drop x buf) all ∙ ap (λ (m : List ℕ). onto (H ++ m) buf) (sym (drop_take buf old used g h))

-- ---- the items behind

-- what is put at the front of the lent tail stands behind what is at the front of the whole
pub behind_front : (A l buf b tail : List ℕ) (e : ℕ) → e ≡ length A → length A + length l ≤ length buf → b ≡ onto A buf → tail ≡ onto l (take (length b - e) (drop e b))
    → take e b ++ (tail ++ drop (length b - e) (drop e b)) ≡ onto (A ++ l) buf
behind_front A l buf b tail e q far eb et =
    let front : take e b ≡ A = ap (take e) eb ∙ take_at A (drop (length A) buf) e (sym q) in
    let rest : drop e b ≡ drop (length A) buf = ap (drop e) eb ∙ drop_at A (drop (length A) buf) e (sym q) in
    let none : drop (length b - e) (drop e b) ≡ [] = drop_of_length-le (drop e b) {i = length b - e} (omega (arith, length-drop e b)) in
    let t : tail ≡ onto l (drop (length A) buf) = et ∙ ap (onto l) (part_rest e b ∙ rest) in
    let n : length A + length l ≡ length (A ++ l) = omega (arith, length-append A l) in
    ap₂ (λ (x y : List ℕ). x ++ (tail ++ y)) front none ∙ ap (λ (x : List ℕ). A ++ x) (append-nil tail ∙ t)
    ∙ ap (λ (x : List ℕ). A ++ (l ++ x)) (drop-drop (length l) (length A) buf) ∙ sym (append_assoc A l (drop (length A + length l) buf))
    ∙ ap (λ (x : ℕ). (A ++ l) ++ drop x buf) n
