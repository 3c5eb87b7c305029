-- Bit vectors from cells.
use Rattle.std.specs.Prelude.{Bool, true, false, List, ◌++◌, [], ◌∷◌, ◌≡◌, ℕ, ◌+◌, ◌-◌, ◌^◌, ◌≤◌, ◌<◌, min, length, take, ltb, leb, Ok, Err}
use Rattle.std.proofs.Common.{refl, ap, sym, ◌∙◌, ap₂, arith, lt-ltb, le-ltb, le-leb, length-append, length-take}
use Rattle.std.proofs.lemmas.Bool.{lt-leb}
use Rattle.std.proofs.lemmas.List.Edits.{sets}
use Rattle.bit_vec.specs.Moves.{bytes_written, clear_cells}
use Rattle.number.proofs.Parts.{sets_saturated}
use Rattle.rules.specs.Basics.{pick}
use Rattle.rules.specs.Bits.{words8, words64, pack, lanes, clear}
use Rattle.rules.specs.Bytes.{whole}
use Rattle.rules.specs.Cells.{bits_taken}
use Rattle.rules.specs.Compact.{compact_bytes}
use Rattle.rules.specs.Form.{write, parse}
use Rattle.rules.specs.Parser.{Res, got, bad}
use Rattle.rules.specs.Put.{Put, put}
use Rattle.rules.specs.Refusals.{bit_count_at, cells_end_at, unfit_at, max_bits}
use Rattle.rules.specs.Types.{bits}
use Rattle.rules.specs.Wire.{leaf_bytes, bits_bytes}
use Rattle.rules.specs.declared.Halves.{Halves}
use Rattle.rules.specs.declared.Refusal.{Refusal}
use Rattle.rules.specs.declared.Width.TheVariants.{W4 as w4}
use Rattle.rules.proofs.Laws.Bits.{length_pack, length_lanes}
use Rattle.rules.proofs.Laws.Compact.Bound.{compact_longest}
use Rattle.rules.proofs.Laws.Places.{sets_length, sets_join}
use Rattle.leaf_put.proofs.Putting.{none_put, all_put}
use Rattle.leaf_put.specs.Landed.{Puts}

-- ---- the bits' bytes

module _ (n : ℕ) (cs : List ℕ) (h : words64 n ≤ length cs) where
  as_many : length (lanes 64 n (take (words64 n) cs)) ≡ n
  as_many = length_lanes 64 n (take (words64 n) cs) (omega (arith, length-take (words64 n) cs))

  laid : bits_bytes (lanes 64 n (take (words64 n) cs)) ≡ compact_bytes (whole n 0) ++ pack 8 (words8 n) (lanes 64 n (take (words64 n) cs))
  unfolding bits_bytes leaf_bytes
  laid =
      let z : n ≡ whole n 0 = omega arith in
      ap (λ k. compact_bytes k ++ pack 8 (words8 k) (lanes 64 n (take (words64 n) cs))) as_many ∙ ap (λ k. compact_bytes k ++ pack 8 (words8 n) (lanes 64 n (take (words64 n) cs))) z

  -- with the head's number in halves
  module _ {v : Halves} (ev : v ≡ record { low = n; high = 0 }) {head : ℕ} (eh : head ≡ length (compact_bytes (whole v.low v.high))) where
    said : whole v.low v.high ≡ whole n 0
    said = ap (λ (x : Halves). whole x.low x.high) ev

    size : head ≡ length (compact_bytes (whole n 0))
    size = eh ∙ ap (λ k. length (compact_bytes k)) said

    pub head_small : n ≤ max_bits → head ≤ 5
    head_small few = omega (arith, size, compact_longest w4 (whole n 0) (omega (arith, few)))

    pub lanes_count : head + words8 n ≡ length (bits_bytes (lanes 64 n (take (words64 n) cs)))
    lanes_count =
        let B = pack 8 (words8 n) (lanes 64 n (take (words64 n) cs)) in
        omega (arith, size, length-append (compact_bytes (whole n 0)) B, length_pack 8 (words8 n) (lanes 64 n (take (words64 n) cs)), ap length laid)

    -- (a place past 2^64 - 1 is as good as that one)
    pub lanes_put : (out : List ℕ) (pos : ℕ) {a b : List ℕ} → length out < 2 ^ 64 → a ≡ sets out pos (compact_bytes (whole v.low v.high)) → b ≡ bytes_written n cs a (min (pos + head) (2 ^ 64 - 1))
        → b ≡ sets out pos (bits_bytes (lanes 64 n (take (words64 n) cs)))
    unfolding bytes_written
    lanes_put out pos {a} {b} fits ea eb =
        let B = pack 8 (words8 n) (lanes 64 n (take (words64 n) cs)) in
        let C = compact_bytes (whole n 0) in
        let there : a ≡ sets out pos C = ea ∙ ap (λ k. sets out pos (compact_bytes k)) said in
        eb ∙ ap (λ x. pick x a (sets a (min (pos + head) (2 ^ 64 - 1)) B)) (le-ltb (length cs) (words64 n) h)
        ∙ sets_saturated B a (pos + head) (omega (arith, fits, ap length there, sets_length C out pos)) ∙ ap₂ (λ x k. sets x (pos + k) B) there size ∙ sets_join C B out pos ∙ ap (sets out pos) (sym laid)

-- ---- a bit vector's cells

-- a bit vector that is refused
pub bits_refused : (pos : ℕ) (cs out : List ℕ) {y : Refusal} {r : Put} → r ≡ Err y → bits_taken 0 cs ≡ bad y → Puts pos (put bits 0 cs) out out r
unfolding put parse write
bits_refused pos cs out e q = rw e (none_put bits_bytes pos out q)

pub bits_none : (cs : List ℕ) → length cs ≡ 0 → bits_taken 0 cs ≡ bad (cells_end_at 0)
unfolding bits_taken
bits_none [] e = refl
bits_none (c ∷ cs) e = absurd (omega arith)

module _ (n : ℕ) (s cs : List ℕ) (e : n ∷ s ≡ cs) where
  abbrev shown : Res (List Bool)
  shown = pick (clear 64 n (take (words64 n) s)) (got (lanes 64 n (take (words64 n) s)) (1 + words64 n)) (bad (unfit_at (0 + words64 n)))

  begun : bits_taken 0 cs ≡ pick (leb n max_bits) (pick (ltb (length s) (words64 n)) (bad (cells_end_at (0 + 1 + length s))) shown) (bad (bit_count_at 0))
  unfolding bits_taken
  begun = ap (bits_taken 0) (sym e)

  pub bits_many : max_bits < n → bits_taken 0 cs ≡ bad (bit_count_at 0)
  bits_many h = begun ∙ rw (lt-leb n max_bits h)

  module _ (few : n ≤ max_bits) where
    counted : bits_taken 0 cs ≡ pick (ltb (length s) (words64 n)) (bad (cells_end_at (0 + 1 + length s))) shown
    counted = begun ∙ rw (le-leb n max_bits few)

    -- (with the count of words as the code has it)
    module _ {words : ℕ} (ew : words ≡ words64 n) where
      pub bits_short : length s < words → bits_taken 0 cs ≡ bad (cells_end_at (length cs))
      bits_short h = let k : 0 + 1 + length s ≡ length cs = omega (arith, ap length e) in counted ∙ rw (lt-ltb (length s) (words64 n) (omega (arith, ew))) (ap (λ x. bad (cells_end_at x)) k)

      module _ (h : words ≤ length s) where
        held : bits_taken 0 cs ≡ shown
        held = counted ∙ rw (le-ltb (length s) (words64 n) (omega (arith, ew)))

        pub bits_set : clear_cells n s ≡ false → bits_taken 0 cs ≡ bad (unfit_at words)
        unfolding clear_cells
        bits_set c = let k : 0 + words64 n ≡ words = omega (arith, ew) in held ∙ rw c (ap (λ x. bad (unfit_at x)) k)

        pub bits_done : (pos : ℕ) (out : List ℕ) {used : ℕ} {m : List ℕ} → clear_cells n s ≡ true → used ≡ length (bits_bytes (lanes 64 n (take (words64 n) s)))
            → m ≡ sets out pos (bits_bytes (lanes 64 n (take (words64 n) s))) → Puts pos (put bits 0 cs) out m (Ok (1 + words, used))
        unfolding clear_cells put parse write
        bits_done pos out c eu em = all_put bits_bytes pos out (held ∙ rw c (ap (λ x. got (lanes 64 n (take (words64 n) s)) (1 + x)) (sym ew))) eu em
