-- What an append answers and leaves, where its plan refuses nothing: the items are put into the lent tail, behind the bytes that were moved.
use Rattle.std.specs.Prelude.{List, ◌++◌, ◌≡◌, ℕ, ◌-◌, ◌^◌, length, drop, take}
use Rattle.std.proofs.Common.{ap, sym, ◌∙◌, arith, append_assoc, length-append, length-drop, length-take-le}
use Rattle.rules.specs.Basics.{onto}
use Rattle.rules.specs.Compact.{compact_bytes}
use Rattle.rules.specs.Jobs.{write_items, output_after, append}
use Rattle.rules.proofs.Laws.Places.{part_rest}
use Rattle.encode_append.proofs.Moving.{behind_front}
use Rattle.encode_append.specs.Joins.{Plan, bytes_of, Joins}

module _ {tb buf : List ℕ} {used k : ℕ} {cs : List ℕ} {p : Plan} (J : Joins tb buf used k cs p) where
  kept_long : length (compact_bytes p.heads.count ++ drop p.heads.old (take used buf)) ≡ p.end
  kept_long =
      omega (arith, length-append (compact_bytes p.heads.count) (drop p.heads.old (take used buf)), length-drop p.heads.old (take used buf), length-take-le used buf J.heads.there, J.heads.long, J.end)

  -- b is the buffer with its new head, and x what the item writer leaves in its tail
  module _ {b : List ℕ} (eb : b ≡ onto (compact_bytes p.heads.count ++ drop p.heads.old (take used buf)) buf) (lb : length b ≡ length buf) where
    room : length (take (length b - p.end) (drop p.end b)) ≡ length buf - p.end
    room = ap length (part_rest p.end b) ∙ length-drop p.end b ∙ ap (λ y. y - p.end) lb

    pub join_leaves : (x : List ℕ) → x ≡ output_after (write_items tb k cs (length (take (length b - p.end) (drop p.end b)))) (take (length b - p.end) (drop p.end b))
        → take p.end b ++ (x ++ drop (length b - p.end) (drop p.end b)) ≡ output_after (append tb buf used k cs) buf
    join_leaves x ex =
        let H : List ℕ = compact_bytes p.heads.count in
        let K : List ℕ = drop p.heads.old (take used buf) in
        let l : List ℕ = bytes_of (write_items tb k cs (2 ^ 64 - 1)) in
        let put : x ≡ onto l (take (length b - p.end) (drop p.end b)) =
        ex ∙ ap (λ r. output_after (write_items tb k cs r) (take (length b - p.end) (drop p.end b))) room ∙ ap (λ o. output_after o (take (length b - p.end) (drop p.end b))) J.written in
        behind_front (H ++ K) l buf b x p.end (sym kept_long) (omega (arith, kept_long, J.fits)) eb put
        ∙ ap (λ y. onto y buf) (append_assoc H K l) ∙ sym (ap (λ o. output_after o buf) J.appended)
