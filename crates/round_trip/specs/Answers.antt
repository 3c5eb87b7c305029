-- Demand 2's round trips, about the own answers of `decode::read_front` and `encode::write`: r is any answer that the reader's contract allows and m what its lent cells are
-- afterwards; w and o are the writer's answer and output.
use Rattle.std.specs.Prelude.{List, ◌⊎◌, ◌≡◌, ℕ, ◌^◌, ◌≤◌, ◌<◌, length, drop, take, Ok}
use Rattle.std.proofs.Common.{ap, sym, ◌∙◌, le_refl, arith, take_all}
use Rattle.std.proofs.lemmas.List.{take-append-le}
use Rattle.rules.specs.Basics.{Under, onto}
use Rattle.rules.specs.Cells.{cells}
use Rattle.rules.specs.Demands.{Wrote}
use Rattle.rules.proofs.Laws.Demands.{front_cells}
use Rattle.rules.specs.Jobs.{Written, read_front, cut_to, cells_after, write_cells}
use Rattle.rules.specs.RoundTrip.{Back}
use Rattle.rules.specs.Scan.{scanned}
use Rattle.rules.specs.Scan.Accept.{answer}
use Rattle.rules.specs.Table.{root}
use Rattle.rules.specs.Totals.{nesting, charge, vectors}
use Rattle.rules.specs.Types.{Val}
use Rattle.rules.specs.Wire.{encode}
use Rattle.rules.specs.declared.Limits.{Limits}
use Rattle.rules.specs.Scan.{Scan}
use Rattle.rules.specs.declared.Totals.{Totals}
use Rattle.decode.specs.Answers as reader
use Rattle.encode.specs.Answers as writer

-- the counted cells are the new ones
counted : (x l : List ℕ) → take (length x) (onto x l) ≡ x
counted x l = take-append-le (length x) x (drop (length x) l) (le_refl (length x)) ∙ take_all (length x) x (le_refl (length x))

-- writing the counted cells of an accepted reading gives the bytes that were read, but for the bits that don't count
pub writes_read : (tb s : List ℕ) (lim : Limits) (l : List ℕ) (r : Scan) (m : List ℕ) (u : Totals) (n : ℕ) (out : List ℕ) (w : Written) (o : List ℕ) → lim.memory < 2 ^ 64 → Under 256 s
    → reader.Contract read_front tb s lim l r m → r ≡ Ok (u, n) → writer.Contract (write_cells tb (take u.cells m) (length out)) out w o → n ≤ length out
    → (v : Val (root tb)) × Back (root tb) s v n × (w ≡ Ok n) × (o ≡ onto (encode (root tb) v) out)
writes_read tb s lim l r m u n out w o memory b c e d h =
    let a = reader.read_accepted tb s lim l r m memory c u n e in
    let v = a.1.0 in
    let read : read_front tb s (cut_to (length l) lim) ≡ Ok (u, n) = sym c.answers ∙ e in
    let many : u.cells ≡ length (cells (root tb) v) = ap (λ (x : Totals). x.cells) a.1.2 in
    let these : take u.cells m ≡ cells (root tb) v = ap (λ k. take k m) many ∙ ap (take (length (cells (root tb) v))) a.1.3 ∙ counted (cells (root tb) v) l in
    let same : take u.cells m ≡ scanned (root tb) (cut_to (length l) lim) s = these ∙ sym (front_cells tb s (cut_to (length l) lim) u n v n read a.1.1.reads) in
    writer.writes_read tb (take u.cells m) out w o d s (cut_to (length l) lim) u n memory b read same h

-- and reading what was written gives the same cells, under limits that admit the value
pub reads_written : (tb cs out : List ℕ) (w : Written) (o : List ℕ) (n : ℕ) (lim : Limits) (l : List ℕ) (r : Scan) (m : List ℕ) → lim.memory < 2 ^ 64 → Under (2 ^ 64) cs
    → writer.Contract (write_cells tb cs (length out)) out w o → w ≡ Ok n → reader.Contract read_front tb o lim l r m
    → (v : Val (root tb)) × Wrote (root tb) cs (length out) (encode (root tb) v) v
    × (nesting (root tb) v ≤ lim.depth → length cs ≤ lim.cells → length cs ≤ length l → (vectors (root tb) v ≡ 0) ⊎ (charge (root tb) v < lim.memory)
    → (r ≡ Ok (answer (root tb) v, n)) × (m ≡ onto cs l))
reads_written tb cs out w o n lim l r m memory u d e c =
    let a = writer.reads_written tb cs out w o d (cut_to (length l) lim) n memory u e in
    let v = a.0 in (
      v,
      a.1,
      λ deep room lent below.
          let q = a.2 deep (omega (arith, room, lent)) below in
          let k : r ≡ Ok (answer (root tb) v, n) = c.answers ∙ q.0 in
          (k, c.writes ∙ ap (λ x. cells_after (scanned (root tb) (cut_to (length l) lim) o) x l) k ∙ ap (λ x. onto x l) q.1),
    )
