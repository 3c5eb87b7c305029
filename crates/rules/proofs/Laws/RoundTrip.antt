-- What the readers and writers of bytes and of cells undo: demand 2 over the definitions.
use Rattle.std.specs.Prelude.{List, ◌++◌, [], ◌⊎◌, ◌≡◌, refl, ℕ, zero, suc, ◌^◌, ◌≤◌, ◌<◌, length, take, replicate, Ok}
use Rattle.std.proofs.Common.{append-nil, sym, ◌∙◌, subst, length-take-le}
use Rattle.std.proofs.Math.Seq.{take-length}
use Rattle.rules.specs.Basics.{All, Under}
use Rattle.rules.specs.Types.{Ty, Val, Fits}
use Rattle.rules.proofs.Laws.Bytes.{under_take}
use Rattle.rules.proofs.Laws.Bits.{same_like, like_keep}
use Rattle.rules.specs.Parser.{got}
use Rattle.rules.specs.Form.{write}
use Rattle.rules.proofs.Laws.Form.{reads, returns}
use Rattle.rules.specs.Wire.{leaf_bytes, bytes, encode, widths, from_bytes, read}
use Rattle.rules.proofs.Laws.Wire.{wire_reads, wire_returns}
use Rattle.rules.specs.Cells.{leaf_cells, bits_cells, as_cells, cells, from_cells, unpack}
use Rattle.rules.specs.Cells.Laws.{full}
use Rattle.rules.proofs.Laws.Cells.{cells_read_lem, cells_return}
use Rattle.rules.specs.Totals.{nesting, charge, vectors}
use Rattle.rules.specs.Form.Units.{Over}
use Rattle.rules.proofs.Laws.Form.Units.{over_any, units}
use Rattle.rules.specs.Scan.{Limits, Totals, scan, scanned}
use Rattle.rules.specs.Scan.Accept.{answer}
use Rattle.rules.proofs.Laws.Scan.Accept.{accepts, accepted, passed}
use Rattle.rules.specs.RoundTrip.{Back}

all_same : (n k : ℕ) → All (λ x. x ≡ k) (replicate n k)
all_same zero k = tt
all_same (suc n) k = (refl, all_same n k)

-- what was written is read, whatever follows
pub read_written : (t : Ty) (v : Val t) → Fits t v → (at : ℕ) (rest : List ℕ) → read t at (encode t v ++ rest) ≡ got v (length (encode t v))
read_written t v h at rest = reads bytes from_bytes wire_reads t v h at rest

pub written_back : (t : Ty) (at : ℕ) (s : List ℕ) (v : Val t) (n : ℕ) → Under 256 s → read t at s ≡ got v n → Back t s v n
written_back t at s v n u e =
    let r = returns bytes widths from_bytes 256 wire_returns t at s v n u e in
    let k = like_keep (write widths t v) (encode t v) (take n s) r.1.1 in
    record { there = r.0; fits = r.1.0; used = k.1 ∙ length-take-le n s r.0; same = k.0 }

-- exactly, for a type with no bit vector
pub written_exactly : (t : Ty) → Over ⊥ t → (at : ℕ) (s : List ℕ) (v : Val t) (n : ℕ) → Under 256 s → read t at s ≡ got v n → encode t v ≡ take n s
written_exactly t o at s v n u e =
    let r = returns bytes widths from_bytes 256 wire_returns t at s v n u e in
    same_like 8 (write widths t v) (encode t v) (take n s)
    (units (λ x. x ≡ 8) ⊥ widths (λ k v h. all_same (length (leaf_bytes k v)) 8) (λ b. absurd b) t o v r.1.0) (under_take 256 n s u) r.1.1

-- a value's cells are taken for it, and cells that are taken are the value's
pub unpack_cells : (t : Ty) (v : Val t) → Fits t v → (at : ℕ) (rest : List ℕ) → unpack t at (cells t v ++ rest) ≡ got v (length (cells t v))
unpack_cells t v h at rest = reads as_cells from_cells cells_read_lem t v h at rest

pub cells_unpacked : (t : Ty) (at : ℕ) (cs : List ℕ) (v : Val t) (n : ℕ) → Under (2 ^ 64) cs → unpack t at cs ≡ got v n
    → (n ≤ length cs) × Fits t v × (cells t v ≡ take n cs)
cells_unpacked t at cs v n u e =
    let r = returns as_cells full from_cells (2 ^ 64) cells_return t at cs v n u e in (
      r.0,
      r.1.0,
      same_like 64 (write full t v) (cells t v) (take n cs)
          (units (λ x. x ≡ 64) (Prim.Unit {0}) full (λ k v h. all_same (length (leaf_cells k v)) 64) (λ b v h. all_same (length (bits_cells v)) 64) t (over_any t) v r.1.0) (under_take (2 ^ 64) n cs u) r.1.1,
    )

-- ---- DEMAND 2, between cells and bytes

-- writing the cells of an accepted reading gives the bytes that were read, but for the bits that don't count
pub rewritten : (t : Ty) (lim : Limits) (s : List ℕ) → lim.memory < 2 ^ 64 → Under 256 s → (u : Totals) (n : ℕ) → scan t lim s ≡ Ok (u, n)
    → (v : Val t) × (unpack t 0 (scanned t lim s) ≡ got v (length (scanned t lim s))) × Back t s v n
rewritten t lim s m b u n e =
    let a = accepted t lim s m u n e in
    let v = a.0 in
    let w = written_back t 0 s v n b a.1.reads in
    let c : scanned t lim s ≡ cells t v = passed t lim s v u n n a.1.reads e in
    (v, subst (λ l. unpack t 0 l ≡ got v (length l)) (sym c) (subst (λ l. unpack t 0 l ≡ got v (length (cells t v))) (append-nil (cells t v)) (unpack_cells t v w.fits 0 [])), w)

-- reading what was written from cells gives the same cells, under limits that admit it
pub reread : (t : Ty) (lim : Limits) (cs : List ℕ) (v : Val t) → lim.memory < 2 ^ 64 → Under (2 ^ 64) cs → unpack t 0 cs ≡ got v (length cs)
    → nesting t v ≤ lim.depth → length cs ≤ lim.cells → (vectors t v ≡ 0) ⊎ (charge t v < lim.memory)
    → (rest : List ℕ) → (scan t lim (encode t v ++ rest) ≡ Ok (answer t v, length (encode t v))) × (scanned t lim (encode t v ++ rest) ≡ cs)
reread t lim cs v m u e hd hc hm rest =
    let r = cells_unpacked t 0 cs v (length cs) u e in
    let c : cells t v ≡ cs = r.2 ∙ take-length cs in
    let q : read t 0 (encode t v ++ rest) ≡ got v (length (encode t v)) = read_written t v r.1 0 rest in
    let d : scan t lim (encode t v ++ rest) ≡ Ok (answer t v, length (encode t v)) =
    accepts t lim (encode t v ++ rest) m v (length (encode t v)) (record { reads = q; nests = hd; fills = subst (λ l. length l ≤ lim.cells) (sym c) hc; charges = hm }) in
    (d, passed t lim (encode t v ++ rest) v (answer t v) (length (encode t v)) (length (encode t v)) q d ∙ c)
