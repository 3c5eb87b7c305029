-- Demands 1 and 2 about the public functions' own answers: r is any answer that the contract allows, and m what the lent output is afterwards.
use Rattle.std.specs.Prelude.{Bool, List, ◌++◌, [], ◌⊎◌, ℕ, ◌-◌, ◌^◌, ◌≤◌, ◌<◌, drop, Option, Some, None, Ok, Err}
use Rattle.std.proofs.Math.Bool.{true, false}
use Rattle.std.proofs.Common.{append-nil, sym, ◌∙◌, subst, le_refl, arith, ltb-true, ltb-false, lt-ltb, le-ltb}
use Rattle.std.proofs.Math.Path.{◌≡◌, refl, ap}
use Rattle.std.proofs.Math.Dec.{ltb}
use Rattle.std.proofs.Math.ListN.{length}
use Rattle.rules.specs.Basics.{pick, Under, onto}
use Rattle.rules.specs.Cells.{cells, unpack}
use Rattle.rules.specs.Demands.{Wrote}
use Rattle.rules.proofs.Laws.Demands.{front_accepts, front_accepted, front_cells, output_writes, output_wrote}
use Rattle.rules.specs.Jobs.{read_front, Output, wrote, not, fitted, put_out, output, write_cells, Written, written_of, output_after, written_fields}
use Rattle.rules.specs.Parser.{Res, got, bad}
use Rattle.rules.specs.Refusals.{output_small, cells_left_at, number_of}
use Rattle.rules.specs.RoundTrip.{Back}
use Rattle.rules.proofs.Laws.RoundTrip.{read_written, written_back, unpack_cells}
use Rattle.rules.specs.Scan.{scanned}
use Rattle.rules.specs.Scan.Accept.{Accepted, answer}
use Rattle.rules.specs.Table.{Check, fine, root, check_table, after_check, Longest, longest_of}
use Rattle.rules.specs.Table.Laws.{Good}
use Rattle.rules.proofs.Laws.Table.{check_good, good_check}
use Rattle.rules.specs.Totals.{longest, nesting, charge, vectors}
use Rattle.rules.specs.Totals.Bound.{AtMost}
use Rattle.rules.specs.Types.{Val, Fits}
use Rattle.rules.specs.Wire.{encode, read}
use Rattle.rules.specs.declared.Limits.{Limits}
use Rattle.rules.specs.declared.Refusal.{Refusal}
use Rattle.rules.specs.declared.Totals.{Totals}

-- what a contract says for the job o
pub record Contract (o : Output) (out : List ℕ) (r : Written) (m : List ℕ) : Type 0 where
  pub answers : r ≡ written_of o
  pub writes : m ≡ output_after o out

-- any two answers that it allows are equal, and so are the outputs
pub one_writing : (o : Output) (out : List ℕ) (r r' : Written) (m m' : List ℕ) → Contract o out r m → Contract o out r' m' → (r ≡ r') × (m ≡ m')
one_writing o out r r' m m' c d = (c.answers ∙ sym d.answers, c.writes ∙ sym d.writes)

-- DEMAND 1: a refusal leaves the lent output as it was
pub refusal_leaves : (o : Output) (out : List ℕ) (r : Written) (m : List ℕ) (y : Refusal) → Contract o out r m → r ≡ Err y → m ≡ out
refusal_leaves (wrote l) out r m y c e = absurd (let q = sym c.answers ∙ e in let z : ◌≡◌ {A = ℕ} 0 1 = cc in omega arith)
refusal_leaves (not x) out r m y c e = c.writes

-- bytes that are written stand at the front, and the others stay
pub written_front : (o : Output) (out : List ℕ) (r : Written) (m : List ℕ) (n : ℕ) → Contract o out r m → r ≡ Ok n → (l : List ℕ) × (o ≡ wrote l) × (length l ≡ n) × (m ≡ onto l out)
written_front (wrote l) out r m n c e = let q = sym c.answers ∙ e in let k : length l ≡ n = cc in (l, refl, k, c.writes)
written_front (not x) out r m n c e = absurd (let q = sym c.answers ∙ e in let z : ◌≡◌ {A = ℕ} 0 1 = cc in omega arith)

-- ---- writing a value of the root

-- DEMAND 1: why a write is refused, in the order of the rules' list: the table; the cells, by the rules of `unpack`; cells left over; too little room
pub data Why (tb cs : List ℕ) (room : ℕ) (y : Refusal) : Type 0 where
  by_table : check_table tb ≡ Err y → Why tb cs room y
  by_cells : check_table tb ≡ fine → unpack (root tb) 0 cs ≡ bad y → Why tb cs room y
  by_rest : check_table tb ≡ fine → (v : Val (root tb)) (n : ℕ) → unpack (root tb) 0 cs ≡ got v n → n < length cs → y ≡ cells_left_at n → Why tb cs room y
  by_room : check_table tb ≡ fine → (v : Val (root tb)) (n : ℕ) → unpack (root tb) 0 cs ≡ got v n → length cs ≤ n → room < length (encode (root tb) v) → y ≡ output_small → Why tb cs room y

module _ (tb cs : List ℕ) (room : ℕ) where
  at_root : check_table tb ≡ fine → write_cells tb cs room ≡ output (root tb) cs room
  unfolding write_cells
  at_root e = ap (λ x. after_check x not (output (root tb) cs room)) e

  after_fine : check_table tb ≡ fine → write_cells tb cs room ≡ put_out (length cs) room (encode (root tb)) (unpack (root tb) 0 cs)
  unfolding output
  after_fine e = at_root e

  after_wrong : (y : Refusal) → check_table tb ≡ Err y → write_cells tb cs room ≡ not y
  unfolding write_cells
  after_wrong y e = ap (λ x. after_check x not (output (root tb) cs room)) e

  fine_of : (l : List ℕ) → write_cells tb cs room ≡ wrote l → check_table tb ≡ fine
  fine_of l e = go (check_table tb) refl
    where
      go : (x : Check) → check_table tb ≡ x → x ≡ fine
      go fine q = refl
      go (Err y) q = absurd (let f = sym (after_wrong y q) ∙ e in let z : ◌≡◌ {A = ℕ} 0 1 = cc in omega arith)

  pub refused_why : (y : Refusal) → write_cells tb cs room ≡ not y → Why tb cs room y
  refused_why y e = go (check_table tb) refl
    where
      unpacked : check_table tb ≡ fine → (x : Res (Val (root tb))) → unpack (root tb) 0 cs ≡ x → put_out (length cs) room (encode (root tb)) x ≡ not y → Why tb cs room y
      unpacked f (bad z) q h = let k : z ≡ y = unfold put_out in cc in by_cells f (q ∙ ap bad k)
      unpacked f (got v n) q h = rest (ltb n (length cs)) refl (unfold put_out in h)
        where
          space : length cs ≤ n → (b : Bool) → ltb room (length (encode (root tb) v)) ≡ b → pick b (not output_small) (wrote (encode (root tb) v)) ≡ not y → Why tb cs room y
          space p true g k = let z : output_small ≡ y = cc in by_room f v n q p (ltb-true room (length (encode (root tb) v)) g) (sym z)
          space p false g k = absurd (let z : ◌≡◌ {A = ℕ} 0 1 = cc in omega arith)

          rest : (b : Bool) → ltb n (length cs) ≡ b → pick b (not (cells_left_at n)) (fitted room (encode (root tb) v)) ≡ not y → Why tb cs room y
          rest true g k = let z : cells_left_at n ≡ y = cc in by_rest f v n q (ltb-true n (length cs) g) (sym z)
          rest false g k = space (ltb-false n (length cs) g) (ltb room (length (encode (root tb) v))) refl k

      go : (x : Check) → check_table tb ≡ x → Why tb cs room y
      go (Err z) q = let k : z ≡ y = (let f = sym (after_wrong z q) ∙ e in cc) in by_table (q ∙ ap Err k)
      go fine q = unpacked q (unpack (root tb) 0 cs) refl (sym (after_fine q) ∙ e)

  pub why_refused : (y : Refusal) → Why tb cs room y → write_cells tb cs room ≡ not y
  unfolding put_out
  why_refused y (by_table e) = after_wrong y e
  why_refused y (by_cells f e) = after_fine f ∙ ap (put_out (length cs) room (encode (root tb))) e
  why_refused y (by_rest f v n e h k) =
      after_fine f ∙ ap (put_out (length cs) room (encode (root tb))) e ∙ ap (λ b. pick b (not (cells_left_at n)) (fitted room (encode (root tb) v))) (lt-ltb n (length cs) h) ∙ ap not (sym k)
  why_refused y (by_room f v n e h g k) =
      after_fine f ∙ ap (put_out (length cs) room (encode (root tb))) e ∙ ap (λ b. pick b (not (cells_left_at n)) (fitted room (encode (root tb) v))) (le-ltb n (length cs) h)
      ∙ ap (λ b. pick b (not output_small) (wrote (encode (root tb) v))) (lt-ltb room (length (encode (root tb) v)) g) ∙ ap not (sym k)

module _ (tb cs out : List ℕ) (r : Written) (m : List ℕ) (c : Contract (write_cells tb cs (length out)) out r m) where
  -- DEMAND 2: what is written is the encoding of the value whose cells were given, exactly if there is one and it has room
  pub write_accepts : Good tb → (v : Val (root tb)) → Fits (root tb) v → cells (root tb) v ≡ cs → length (encode (root tb) v) ≤ length out
      → (r ≡ Ok (length (encode (root tb) v))) × (m ≡ onto (encode (root tb) v) out)
  write_accepts g v f k h =
      let e : write_cells tb cs (length out) ≡ wrote (encode (root tb) v) =
      at_root tb cs (length out) (good_check tb g) ∙ ap (λ x. output (root tb) x (length out)) (sym k) ∙ output_writes (root tb) v (length out) f h in
      (c.answers ∙ ap written_of e, c.writes ∙ ap (λ o. output_after o out) e)

  pub write_accepted : Under (2 ^ 64) cs → (n : ℕ) → r ≡ Ok n
      → Good tb × ((v : Val (root tb)) × Wrote (root tb) cs (length out) (encode (root tb) v) v × (n ≡ length (encode (root tb) v)) × (m ≡ onto (encode (root tb) v) out))
  write_accepted u n e =
      let w = written_front (write_cells tb cs (length out)) out r m n c e in
      let l = w.0 in
      let f = fine_of tb cs (length out) l w.1 in
      let o = output_wrote (root tb) cs (length out) l u (sym (at_root tb cs (length out) f) ∙ w.1) in
      let v = o.0 in
      let b : l ≡ encode (root tb) v = o.1.bytes in
      (check_good tb f, (v, subst (λ x. Wrote (root tb) cs (length out) x v) b o.1, sym w.2 ∙ ap length b, w.3 ∙ ap (λ x. onto x out) b))

  -- a refusal is given exactly where the rules' list says
  pub write_refused : (y : Refusal) → r ≡ Err y → Why tb cs (length out) y
  write_refused y e = go (write_cells tb cs (length out)) refl
    where
      go : (o : Output) → write_cells tb cs (length out) ≡ o → Why tb cs (length out) y
      go (wrote l) q = absurd (let f : Ok (length l) ≡ Err y = sym (ap written_of q) ∙ sym c.answers ∙ e in let z : ◌≡◌ {A = ℕ} 0 1 = cc in omega arith)
      go (not x) q = let f : Err x ≡ Err y = sym (ap written_of q) ∙ sym c.answers ∙ e in let k : x ≡ y = cc in refused_why tb cs (length out) y (q ∙ ap not k)

  pub write_refuses : (y : Refusal) → Why tb cs (length out) y → (r ≡ Err y) × (m ≡ out)
  write_refuses y h = let e = why_refused tb cs (length out) y h in (c.answers ∙ ap written_of e, c.writes ∙ ap (λ o. output_after o out) e)

  -- an accepted write is at most as long as the table's longest length, where there is one
  pub write_most : Under (2 ^ 64) cs → (n k : ℕ) → r ≡ Ok n → longest_of tb ≡ Ok (Some k) → n ≤ k
  write_most u n k e q =
      let w = write_accepted u n e in
      let g = w.0 in
      let most : AtMost (longest (root tb)) n = subst (AtMost (longest (root tb))) (sym w.1.2) w.1.1.most in
      bounded (longest (root tb)) most (sym (ap (λ x. after_check {A = Longest} x Err (Ok (longest (root tb)))) (good_check tb g)) ∙ (unfold longest_of in q))
    where
      bounded : (b : Option ℕ) → AtMost b n → ◌≡◌ {A = Longest} (Ok b) (Ok (Some k)) → n ≤ k
      bounded (Some j) h f = let z : j ≡ k = cc in omega (arith, h, z)
      bounded None h f = absurd (let z : ◌≡◌ {A = ℕ} 0 1 = cc in omega arith)

  -- DEMAND 2, round trips. The cells of an accepted reading are written as the bytes that were read, but for the bits that don't count
  pub writes_read : (s : List ℕ) (lim : Limits) (t : Totals) (n : ℕ) → lim.memory < 2 ^ 64 → Under 256 s → read_front tb s lim ≡ Ok (t, n) → cs ≡ scanned (root tb) lim s → n ≤ length out
      → (v : Val (root tb)) × Back (root tb) s v n × (r ≡ Ok n) × (m ≡ onto (encode (root tb) v) out)
  writes_read s lim t n memory b e k h =
      let a = front_accepted tb s lim memory t n e in
      let v = a.1.0 in
      let back = written_back (root tb) 0 s v n b a.1.1.reads in
      let same : cells (root tb) v ≡ cs = sym (front_cells tb s lim t n v n e a.1.1.reads) ∙ sym k in
      let w = write_accepts a.0 v back.fits same (subst (λ x. x ≤ length out) (sym back.used) h) in
      (v, back, w.0 ∙ ap Ok back.used, w.1)

  -- and what was written is read as the same cells, under limits that admit the value
  pub reads_written : (lim : Limits) (n : ℕ) → lim.memory < 2 ^ 64 → Under (2 ^ 64) cs → r ≡ Ok n
      → (v : Val (root tb)) × Wrote (root tb) cs (length out) (encode (root tb) v) v
      × (nesting (root tb) v ≤ lim.depth → length cs ≤ lim.cells → (vectors (root tb) v ≡ 0) ⊎ (charge (root tb) v < lim.memory)
      → (read_front tb m lim ≡ Ok (answer (root tb) v, n)) × (scanned (root tb) lim m ≡ cs))
  reads_written lim n memory u e =
      let w = write_accepted u n e in
      let v = w.1.0 in
      let W = w.1.1 in
      (v, W, λ d f h. again w.0 v W w.1.2 w.1.3 d f h)
    where
      again : Good tb → (v : Val (root tb)) → Wrote (root tb) cs (length out) (encode (root tb) v) v → n ≡ length (encode (root tb) v) → m ≡ onto (encode (root tb) v) out
          → nesting (root tb) v ≤ lim.depth → length cs ≤ lim.cells → (vectors (root tb) v ≡ 0) ⊎ (charge (root tb) v < lim.memory)
          → (read_front tb m lim ≡ Ok (answer (root tb) v, n)) × (scanned (root tb) lim m ≡ cs)
      again g v W en em d f h =
          let rest = drop (length (encode (root tb) v)) out in
          let reads : read (root tb) 0 m ≡ got v n = subst (λ x. read (root tb) 0 x ≡ got v n) (sym em) (read_written (root tb) v W.fits 0 rest ∙ ap (got v) (sym en)) in
          let a : Accepted (root tb) lim m v n = record { reads = reads; nests = d; fills = subst (λ l. length l ≤ lim.cells) (sym W.given) f; charges = h } in
          let q = front_accepts tb m lim memory g v n a in
          (q, front_cells tb m lim (answer (root tb) v) n v n q reads ∙ W.given)

-- DEMAND 1: a refusal has number and place, with 0 in every other field
pub refusal_fields : (o : Output) (out : List ℕ) (r : Written) (m : List ℕ) (y : Refusal) → Contract o out r m → r ≡ Err y
    → written_fields r ≡ record { number = number_of y.reason; place = y.place; bytes = 0; cells = 0; charge = 0; depth = 0 }
refusal_fields o out r m y c e = ap written_fields e

-- ---- the size: it tells the room that a write needs

-- the value that it is the size of
abbrev SizeOf : List ℕ → List ℕ → ℕ → Type 0
SizeOf tb cs n = (v : Val (root tb)) × (check_table tb ≡ fine) × (Fits (root tb) v) × (cells (root tb) v ≡ cs) × (length (encode (root tb) v) ≡ n)

measured : (tb cs : List ℕ) (q : Written) (n : ℕ) → Under (2 ^ 64) cs → q ≡ written_of (write_cells tb cs (2 ^ 64 - 1)) → q ≡ Ok n → SizeOf tb cs n
measured tb cs q n u e f = go (write_cells tb cs (2 ^ 64 - 1)) refl
  where
    go : (o : Output) → write_cells tb cs (2 ^ 64 - 1) ≡ o → SizeOf tb cs n
    go (not y) k = absurd (let z0 : Err y ≡ Ok n = sym (ap written_of k) ∙ sym e ∙ f in let z : ◌≡◌ {A = ℕ} 0 1 = cc in omega arith)
    go (wrote l) k =
        let z0 : Ok (length l) ≡ Ok n = sym (ap written_of k) ∙ sym e ∙ f in
        let z1 : length l ≡ n = cc in
        let g = fine_of tb cs (2 ^ 64 - 1) l k in
        let o = output_wrote (root tb) cs (2 ^ 64 - 1) l u (sym (at_root tb cs (2 ^ 64 - 1) g) ∙ k) in
        (o.0, g, o.1.fits, o.1.given, sym (ap length o.1.bytes) ∙ z1)

pub size_tells : (tb cs out : List ℕ) (q r : Written) (m : List ℕ) (n : ℕ) → Under (2 ^ 64) cs → q ≡ written_of (write_cells tb cs (2 ^ 64 - 1)) → q ≡ Ok n → n ≤ length out
    → Contract (write_cells tb cs (length out)) out r m → r ≡ Ok n
size_tells tb cs out q r m n u e f h c =
    let (v, g, fits, given, b) = measured tb cs q n u e f in
    (write_accepts tb cs out r m c (check_good tb g) v fits given (subst (λ x. x ≤ length out) (sym b) h)).0 ∙ ap Ok b

-- .. and with less room it is 22
pub size_asks : (tb cs out : List ℕ) (q r : Written) (m : List ℕ) (n : ℕ) → Under (2 ^ 64) cs → q ≡ written_of (write_cells tb cs (2 ^ 64 - 1)) → q ≡ Ok n → length out < n
    → Contract (write_cells tb cs (length out)) out r m → r ≡ Err output_small
size_asks tb cs out q r m n u e f h c =
    let (v, g, fits, given, b) = measured tb cs q n u e f in
    let taken : unpack (root tb) 0 cs ≡ got v (length cs) =
    subst (λ x. unpack (root tb) 0 x ≡ got v (length x)) (append-nil (cells (root tb) v) ∙ given) (subst (λ k. unpack (root tb) 0 (cells (root tb) v ++ []) ≡ got v k) (sym (ap length (append-nil (cells (root tb) v)))) (unpack_cells (root tb) v fits 0 [])) in
    (write_refuses tb cs out r m c output_small (by_room g v (length cs) taken (le_refl (length cs)) (subst (λ x. length out < x) (sym b) h) refl)).0
