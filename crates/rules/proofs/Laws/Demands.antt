-- The demands as sentences about whole jobs: the answers of `read_front`, `read_whole` and `write_cells` are the public functions' own, by their contracts.
use Rattle.std.specs.Prelude.{Bool, true, false, List, ◌++◌, [], ◌⊎◌, ◌≡◌, ℕ, ◌^◌, ◌≤◌, ◌<◌, ltb, length, Ok, Err}
use Rattle.std.proofs.Common.{append-nil, inl, inr, ap, sym, ◌∙◌, subst, le_refl, arith, ltb-false, le-ltb, take_all}
use Rattle.std.proofs.Math.Path.{refl}
use Rattle.rules.specs.Refusals.{Refusal, bytes_left_at, output_small, cells_left_at, number_of}
use Rattle.rules.specs.Basics.{pick, Under}
use Rattle.rules.proofs.Laws.Basics.{same_parts}
use Rattle.rules.specs.Types.{Ty, Val, Fits}
use Rattle.rules.specs.Parser.{Res, got, bad}
use Rattle.rules.specs.Wire.{encode, read}
use Rattle.rules.proofs.Laws.Wire.Used.{read_used}
use Rattle.rules.specs.Cells.{cells, unpack}
use Rattle.rules.specs.Totals.{longest}
use Rattle.rules.specs.Totals.Bound.{AtMost}
use Rattle.rules.proofs.Laws.Totals.Bound.{written_most}
use Rattle.rules.specs.Scan.{Limits, Totals, Scan, start, scan, scanned, filling, scan_all}
use Rattle.rules.proofs.Laws.Scan.Pass.{pass_front}
use Rattle.rules.specs.Scan.Barred.{Wider}
use Rattle.rules.specs.Scan.Accept.{Accepted, answer}
use Rattle.rules.proofs.Laws.Scan.Accept.{accepts, accepted, passed}
use Rattle.rules.specs.Scan.Steady.{ByLimit, Short}
use Rattle.rules.proofs.Laws.Scan.Steady.{scan_wider, scan_grown}
use Rattle.rules.proofs.Laws.Scan.Held.{pass_held}
use Rattle.rules.specs.Table.{Check, fine, root, check_table, after_check, longest_of}
use Rattle.rules.specs.Table.Laws.{Good}
use Rattle.rules.proofs.Laws.Table.{check_good, good_check}
use Rattle.rules.proofs.Laws.RoundTrip.{unpack_cells, cells_unpacked}
use Rattle.rules.specs.Jobs.{read_front, read_whole, cut_to, wrote, not, fitted, put_out, output, check_fields, longest_fields}
use Rattle.rules.specs.Demands.{Wrote, Decided}

-- ---- where the table is refused, and where it is fine

front_fine : (tb s : List ℕ) (lim : Limits) → check_table tb ≡ fine → read_front tb s lim ≡ scan (root tb) lim s
unfolding read_front
front_fine tb s lim c = ap (λ x. after_check x Err (scan (root tb) lim s)) c

whole_fine : (tb s : List ℕ) (lim : Limits) → check_table tb ≡ fine → read_whole tb s lim ≡ scan_all (root tb) lim s
unfolding read_whole
whole_fine tb s lim c = ap (λ x. after_check x Err (scan_all (root tb) lim s)) c

-- a job that is done has a table that is fine
done_fine : (c : Check) (x : Scan) (u : Totals) (n : ℕ) → after_check c Err x ≡ Ok (u, n) → (c ≡ fine) × (x ≡ Ok (u, n))
done_fine fine x u n e = (refl, e)
done_fine (Err y) x u n e = absurd (let z : ◌≡◌ {A = ℕ} 0 1 = cc in omega arith)

-- ---- DEMAND 1: a refusal has its number and place, and 0 in every other field; of the table's check and its longest length (of reading and writing: *Answers* of decode and encode)

pub check_refused : (tb : List ℕ) (y : Refusal) → check_table tb ≡ Err y
    → check_fields (check_table tb) ≡ record { number = number_of y.reason; place = y.place; bytes = 0; cells = 0; charge = 0; depth = 0 }
check_refused tb y e = ap check_fields e

pub longest_refused : (tb : List ℕ) (y : Refusal) → longest_of tb ≡ Err y → longest_fields (longest_of tb) ≡ record { number = number_of y.reason; place = y.place; has = 0; bytes = 0 }
longest_refused tb y e = ap longest_fields e

-- ---- DEMAND 3: a front read is accepted exactly if the written rules, without limits, read a value there, it nests at most D deep, fills at most C cells, and
-- has no vector or its whole charge is below M; and then its bytes, cells, charge and depth are the value's

pub front_accepts : (tb s : List ℕ) (lim : Limits) → lim.memory < 2 ^ 64 → Good tb → (v : Val (root tb)) (n : ℕ) → Accepted (root tb) lim s v n
    → read_front tb s lim ≡ Ok (answer (root tb) v, n)
front_accepts tb s lim m g v n a = front_fine tb s lim (good_check tb g) ∙ accepts (root tb) lim s m v n a

pub front_accepted : (tb s : List ℕ) (lim : Limits) → lim.memory < 2 ^ 64 → (u : Totals) (n : ℕ) → read_front tb s lim ≡ Ok (u, n)
    → Good tb × ((v : Val (root tb)) × Accepted (root tb) lim s v n × (u ≡ answer (root tb) v))
unfolding read_front
front_accepted tb s lim m u n e =
    let r = done_fine (check_table tb) (scan (root tb) lim s) u n e in
    (check_good tb r.0, accepted (root tb) lim s m u n r.1)

-- and the cells that are written are the value's
pub front_cells : (tb s : List ℕ) (lim : Limits) (u : Totals) (n : ℕ) (v : Val (root tb)) (k : ℕ) → read_front tb s lim ≡ Ok (u, n) → read (root tb) 0 s ≡ got v k
    → scanned (root tb) lim s ≡ cells (root tb) v
unfolding read_front
front_cells tb s lim u n v k e r = passed (root tb) lim s v u k n r (done_fine (check_table tb) (scan (root tb) lim s) u n e).1

-- of a whole message: the value takes all of it
filling_done : (s : List ℕ) (x : Scan) (u : Totals) (n : ℕ) → filling s x ≡ Ok (u, n) → (x ≡ Ok (u, n)) × (length s ≤ n)
unfolding filling
filling_done s (Err y) u n e = absurd (let z : ◌≡◌ {A = ℕ} 0 1 = cc in omega arith)
filling_done s (Ok (st, m)) u n e = go (ltb m (length s)) refl e
  where
    go : (b : Bool) → ltb m (length s) ≡ b → pick {A = Scan} b (Err (bytes_left_at m)) (Ok (st, m)) ≡ Ok (u, n) → (◌≡◌ {A = Scan} (Ok (st, m)) (Ok (u, n))) × (length s ≤ n)
    go true q f = absurd (let z : ◌≡◌ {A = ℕ} 0 1 = cc in omega arith)
    go false q f = (f, omega (arith, (same_parts f).1, ltb-false m (length s) q))

done_filling : (s : List ℕ) (u : Totals) (n : ℕ) → length s ≤ n → filling s (Ok (u, n)) ≡ Ok (u, n)
unfolding filling
done_filling s u n h = ap (λ b. pick b (Err (bytes_left_at n)) (Ok (u, n))) (le-ltb n (length s) h)

pub whole_accepts : (tb s : List ℕ) (lim : Limits) → lim.memory < 2 ^ 64 → Good tb → (v : Val (root tb)) → Accepted (root tb) lim s v (length s)
    → read_whole tb s lim ≡ Ok (answer (root tb) v, length s)
unfolding scan_all
whole_accepts tb s lim m g v a =
    whole_fine tb s lim (good_check tb g) ∙ ap (filling s) (accepts (root tb) lim s m v (length s) a) ∙ done_filling s (answer (root tb) v) (length s) (le_refl (length s))

pub whole_accepted : (tb s : List ℕ) (lim : Limits) → lim.memory < 2 ^ 64 → (u : Totals) (n : ℕ) → read_whole tb s lim ≡ Ok (u, n)
    → Good tb × ((v : Val (root tb)) × Accepted (root tb) lim s v (length s) × (u ≡ answer (root tb) v) × (n ≡ length s))
unfolding read_whole scan_all
whole_accepted tb s lim m u n e =
    let r = done_fine (check_table tb) (scan_all (root tb) lim s) u n e in
    let f = filling_done s (scan (root tb) lim s) u n r.1 in
    let a = accepted (root tb) lim s m u n f.0 in
    let k : n ≡ length s = omega (arith, f.1, read_used (root tb) 0 s a.0 n a.1.reads) in
    (check_good tb r.0, (a.0, subst (Accepted (root tb) lim s a.0) k a.1, a.2, k))

-- ---- larger limits change only refusals by a limit

wider_after : (c : Check) (x x' : Scan) → (x ≡ x') ⊎ ByLimit x → (after_check c Err x ≡ after_check c Err x') ⊎ ByLimit (after_check c Err x)
wider_after fine x x' h = h
wider_after (Err y) x x' h = inl refl

pub front_wider : (tb s : List ℕ) (lim lim' : Limits) → Wider lim lim' → (read_front tb s lim ≡ read_front tb s lim') ⊎ ByLimit (read_front tb s lim)
unfolding read_front
front_wider tb s lim lim' w = wider_after (check_table tb) (scan (root tb) lim s) (scan (root tb) lim' s) (scan_wider lim lim' w (root tb) s)

pub whole_wider : (tb s : List ℕ) (lim lim' : Limits) → Wider lim lim' → (read_whole tb s lim ≡ read_whole tb s lim') ⊎ ByLimit (read_whole tb s lim)
unfolding read_whole scan_all
whole_wider tb s lim lim' w =
    wider_after (check_table tb) (filling s (scan (root tb) lim s)) (filling s (scan (root tb) lim' s)) (go (scan (root tb) lim s) (scan (root tb) lim' s) (scan_wider lim lim' w (root tb) s))
  where
    limited : (x : Scan) → ByLimit x → ByLimit (filling s x)
    limited (Ok (st, n)) h = absurd (let f : ⊥ = (unfold ByLimit in h) in f)
    limited (Err y) h = unfold filling in h

    go : (x x' : Scan) → (x ≡ x') ⊎ ByLimit x → (filling s x ≡ filling s x') ⊎ ByLimit (filling s x)
    go x x' (inl e) = inl (ap (filling s) e)
    go x x' (inr h) = inr (limited x h)

-- more lent cells, with larger limits
pub cut_wider : (lim lim' : Limits) (n n' : ℕ) → Wider lim lim' → n ≤ n' → Wider (cut_to n lim) (cut_to n' lim')
cut_wider lim lim' n n' w h = record { depths = w.depths; memories = w.memories; rooms = omega (arith, w.rooms) }

-- ---- added bytes change only refusals as short

pub front_grown : (tb s x : List ℕ) (lim : Limits) → (read_front tb s lim ≡ read_front tb (s ++ x) lim) ⊎ Short (read_front tb s lim)
unfolding read_front
front_grown tb s x lim = go (check_table tb) (scan_grown (root tb) lim s x)
  where
    go : (c : Check) → (scan (root tb) lim s ≡ scan (root tb) lim (s ++ x)) ⊎ Short (scan (root tb) lim s)
        → (after_check c Err (scan (root tb) lim s) ≡ after_check c Err (scan (root tb) lim (s ++ x))) ⊎ Short (after_check c Err (scan (root tb) lim s))
    go fine h = h
    go (Err y) h = inl refl

-- ---- DEMAND 2, writing: bytes are written exactly if the cells are those of a value and there is room; and they are its encoding

pub output_writes : (t : Ty) (v : Val t) (room : ℕ) → Fits t v → length (encode t v) ≤ room → output t (cells t v) room ≡ wrote (encode t v)
unfolding output put_out
output_writes t v room h r =
    ap (put_out (length (cells t v)) room (encode t)) (subst (λ l. unpack t 0 l ≡ got v (length (cells t v))) (append-nil (cells t v)) (unpack_cells t v h 0 []))
    ∙ ap (λ b. pick b (not (cells_left_at (length (cells t v)))) (fitted room (encode t v))) (le-ltb (length (cells t v)) (length (cells t v)) (le_refl (length (cells t v))))
    ∙ ap (λ b. pick b (not output_small) (wrote (encode t v))) (le-ltb room (length (encode t v)) r)

fitted_wrote : (room : ℕ) (x l : List ℕ) → fitted room x ≡ wrote l → (l ≡ x) × (length x ≤ room)
fitted_wrote room x l e = go (ltb room (length x)) refl e
  where
    go : (b : Bool) → ltb room (length x) ≡ b → pick b (not output_small) (wrote x) ≡ wrote l → (l ≡ x) × (length x ≤ room)
    go true q f = absurd (let z : ◌≡◌ {A = ℕ} 0 1 = cc in omega arith)
    go false q f = let a : x ≡ l = cc in (sym a, ltb-false room (length x) q)

pub output_wrote : (t : Ty) (cs : List ℕ) (room : ℕ) (l : List ℕ) → Under (2 ^ 64) cs → output t cs room ≡ wrote l → (v : Val t) × Wrote t cs room l v
unfolding output put_out
output_wrote t cs room l u e = go (unpack t 0 cs) refl e
  where
    go : (r : Res (Val t)) → unpack t 0 cs ≡ r → put_out (length cs) room (encode t) r ≡ wrote l → (v : Val t) × Wrote t cs room l v
    go (bad y) q f = absurd (let z : ◌≡◌ {A = ℕ} 0 1 = cc in omega arith)
    go (got v n) q f = inner (ltb n (length cs)) refl f
      where
        inner : (b : Bool) → ltb n (length cs) ≡ b → pick b (not (cells_left_at n)) (fitted room (encode t v)) ≡ wrote l → (v : Val t) × Wrote t cs room l v
        inner true p g = absurd (let z : ◌≡◌ {A = ℕ} 0 1 = cc in omega arith)
        inner false p g =
            let c = cells_unpacked t 0 cs v n u q in
            let w = fitted_wrote room (encode t v) l g in (
              v,
              record {
                fits = c.1;
                given = c.2 ∙ take_all n cs (ltb-false n (length cs) p);
                bytes = w.0;
                holds = subst (λ x. length x ≤ room) (sym w.0) w.1;
                most = subst (λ x. AtMost (longest t) (length x)) (sym w.0) (written_most t v c.1);
              },
            )

-- ---- for the public readers: how a job is done in two passes

-- a whole reading is a front reading that fills the message
pub whole_fills : (tb s : List ℕ) (lim : Limits) → read_whole tb s lim ≡ filling s (read_front tb s lim)
unfolding read_whole read_front scan_all
whole_fills tb s lim = go (check_table tb)
  where
    go : (c : Check) → after_check c Err (filling s (scan (root tb) lim s)) ≡ filling s (after_check c Err (scan (root tb) lim s))
    go fine = refl
    go (Err y) = unfold filling in refl

pub front_decided : (tb s : List ℕ) (lim : Limits) → Decided tb s lim (read_front tb s lim)
unfolding read_front
front_decided tb s lim u n e = done_fine (check_table tb) (scan (root tb) lim s) u n e

pub whole_decided : (tb s : List ℕ) (lim : Limits) → Decided tb s lim (read_whole tb s lim)
whole_decided tb s lim u n e = front_decided tb s lim u n (filling_done s (read_front tb s lim) u n (sym (whole_fills tb s lim) ∙ e)).0

-- the cells of a scan that is done go into as many as C says
pub scanned_fit : (t : Ty) (lim : Limits) (s : List ℕ) (u : Totals) (n : ℕ) → scan t lim s ≡ Ok (u, n) → length (scanned t lim s) ≤ lim.cells
scanned_fit t lim s u n e =
    let f = pass_front t lim s in
    let h = pass_held t lim 0 0 s start u n (omega arith) (f.0 ∙ e) in
    omega (arith, h.counted, h.within, ap length f.1)
