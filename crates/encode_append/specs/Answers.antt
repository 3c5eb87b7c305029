-- Demands 1 and 2 about append's own answers: r is any answer that the contract allows, and m what the buffer is afterwards.
use Rattle.std.specs.Prelude.{Bool, true, false, List, ◌++◌, [], ◌∷◌, ℕ, ◌+◌, ◌^◌, ◌≤◌, ◌<◌, ltb, leb, drop, take, Ok, Err}
use Rattle.std.proofs.Math.Path.{◌≡◌, refl, ap, sym, ap₂}
use Rattle.std.proofs.Common.{arith, ◌∙◌, subst, le_refl, ltb-true, ltb-false, lt-ltb, le-ltb, leb-true, leb-false, le-leb, take-append-drop, length-take-le, drop_at}
use Rattle.std.proofs.lemmas.Bool.{lt-leb}
use Rattle.std.proofs.Math.ListN.{length}
use Rattle.std.proofs.Math.Seq.{take_all}
use Rattle.rules.proofs.Laws.Append.{items_taken, append_first, append_none, append_at, appended_joins}
use Rattle.rules.specs.Basics.{pick, All, Under, flat, onto}
use Rattle.rules.specs.Bytes.{le_bytes}
use Rattle.rules.proofs.Laws.Bytes.{under_take}
use Rattle.rules.specs.Cells.{cells, unpack}
use Rattle.rules.specs.Compact.{compact_bytes}
use Rattle.rules.specs.Form.{write, parse}
use Rattle.rules.specs.Jobs.{Output, wrote, not, fitted, put_out, of_vector, written_of, output_after, old_count, joined, append_from, append_items, append_to, append, Written}
use Rattle.rules.specs.Parser.{Res, got, bad, times}
use Rattle.rules.specs.Refusals.{output_small, cells_left_at, append_root, append_used, append_head, append_count, max_count}
use Rattle.rules.proofs.Laws.RoundTrip.{cells_unpacked}
use Rattle.rules.specs.Table.{Check, fine, root, check_table, after_check}
use Rattle.rules.specs.Types.{Ty, leaf, nothing, result, pair, array, vector, bits, Val, Fits}
use Rattle.rules.specs.Wire.{leaf_bytes, encode, leaf_from}
use Rattle.rules.specs.declared.Leaf.TheVariants.{Compact as compact}
use Rattle.rules.specs.declared.Refusal.{Refusal}
use Rattle.rules.specs.declared.Width.TheVariants.{W4 as w4}
-- that any two answers are equal, that a refusal leaves the buffer, and that the bytes past what is written stay, is said once for every job that writes:
pub use Rattle.encode.specs.Answers.{Contract, one_writing, refusal_leaves, written_front}

-- ---- when an append is refused

-- a checked table whose root is a vector of t, and used bytes that are the buffer's
pub record Held (tb buf : List ℕ) (used : ℕ) (t : Ty) : Type 0 where
  pub checked : check_table tb ≡ fine
  pub rooted : root tb ≡ vector t
  pub there : used ≤ length buf

-- and an old count c, with a head of n bytes: 0 without a head where no byte is used
pub record Counts (tb buf : List ℕ) (used : ℕ) (t : Ty) (c n : ℕ) : Type 0 where
  pub held : Held tb buf used t
  pub counted : old_count (take used buf) ≡ got c n

-- DEMAND 1: why, in the order of the rules' list: the table; 30; 31; 32, by any refusal of the compact reader; 33, for any k; the items' cells, by the rules of `unpack`; 23; 22
pub data Why (tb buf : List ℕ) (used k : ℕ) (cs : List ℕ) (y : Refusal) : Type 0 where
  by_table : check_table tb ≡ Err y → Why tb buf used k cs y
  by_root : check_table tb ≡ fine → ((t : Ty) → root tb ≡ vector t → ⊥) → y ≡ append_root → Why tb buf used k cs y
  by_used : (t : Ty) → check_table tb ≡ fine → root tb ≡ vector t → length buf < used → y ≡ append_used → Why tb buf used k cs y
  by_head : (t : Ty) (x : Refusal) → Held tb buf used t → 0 < used → leaf_from (compact w4) 0 (take used buf) ≡ bad x → y ≡ append_head → Why tb buf used k cs y
  by_count : (t : Ty) (c n : ℕ) → Counts tb buf used t c n → max_count < c + k → y ≡ append_count → Why tb buf used k cs y
  by_cells : (t : Ty) (c n : ℕ) → Counts tb buf used t c n → c + k ≤ max_count → times k (unpack t) 0 cs ≡ bad y → Why tb buf used k cs y
  by_rest : (t : Ty) (c n : ℕ) → Counts tb buf used t c n → c + k ≤ max_count → (w : List (Val t)) (i : ℕ) → times k (unpack t) 0 cs ≡ got w i → i < length cs → y ≡ cells_left_at i → Why tb buf used k cs y
  by_room : (t : Ty) (c n : ℕ) → Counts tb buf used t c n → c + k ≤ max_count → (w : List (Val t)) (i : ℕ) → times k (unpack t) 0 cs ≡ got w i → length cs ≤ i
      → length buf < length (joined t (c + k) n (take used buf) w) → y ≡ output_small → Why tb buf used k cs y

module _ (tb buf : List ℕ) (used k : ℕ) (cs : List ℕ) where
  pub held_append : (t : Ty) → Held tb buf used t → append tb buf used k cs ≡ append_from t (take used buf) k cs (length buf) (old_count (take used buf))
  held_append t H = append_at tb buf t used k cs H.checked H.rooted H.there ∙ (unfold append_items in refl)

  counts_append : (t : Ty) (c n : ℕ) → Counts tb buf used t c n → append tb buf used k cs ≡ append_from t (take used buf) k cs (length buf) (got c n)
  counts_append t c n C = held_append t C.held ∙ ap (append_from t (take used buf) k cs (length buf)) C.counted

  pub few_append : (t : Ty) (c n : ℕ) → Counts tb buf used t c n → c + k ≤ max_count
      → append tb buf used k cs ≡ put_out (length cs) (length buf) (joined t (c + k) n (take used buf)) (times k (unpack t) 0 cs)
  unfolding append_from
  few_append t c n C h =
      counts_append t c n C
      ∙ ap (λ b. pick b (put_out (length cs) (length buf) (joined t (c + k) n (take used buf)) (times k (unpack t) 0 cs)) (not append_count)) (le-leb (c + k) max_count h)

  -- what follows the items' cells
  taken_append : (t : Ty) (c n : ℕ) → Counts tb buf used t c n → c + k ≤ max_count → (w : List (Val t)) (i : ℕ) → times k (unpack t) 0 cs ≡ got w i
      → append tb buf used k cs ≡ pick (ltb i (length cs)) (not (cells_left_at i)) (fitted (length buf) (joined t (c + k) n (take used buf) w))
  unfolding put_out
  taken_append t c n C h w i e = few_append t c n C h ∙ ap (put_out (length cs) (length buf) (joined t (c + k) n (take used buf))) e

  all_append : (t : Ty) (c n : ℕ) → Counts tb buf used t c n → c + k ≤ max_count → (w : List (Val t)) (i : ℕ) → times k (unpack t) 0 cs ≡ got w i → length cs ≤ i
      → append tb buf used k cs ≡ fitted (length buf) (joined t (c + k) n (take used buf) w)
  all_append t c n C h w i e g =
      taken_append t c n C h w i e ∙ ap (λ b. pick b (not (cells_left_at i)) (fitted (length buf) (joined t (c + k) n (take used buf) w))) (le-ltb i (length cs) g)

  -- a head that can't be read
  unread : (t : Ty) (x : Refusal) → Held tb buf used t → 0 < used → leaf_from (compact w4) 0 (take used buf) ≡ bad x → old_count (take used buf) ≡ bad x
  unread t x H some e = go (take used buf) (length-take-le used buf H.there) e
    where
      go : (s : List ℕ) → length s ≡ used → leaf_from (compact w4) 0 s ≡ bad x → old_count s ≡ bad x
      go [] l f = absurd (let z : 0 ≡ used = l in omega arith)
      go (b ∷ s) l f = unfold old_count in f

  read_some : (t : Ty) (x : Refusal) → Held tb buf used t → old_count (take used buf) ≡ bad x → (0 < used) × (leaf_from (compact w4) 0 (take used buf) ≡ bad x)
  read_some t x H e = go (take used buf) (length-take-le used buf H.there) (unfold old_count in e)
    where
      go : (s : List ℕ) → length s ≡ used → old_count s ≡ bad x → (0 < used) × (leaf_from (compact w4) 0 s ≡ bad x)
      go [] l f = absurd (let g : ◌≡◌ {A = Res ℕ} (got 0 0) (bad x) = (unfold old_count in f) in let z : ◌≡◌ {A = ℕ} 0 1 = cc in omega arith)
      go (b ∷ s) l f = (omega arith, unfold old_count in f)

  pub why_refused : (y : Refusal) → Why tb buf used k cs y → append tb buf used k cs ≡ not y
  unfolding append append_to append_from put_out
  why_refused y (by_table e) = ap (λ x. after_check x not (append_to (root tb) buf used k cs)) e
  why_refused y (by_root e no_vector q) = ap (λ x. after_check x not (append_to (root tb) buf used k cs)) e ∙ go (root tb) refl
    where
      go : (t : Ty) → root tb ≡ t → of_vector (λ u. pick (leb used (length buf)) (append_items u (take used buf) k cs (length buf)) (not append_used)) (not append_root) t ≡ not y
      go (vector t) f = absurd (no_vector t f)
      go (leaf l) f = ap not (sym q)
      go nothing f = ap not (sym q)
      go (result t u) f = ap not (sym q)
      go (pair t u) f = ap not (sym q)
      go (array n t) f = ap not (sym q)
      go bits f = ap not (sym q)
  why_refused y (by_used t e f h q) =
      ap₂ (λ x u. after_check x not (append_to u buf used k cs)) e f
      ∙ ap (λ b. pick b (append_items t (take used buf) k cs (length buf)) (not append_used)) (lt-leb used (length buf) h) ∙ ap not (sym q)
  why_refused y (by_head t x H some e q) = held_append t H ∙ ap (append_from t (take used buf) k cs (length buf)) (unread t x H some e) ∙ ap not (sym q)
  why_refused y (by_count t c n C h q) =
      counts_append t c n C
      ∙ ap (λ b. pick b (put_out (length cs) (length buf) (joined t (c + k) n (take used buf)) (times k (unpack t) 0 cs)) (not append_count)) (lt-leb (c + k) max_count h) ∙ ap not (sym q)
  why_refused y (by_cells t c n C h e) = few_append t c n C h ∙ ap (put_out (length cs) (length buf) (joined t (c + k) n (take used buf))) e
  why_refused y (by_rest t c n C h w i e g q) =
      taken_append t c n C h w i e ∙ ap (λ b. pick b (not (cells_left_at i)) (fitted (length buf) (joined t (c + k) n (take used buf) w))) (lt-ltb i (length cs) g) ∙ ap not (sym q)
  why_refused y (by_room t c n C h w i e g l q) =
      all_append t c n C h w i e g
      ∙ ap (λ b. pick b (not output_small) (wrote (joined t (c + k) n (take used buf) w))) (lt-ltb (length buf) (length (joined t (c + k) n (take used buf) w)) l) ∙ ap not (sym q)

  -- ---- one of these, or the bytes that the rules say

  data Outcome : Type 0 where
    refuses : (y : Refusal) → Why tb buf used k cs y → Outcome
    accepts : (t : Ty) (c n : ℕ) (w : List (Val t)) (i : ℕ) → Counts tb buf used t c n → c + k ≤ max_count → times k (unpack t) 0 cs ≡ got w i → length cs ≤ i
        → length (joined t (c + k) n (take used buf) w) ≤ length buf → Outcome

  by_cells_lem : (t : Ty) (c n : ℕ) → Counts tb buf used t c n → c + k ≤ max_count → (r : Res (List (Val t))) → times k (unpack t) 0 cs ≡ r → Outcome
  by_cells_lem t c n C h (bad y) e = refuses y (by_cells t c n C h e)
  by_cells_lem t c n C h (got w i) e = rest (ltb i (length cs)) refl
    where
      space : length cs ≤ i → (b : Bool) → ltb (length buf) (length (joined t (c + k) n (take used buf) w)) ≡ b → Outcome
      space g true q = refuses output_small (by_room t c n C h w i e g (ltb-true (length buf) (length (joined t (c + k) n (take used buf) w)) q) refl)
      space g false q = accepts t c n w i C h e g (ltb-false (length buf) (length (joined t (c + k) n (take used buf) w)) q)

      rest : (b : Bool) → ltb i (length cs) ≡ b → Outcome
      rest true g = refuses (cells_left_at i) (by_rest t c n C h w i e (ltb-true i (length cs) g) refl)
      rest false g = space (ltb-false i (length cs) g) (ltb (length buf) (length (joined t (c + k) n (take used buf) w))) refl

  by_count_lem : (t : Ty) → Held tb buf used t → (r : Res ℕ) → old_count (take used buf) ≡ r → Outcome
  by_count_lem t H (bad x) e = let u = read_some t x H e in refuses append_head (by_head t x H u.0 u.1 refl)
  by_count_lem t H (got c n) e = go (leb (c + k) max_count) refl
    where
      C : Counts tb buf used t c n
      C = record { held = H; counted = e }

      go : (b : Bool) → leb (c + k) max_count ≡ b → Outcome
      go true q = by_cells_lem t c n C (leb-true (c + k) max_count q) (times k (unpack t) 0 cs) refl
      go false q = refuses append_count (by_count t c n C (leb-false (c + k) max_count q) refl)

  by_used_lem : (t : Ty) → check_table tb ≡ fine → root tb ≡ vector t → (b : Bool) → leb used (length buf) ≡ b → Outcome
  by_used_lem t e r true q = by_count_lem t (record { checked = e; rooted = r; there = leb-true used (length buf) q }) (old_count (take used buf)) refl
  by_used_lem t e r false q = refuses append_used (by_used t e r (leb-false used (length buf) q) refl)

  by_root_lem : check_table tb ≡ fine → (t : Ty) → root tb ≡ t → Outcome
  by_root_lem e (vector t) r = by_used_lem t e r (leb used (length buf)) refl
  by_root_lem e (leaf l) r = refuses append_root (by_root e (λ t q. let z : ◌≡◌ {A = ℕ} 0 1 = cc in omega arith) refl)
  by_root_lem e nothing r = refuses append_root (by_root e (λ t q. let z : ◌≡◌ {A = ℕ} 0 1 = cc in omega arith) refl)
  by_root_lem e (result x u) r = refuses append_root (by_root e (λ t q. let z : ◌≡◌ {A = ℕ} 0 1 = cc in omega arith) refl)
  by_root_lem e (pair x u) r = refuses append_root (by_root e (λ t q. let z : ◌≡◌ {A = ℕ} 0 1 = cc in omega arith) refl)
  by_root_lem e (array n x) r = refuses append_root (by_root e (λ t q. let z : ◌≡◌ {A = ℕ} 0 1 = cc in omega arith) refl)
  by_root_lem e bits r = refuses append_root (by_root e (λ t q. let z : ◌≡◌ {A = ℕ} 0 1 = cc in omega arith) refl)

  outcome : Outcome
  outcome = go (check_table tb) refl
    where
      go : (x : Check) → check_table tb ≡ x → Outcome
      go fine e = by_root_lem e (root tb) refl
      go (Err y) e = refuses y (by_table e)

  wrote_all : (t : Ty) (c n : ℕ) (w : List (Val t)) (i : ℕ) → Counts tb buf used t c n → c + k ≤ max_count → times k (unpack t) 0 cs ≡ got w i → length cs ≤ i
      → length (joined t (c + k) n (take used buf) w) ≤ length buf → append tb buf used k cs ≡ wrote (joined t (c + k) n (take used buf) w)
  wrote_all t c n w i C h e g r =
      all_append t c n C h w i e g
      ∙ ap (λ b. pick b (not output_small) (wrote (joined t (c + k) n (take used buf) w))) (le-ltb (length buf) (length (joined t (c + k) n (take used buf) w)) r)

  pub refused_why : (y : Refusal) → append tb buf used k cs ≡ not y → Why tb buf used k cs y
  refused_why y e = go outcome
    where
      go : Outcome → Why tb buf used k cs y
      go (refuses z h) = let f = sym (why_refused z h) ∙ e in let q : z ≡ y = cc in subst (Why tb buf used k cs) q h
      go (accepts t c n w i C h f g r) = absurd (let q = sym (wrote_all t c n w i C h f g r) ∙ e in let z : ◌≡◌ {A = ℕ} 0 1 = cc in omega arith)

  -- DEMAND 2: what an accepted append goes by. The cells are those of k items, and there is room for the new head, the bytes behind the old one and the items' encodings
  pub record Appended (t : Ty) (c n : ℕ) (w : List (Val t)) : Type 0 where
    pub counts : Counts tb buf used t c n
    pub many : length w ≡ k
    pub few : c + k ≤ max_count
    pub fits : All (Fits t) w
    pub given : flat (cells t) w ≡ cs
    pub room : length (joined t (c + k) n (take used buf) w) ≤ length buf

  pub append_wrote : (t : Ty) (c n : ℕ) (w : List (Val t)) → Appended t c n w → append tb buf used k cs ≡ wrote (joined t (c + k) n (take used buf) w)
  append_wrote t c n w A =
      let e : times k (unpack t) 0 cs ≡ got w (length cs) =
      subst (λ x. times k (unpack t) 0 x ≡ got w (length x)) A.given (subst (λ x. times x (unpack t) 0 (flat (cells t) w) ≡ got w (length (flat (cells t) w))) A.many (items_taken t w A.fits)) in
      wrote_all t c n w (length cs) A.counts A.few e (le_refl (length cs)) A.room

  pub wrote_append : Under (2 ^ 64) cs → (l : List ℕ) → append tb buf used k cs ≡ wrote l
      → (t : Ty) × ((c : ℕ) × ((n : ℕ) × ((w : List (Val t)) × (Appended t c n w × (l ≡ joined t (c + k) n (take used buf) w)))))
  unfolding parse write
  wrote_append u l e = go outcome
    where
      go : Outcome → (t : Ty) × ((c : ℕ) × ((n : ℕ) × ((w : List (Val t)) × (Appended t c n w × (l ≡ joined t (c + k) n (take used buf) w)))))
      go (refuses z h) = absurd (let f = sym (why_refused z h) ∙ e in let z : ◌≡◌ {A = ℕ} 0 1 = cc in omega arith)
      go (accepts t c n w i C h f g r) =
          let a = cells_unpacked (array k t) 0 cs w i u f in
          let b = sym (wrote_all t c n w i C h f g r) ∙ e in
          let q : joined t (c + k) n (take used buf) w ≡ l = cc in
          (t, (c, (n, (w, (record { counts = C; many = a.1.0; few = h; fits = a.1.1; given = a.2 ∙ take_all i cs g; room = r }, sym q)))))

module _ (tb buf : List ℕ) (used k : ℕ) (cs : List ℕ) (r : Written) (m : List ℕ) (c : Contract (append tb buf used k cs) buf r m) where
  -- DEMAND 1: each refusal is given exactly where the rules' list says, and leaves the buffer
  pub append_refused : (y : Refusal) → r ≡ Err y → Why tb buf used k cs y
  append_refused y e = go (append tb buf used k cs) refl
    where
      go : (o : Output) → append tb buf used k cs ≡ o → Why tb buf used k cs y
      go (wrote l) q = absurd (let f : Ok (length l) ≡ Err y = sym (ap written_of q) ∙ sym c.answers ∙ e in let z : ◌≡◌ {A = ℕ} 0 1 = cc in omega arith)
      go (not x) q = let f : Err x ≡ Err y = sym (ap written_of q) ∙ sym c.answers ∙ e in let z : x ≡ y = cc in refused_why tb buf used k cs y (q ∙ ap not z)

  pub append_refuses : (y : Refusal) → Why tb buf used k cs y → (r ≡ Err y) × (m ≡ buf)
  append_refuses y h = let e = why_refused tb buf used k cs y h in (c.answers ∙ ap written_of e, c.writes ∙ ap (λ o. output_after o buf) e)

  -- DEMAND 2: what an accepted append leaves, exactly if there are such items and they have room
  pub append_accepts : (t : Ty) (o n : ℕ) (w : List (Val t)) → Appended tb buf used k cs t o n w
      → (r ≡ Ok (length (joined t (o + k) n (take used buf) w))) × (m ≡ onto (joined t (o + k) n (take used buf) w) buf)
  append_accepts t o n w A = let e = append_wrote tb buf used k cs t o n w A in (c.answers ∙ ap written_of e, c.writes ∙ ap (λ x. output_after x buf) e)

  pub append_accepted : Under (2 ^ 64) cs → (i : ℕ) → r ≡ Ok i
      → (t : Ty) × ((o : ℕ) × ((n : ℕ) × ((w : List (Val t)) × (Appended tb buf used k cs t o n w × (i ≡ length (joined t (o + k) n (take used buf) w)) × (m ≡ onto (joined t (o + k) n (take used buf) w) buf)))))
  append_accepted u i e =
      let f = written_front (append tb buf used k cs) buf r m i c e in
      let a = wrote_append tb buf used k cs u f.0 f.1 in
      let b = a.1.1.1.1.1 in
      (a.0, (a.1.0, (a.1.1.0, (a.1.1.1.0, (a.1.1.1.1.0, sym f.2 ∙ ap length b, f.3 ∙ ap (λ x. onto x buf) b)))))

  -- the bytes past the new used length stay
  pub append_stays : (i : ℕ) → r ≡ Ok i → drop i m ≡ drop i buf
  append_stays i e =
      let f = written_front (append tb buf used k cs) buf r m i c e in
      ap (drop i) f.3 ∙ drop_at f.0 (drop (length f.0) buf) i f.2 ∙ ap (λ x. drop x buf) f.2

  -- a job that is fitted: its bytes where there is room, and else 22
  fits_in : (l : List ℕ) → append tb buf used k cs ≡ fitted (length buf) l → length l ≤ length buf → (r ≡ Ok (length l)) × (m ≡ onto l buf)
  fits_in l e h =
      let q : append tb buf used k cs ≡ wrote l = e ∙ ap (λ b. pick b (not output_small) (wrote l)) (le-ltb (length buf) (length l) h) in
      (c.answers ∙ ap written_of q, c.writes ∙ ap (λ x. output_after x buf) q)

  -- DEMAND 2's sentence on append: to a vector v as the writer gives it, the items w make the encoding of the joined items
  pub append_joined : (t : Ty) (v w : List (Val t)) → Held tb buf used t → take used buf ≡ encode (vector t) v → All (Fits t) w → k ≡ length w → cs ≡ flat (cells t) w
      → length v + length w ≤ max_count → length (encode (vector t) (v ++ w)) ≤ length buf
      → (r ≡ Ok (length (encode (vector t) (v ++ w)))) × (m ≡ onto (encode (vector t) (v ++ w)) buf)
  append_joined t v w H e f ek ec few h =
      fits_in (encode (vector t) (v ++ w)) (ap₂ (append tb buf used) ek ec ∙ appended_joins tb buf t used v w H.checked H.rooted H.there e f few) h

  -- and where no byte is used they make a vector by themselves
  pub append_new : (t : Ty) (w : List (Val t)) → Held tb buf used t → used ≡ 0 → All (Fits t) w → k ≡ length w → cs ≡ flat (cells t) w → length w ≤ max_count → length (encode (vector t) w) ≤ length buf
      → (r ≡ Ok (length (encode (vector t) w))) × (m ≡ onto (encode (vector t) w) buf)
  append_new t w H z f ek ec few h =
      fits_in (encode (vector t) w)
      (append_at tb buf t used k cs H.checked H.rooted H.there ∙ ap (λ x. append_items t (take x buf) k cs (length buf)) z
      ∙ ap₂ (λ x y. append_items t [] x y (length buf)) ek ec ∙ append_first t w (length buf) f few) h

  -- no items change nothing, but that where no byte is used they make the empty vector, 00
  pub append_nothing : (t : Ty) (o n : ℕ) → Held tb buf used t → Under 256 buf → leaf_from (compact w4) 0 (take used buf) ≡ got o n → k ≡ 0 → cs ≡ [] → (r ≡ Ok used) × (m ≡ buf)
  append_nothing t o n H u e ek ec =
      let l : length (take used buf) ≡ used = length-take-le used buf H.there in
      let a = fits_in (take used buf)
      (append_at tb buf t used k cs H.checked H.rooted H.there ∙ ap₂ (λ x y. append_items t (take used buf) x y (length buf)) ek ec
      ∙ append_none t (take used buf) (length buf) o n (under_take 256 used buf u) e) (omega (arith, l, H.there)) in
      (a.0 ∙ ap Ok l, a.1 ∙ ap (λ x. take used buf ++ drop x buf) l ∙ take-append-drop used buf)

  pub append_empty : (t : Ty) → Held tb buf used t → used ≡ 0 → k ≡ 0 → cs ≡ [] → 1 ≤ length buf → (r ≡ Ok 1) × (m ≡ onto (0 ∷ []) buf)
  unfolding write leaf_bytes compact_bytes le_bytes
  append_empty t H z ek ec h = append_new t [] H z tt ek ec (omega arith) h
