-- Append over the definitions: to a vector as the writer gives it, it gives the encoding of the joined items; no items change nothing.
use Rattle.std.proofs.Math.Path.{◌≡◌, ap, sym}
use Rattle.std.specs.Prelude.{refl, drop, take}
use Rattle.std.proofs.Common.{◌∙◌, ap₂, subst, le_refl, add-zero, le-ltb, le-leb, length-append, take-append-drop, List, ◌++◌, [], ◌∷◌, append_assoc, append-nil, ℕ, ◌+◌, ◌≤◌, arith}
use Rattle.std.proofs.Math.ListN.{length}
use Rattle.std.proofs.Math.Seq.{drop-append_seam}
use Rattle.rules.specs.Refusals.{short_at, cells_left_at, append_used, append_count, max_count}
use Rattle.rules.specs.Basics.{pick, All, Under, flat}
use Rattle.rules.specs.Types.{w4, compact, Ty, vector, Val, Fits}
use Rattle.rules.specs.Compact.{compact_from}
use Rattle.rules.specs.Parser.{got, bad, times}
use Rattle.rules.proofs.Laws.Parser.{writes_times}
use Rattle.rules.specs.Form.{write}
use Rattle.rules.proofs.Laws.Form.{reads}
use Rattle.rules.specs.Wire.{leaf_bytes, encode, placed, leaf_from}
use Rattle.rules.proofs.Laws.Wire.{wire_reads, leaf_exact, wire_returns}
use Rattle.rules.specs.Cells.{as_cells, cells, from_cells, unpack}
use Rattle.rules.proofs.Laws.Cells.{cells_read_lem}
use Rattle.rules.specs.Table.{fine, root, check_table, after_check}
use Rattle.rules.specs.Jobs.{not, fitted, put_out, old_count, joined, append_from, append_items, append_to, append}

flat_join : {A : Type 0} (f : A → List ℕ) (v w : List A) → flat f (v ++ w) ≡ flat f v ++ flat f w
flat_join f [] w = refl
flat_join f (x ∷ v) w = ap (λ l. f x ++ l) (flat_join f v w) ∙ sym (append_assoc (f x) (flat f v) (flat f w))

-- a count that is read is the old count
pub old_count_lem : (s : List ℕ) (c n : ℕ) → leaf_from (compact w4) 0 s ≡ got c n → old_count s ≡ got c n
unfolding old_count
old_count_lem (b ∷ s) c n e = e
old_count_lem [] c n e = absurd (let f : bad (short_at 0) ≡ got c n = (unfold leaf_from placed compact_from in e) in let z : ◌≡◌ {A = ℕ} 0 1 = cc in omega arith)

-- the cells of items are taken for them
pub items_taken : (t : Ty) (w : List (Val t)) → All (Fits t) w → times (length w) (unpack t) 0 (flat (cells t) w) ≡ got w (length (flat (cells t) w))
items_taken t w h =
    subst (λ l. times (length w) (unpack t) 0 l ≡ got w (length (flat (cells t) w))) (append-nil (flat (cells t) w))
    (writes_times (unpack t) (cells t) (Fits t) (reads as_cells from_cells cells_read_lem t) w h 0 [])

-- all cells were taken
put_all : {A : Type 0} (m room : ℕ) (f : A → List ℕ) (v : A) → put_out m room f (got v m) ≡ fitted room (f v)
unfolding put_out
put_all m room f v = ap (λ b. pick b (not (cells_left_at m)) (fitted room (f v))) (le-ltb m m (le_refl m))

module _ (t : Ty) (w : List (Val t)) (room : ℕ) (hw : All (Fits t) w) where
  -- where the old count is read
  append_counted : (s : List ℕ) (c n : ℕ) → old_count s ≡ got c n → c + length w ≤ max_count
      → append_items t s (length w) (flat (cells t) w) room ≡ fitted room (joined t (c + length w) n s w)
  unfolding append_items append_from
  append_counted s c n e few =
      ap (append_from t s (length w) (flat (cells t) w) room) e
      ∙ ap (λ b. pick b (put_out (length (flat (cells t) w)) room (joined t (c + length w) n s) (times (length w) (unpack t) 0 (flat (cells t) w))) (not append_count)) (le-leb (c + length w) max_count few)
      ∙ ap (put_out (length (flat (cells t) w)) room (joined t (c + length w) n s)) (items_taken t w hw)
      ∙ put_all (length (flat (cells t) w)) room (joined t (c + length w) n s) w

  -- DEMAND 2, append: to a written vector
  pub append_joins : (v : List (Val t)) → length v + length w ≤ max_count
      → append_items t (encode (vector t) v) (length w) (flat (cells t) w) room ≡ fitted room (encode (vector t) (v ++ w))
  unfolding write
  append_joins v few =
      append_counted (h ++ flat (encode t) v) (length v) (length h) (old_count_lem (h ++ flat (encode t) v) (length v) (length h) (wire_reads.leaf_reads (compact w4) (length v) (omega arith) 0 (flat (encode t) v))) few
      ∙ ap (fitted room) (ap₂ (λ x y. leaf_bytes (compact w4) x ++ y) (sym (length-append v w))
      (ap (λ l. l ++ flat (encode t) w) (drop-append_seam h (flat (encode t) v)) ∙ sym (flat_join (encode t) v w)))
    where
      h : List ℕ
      h = leaf_bytes (compact w4) (length v)

  -- to nothing
  pub append_first : length w ≤ max_count → append_items t [] (length w) (flat (cells t) w) room ≡ fitted room (encode (vector t) w)
  unfolding write
  append_first few =
      let z : 0 + length w ≡ length w = omega arith in
      append_counted [] 0 0 (unfold old_count in refl) (omega arith) ∙ ap (λ c. fitted room (leaf_bytes (compact w4) c ++ flat (encode t) w)) z

-- no items on a count that can be read: the same bytes
pub append_none : (t : Ty) (s : List ℕ) (room c n : ℕ) → Under 256 s → leaf_from (compact w4) 0 s ≡ got c n → append_items t s 0 [] room ≡ fitted room s
append_none t s room c n u e =
    let k : c + 0 ≡ c = add-zero c in
    let b = wire_returns.leaf_back (compact w4) 0 s c n u e in
    let few : c + 0 ≤ max_count = omega (arith, b.1.0) in
    let same : leaf_bytes (compact w4) c ≡ take n s = leaf_exact (compact w4) 0 s c n u e in
    append_counted t [] room tt s c n (old_count_lem s c n e) few
    ∙ ap (fitted room) (ap₂ (λ x y. leaf_bytes (compact w4) x ++ y) k (append-nil (drop n s)) ∙ ap (λ l. l ++ drop n s) same ∙ take-append-drop n s)

-- ---- the whole job, on a table whose root is a vector

pub append_at : (tb buf : List ℕ) (t : Ty) (used k : ℕ) (cs : List ℕ) → check_table tb ≡ fine → root tb ≡ vector t → used ≤ length buf
    → append tb buf used k cs ≡ append_items t (take used buf) k cs (length buf)
unfolding append append_to
append_at tb buf t used k cs c r h =
    ap₂ (λ x y. after_check x not (append_to y buf used k cs)) c r ∙ ap (λ b. pick b (append_items t (take used buf) k cs (length buf)) (not append_used)) (le-leb used (length buf) h)

-- DEMAND 2's sentence on append
pub appended_joins : (tb buf : List ℕ) (t : Ty) (used : ℕ) (v w : List (Val t)) → check_table tb ≡ fine → root tb ≡ vector t → used ≤ length buf
    → take used buf ≡ encode (vector t) v → All (Fits t) w → length v + length w ≤ max_count
    → append tb buf used (length w) (flat (cells t) w) ≡ fitted (length buf) (encode (vector t) (v ++ w))
appended_joins tb buf t used v w c r h e hw few =
    append_at tb buf t used (length w) (flat (cells t) w) c r h
    ∙ ap (λ s. append_items t s (length w) (flat (cells t) w) (length buf)) e
    ∙ append_joins t w (length buf) hw v few
