-- The whole jobs, as the public functions do them: the table's check first, then the job at its root. A contract says that a function's answer is the one given
-- here, and that the memory it was lent is as given here afterwards.
use Rattle.std.specs.Prelude.{List, ◌++◌, [], ◌∷◌, ℕ, ◌+◌, min, ltb, leb, length, drop, take, Ok, Err, Some, None}
use Rattle.rules.specs.Refusals.{Refusal, Answer, number_of, output_small, cells_left_at, append_root, append_used, append_head, append_count, max_count}
use Rattle.rules.specs.Basics.{pick, flat, onto}
use Rattle.rules.specs.Types.{w4, compact, Ty, leaf, nothing, result, pair, array, vector, bits, Val}
use Rattle.rules.specs.Parser.{Res, got, bad, times}
use Rattle.rules.specs.Wire.{leaf_bytes, encode, leaf_from}
use Rattle.rules.specs.Cells.{unpack}
use Rattle.rules.specs.Scan.{Limits, Scan, scan, scan_all}
use Rattle.rules.specs.Table.{Check, Longest, root, check_table, after_check}

-- ---- reading: at the front of a message, or the whole of it. A job that lends no cells takes C as given.

unfoldable pub read_front : List ℕ → List ℕ → Limits → Scan
read_front tb s lim = after_check (check_table tb) Err (scan (root tb) lim s)

unfoldable pub read_whole : List ℕ → List ℕ → Limits → Scan
read_whole tb s lim = after_check (check_table tb) Err (scan_all (root tb) lim s)

-- C is cut to the lent cells
abbrev pub cut_to : ℕ → Limits → Limits
cut_to n lim = record { depth = lim.depth; memory = lim.memory; cells = min lim.cells n }

-- the lent cells afterwards: an accepted value's cells stand at the front, and the others stay; a refusal leaves all
abbrev pub cells_after : List ℕ → Scan → List ℕ → List ℕ
cells_after new (Ok (st, n)) l = onto new l
cells_after new (Err y) l = l

-- ---- writing

-- the bytes that a job puts at the front of its output, or a refusal
pub data Output : Type 0 where
  wrote : List ℕ → Output
  not : Refusal → Output

-- 22 comes last
abbrev pub fitted : ℕ → List ℕ → Output
fitted room l = pick (ltb room (length l)) (not output_small) (wrote l)

-- the bytes f v, where the cells that were taken for v are all that were given: 23 before 22
unfoldable pub put_out : {A : Type 0} → ℕ → ℕ → (A → List ℕ) → Res A → Output
put_out given room f (got v n) = pick (ltb n given) (not (cells_left_at n)) (fitted room (f v))
put_out given room f (bad y) = not y

unfoldable pub output : Ty → List ℕ → ℕ → Output
output t cs room = put_out (length cs) room (encode t) (unpack t 0 cs)

-- from the cells cs into `room` bytes
unfoldable pub write_cells : List ℕ → List ℕ → ℕ → Output
write_cells tb cs room = after_check (check_table tb) not (output (root tb) cs room)

-- what a root that is a vector is asked for, and another answer for any other
abbrev pub of_vector : {A : Type 0} → (Ty → A) → A → Ty → A
of_vector f a (vector t) = f t
of_vector f a (leaf l) = a
of_vector f a nothing = a
of_vector f a (result t u) = a
of_vector f a (pair t u) = a
of_vector f a (array n t) = a
of_vector f a bits = a

-- k items of a root that is a vector, without its head
unfoldable pub write_items : List ℕ → ℕ → List ℕ → ℕ → Output
write_items tb k cs room = after_check (check_table tb) not (of_vector (λ t. output (array k t) cs room) (not append_root) (root tb))

-- what writing and append answer: how many bytes are used now
abbrev pub Written : Type 0
Written = Answer ℕ

-- the answer, and the output afterwards: bytes past the written length stay, and a refusal leaves all
abbrev pub written_of : Output → Written
written_of (wrote l) = Ok (length l)
written_of (not y) = Err y

abbrev pub output_after : Output → List ℕ → List ℕ
output_after (wrote l) out = onto l out
output_after (not y) out = out

-- ---- append: the used bytes s of a buffer, k items and their cells

-- the old count, and how many bytes its head has: with no bytes it is 0, without a head
unfoldable pub old_count : List ℕ → Res ℕ
old_count [] = got 0 0
old_count (b ∷ s) = leaf_from (compact w4) 0 (b ∷ s)

-- the new head, the bytes behind the old one, and the new items
abbrev pub joined : (t : Ty) → ℕ → ℕ → List ℕ → List (Val t) → List ℕ
joined t c n s vs = leaf_bytes (compact w4) c ++ (drop n s ++ flat (encode t) vs)

unfoldable pub append_from : Ty → List ℕ → ℕ → List ℕ → ℕ → Res ℕ → Output
append_from t s k cs room (got c n) = pick (leb (c + k) max_count) (put_out (length cs) room (joined t (c + k) n s) (times k (unpack t) 0 cs)) (not append_count)
append_from t s k cs room (bad y) = not append_head

unfoldable pub append_items : Ty → List ℕ → ℕ → List ℕ → ℕ → Output
append_items t s k cs room = append_from t s k cs room (old_count s)

-- the root is a vector, and the used bytes are the buffer's
unfoldable pub append_to : Ty → List ℕ → ℕ → ℕ → List ℕ → Output
append_to t buf used k cs = of_vector (λ u. pick (leb used (length buf)) (append_items u (take used buf) k cs (length buf)) (not append_used)) (not append_root) t

-- the new used bytes, in place of the old ones
unfoldable pub append : List ℕ → List ℕ → ℕ → ℕ → List ℕ → Output
append tb buf used k cs = after_check (check_table tb) not (append_to (root tb) buf used k cs)

-- ---- an answer's fields: of a refusal number and place, and 0 in every other field

pub record Fields : Type 0 where
  pub number : ℕ
  pub place : ℕ
  pub bytes : ℕ
  pub cells : ℕ
  pub charge : ℕ
  pub depth : ℕ

abbrev pub refused_fields : Refusal → Fields
refused_fields y = record { number = number_of y.reason; place = y.place; bytes = 0; cells = 0; charge = 0; depth = 0 }

abbrev pub read_fields : Scan → Fields
read_fields (Ok (st, n)) = record { number = 0; place = 0; bytes = n; cells = st.cells; charge = st.charge; depth = st.depth }
read_fields (Err y) = refused_fields y

-- writing and append answer number, place and bytes
abbrev pub written_fields : Written → Fields
written_fields (Ok n) = record { number = 0; place = 0; bytes = n; cells = 0; charge = 0; depth = 0 }
written_fields (Err y) = refused_fields y

-- the check answers number and place
abbrev pub check_fields : Check → Fields
check_fields (Ok u) = record { number = 0; place = 0; bytes = 0; cells = 0; charge = 0; depth = 0 }
check_fields (Err y) = refused_fields y

-- a longest length: whether there is one, and how many bytes
pub record Length : Type 0 where
  pub number : ℕ
  pub place : ℕ
  pub has : ℕ
  pub bytes : ℕ

abbrev pub longest_fields : Longest → Length
longest_fields (Ok (Some n)) = record { number = 0; place = 0; has = 1; bytes = n }
longest_fields (Ok None) = record { number = 0; place = 0; has = 0; bytes = 0 }
longest_fields (Err y) = record { number = number_of y.reason; place = y.place; has = 0; bytes = 0 }
