-- What the parts of an append answer, and what they need.
use Rattle.std.specs.Prelude.{List, ◌++◌, [], ◌≡◌, ℕ, ◌+◌, ◌-◌, ◌^◌, ◌≤◌, ltb, leb, length, drop, take, Ok, Err}
use Rattle.rules.specs.Basics.{pick}
use Rattle.rules.specs.Compact.{compact_bytes}
use Rattle.rules.specs.Jobs.{Output, wrote, not, of_vector, write_items, append}
use Rattle.rules.specs.Parser.{Res, got, bad}
use Rattle.rules.specs.Refusals.{Answer, output_small, append_root, append_head, append_count, max_count}
use Rattle.rules.specs.Table.{Check, fine, root, check_table, after_check}
pub use Rattle.encode_append.specs.declared.Heads.{Heads}
pub use Rattle.encode_append.specs.declared.Plan.{Plan}

-- the table's check, and then 30
unfoldable pub root_check : List ℕ → Check
root_check tb = after_check (check_table tb) Err (of_vector (λ _. fine) (Err append_root) (root tb))

-- 32, 33 and the heads, by the old count
unfoldable pub heads_of : ℕ → Res ℕ → Answer Heads
heads_of k (got c n) = pick (leb (c + k) max_count) (Ok (record { count = c + k; old = n; new = length (compact_bytes (c + k)) })) (Err append_count)
heads_of k (bad y) = Err append_head

-- 22, where bytes are to stand behind the first `end` of `room`
unfoldable pub items_behind : ℕ → ℕ → Output → Output
items_behind end room (wrote l) = pick (ltb room (end + length l)) (not output_small) (wrote l)
items_behind end room (not y) = not y

-- a new head that is no shorter than the old one, and the bytes behind it, have room
pub record Replaces (buf : List ℕ) (used : ℕ) (h : Heads) : Type 0 where
  pub there : used ≤ length buf
  pub head : h.old ≤ used
  pub grows : h.old ≤ h.new
  pub long : h.new ≡ length (compact_bytes h.count)
  pub room : h.new + (used - h.old) ≤ length buf

-- the bytes of items that are not refused, whatever the room
abbrev pub bytes_of : Output → List ℕ
bytes_of (wrote l) = l
bytes_of (not y) = []

-- where nothing is refused: the heads, the bytes of the new items, and what the append writes
pub record Joins (tb buf : List ℕ) (used k : ℕ) (cs : List ℕ) (p : Plan) : Type 0 where
  pub heads : Replaces buf used p.heads
  pub end : p.end ≡ p.heads.new + (used - p.heads.old)
  pub fits : p.end + length (bytes_of (write_items tb k cs (2 ^ 64 - 1))) ≤ length buf
  pub written : write_items tb k cs (length buf - p.end) ≡ wrote (bytes_of (write_items tb k cs (2 ^ 64 - 1)))
  pub appended : append tb buf used k cs ≡ wrote (compact_bytes p.heads.count ++ (drop p.heads.old (take used buf) ++ bytes_of (write_items tb k cs (2 ^ 64 - 1))))
