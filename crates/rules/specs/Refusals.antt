-- The refusals by name: each has its reason, which says its number, and a place where one goes with it.
use Rattle.std.specs.Prelude.{ℕ, Result}
use Rattle.rules.specs.declared.Reason.TheVariants.{TableMark, TableSize, TableNode, TableFootprint, Short, Tag, CompactPrefix, CompactRange, BitCount, Depth, Memory, Cells, BytesLeft, CellsShort, CellUnfit, OutputSmall, CellsLeft, AppendRoot, AppendUsed, AppendHead, AppendCount}
pub use Rattle.rules.specs.declared.Reason.{Reason}
pub use Rattle.rules.specs.declared.Refusal.{Refusal}
pub use Rattle.rules.specs.declared.Numbered.{Numbered}

-- what every job answers: what it gives, or why it is refused
abbrev pub Answer : Type 0 → Type 0
Answer A = Result A Refusal

abbrev pub because : Reason → ℕ → Refusal
because r p = record { reason = r; place = p }

-- THE NUMBERS of the refusals
abbrev pub number_of : Reason → ℕ
number_of TableMark = 1
number_of TableSize = 2
number_of TableNode = 3
number_of TableFootprint = 4
number_of Short = 10
number_of Tag = 11
number_of CompactPrefix = 12
number_of CompactRange = 13
number_of BitCount = 14
number_of Depth = 15
number_of Memory = 16
number_of Cells = 17
number_of BytesLeft = 18
number_of CellsShort = 20
number_of CellUnfit = 21
number_of OutputSmall = 22
number_of CellsLeft = 23
number_of AppendRoot = 30
number_of AppendUsed = 31
number_of AppendHead = 32
number_of AppendCount = 33

-- a refusal by its number
abbrev pub in_numbers : Refusal → Numbered
in_numbers y = record { number = number_of y.reason; place = y.place }

-- ---- of a table; the place of the last two is the node's index

abbrev pub table_mark : Refusal
table_mark = because TableMark 0

abbrev pub table_size : Refusal
table_size = because TableSize 0

abbrev pub wrong_node_at : ℕ → Refusal
wrong_node_at i = because TableNode i

abbrev pub footprint_at : ℕ → Refusal
footprint_at i = because TableFootprint i

-- ---- of a message; the place is the offset of the item's first byte, and for 18 of the first byte left over

abbrev pub short_at : ℕ → Refusal
short_at at = because Short at

abbrev pub tag_at : ℕ → Refusal
tag_at at = because Tag at

abbrev pub prefix_at : ℕ → Refusal
prefix_at at = because CompactPrefix at

abbrev pub range_at : ℕ → Refusal
range_at at = because CompactRange at

-- (the place is a cell's index in writing)
abbrev pub bit_count_at : ℕ → Refusal
bit_count_at at = because BitCount at

abbrev pub depth_at : ℕ → Refusal
depth_at at = because Depth at

abbrev pub memory_at : ℕ → Refusal
memory_at at = because Memory at

abbrev pub room_at : ℕ → Refusal
room_at at = because Cells at

abbrev pub bytes_left_at : ℕ → Refusal
bytes_left_at at = because BytesLeft at

-- ---- of cells; the place is a cell's index, and for 23 that of the first cell left over

abbrev pub cells_end_at : ℕ → Refusal
cells_end_at at = because CellsShort at

abbrev pub unfit_at : ℕ → Refusal
unfit_at at = because CellUnfit at

abbrev pub output_small : Refusal
output_small = because OutputSmall 0

abbrev pub cells_left_at : ℕ → Refusal
cells_left_at at = because CellsLeft at

-- ---- of append

abbrev pub append_root : Refusal
append_root = because AppendRoot 0

abbrev pub append_used : Refusal
append_used = because AppendUsed 0

abbrev pub append_head : Refusal
append_head = because AppendHead 0

abbrev pub append_count : Refusal
append_count = because AppendCount 0

-- ---- the bounds

-- the most bits of a bit vector
abbrev pub max_bits : ℕ
max_bits = 0x1fffffff

abbrev pub max_footprint : ℕ
max_footprint = 0x7fffffff

-- the largest count of a vector
abbrev pub max_count : ℕ
max_count = 0xffffffff
