-- What the program prints, as a list of ASCII codes.
use Rattle.std.specs.Prelude.{List, ◌++◌, [], ◌∷◌, ℕ, zero, suc, ◌+◌, ◌*◌, ◌/◌, ◌%◌, ltb, Ok, Err}
use Rattle.io.specs.Digits.{hex_digit_ascii}
use Rattle.rules.specs.Refusals.{number_of}
use Rattle.rules.specs.Basics.{pick, flat}
use Rattle.rules.specs.Jobs.{read_whole}
use Rattle.rules.specs.Scan.{scanned}
use Rattle.rules.specs.Table.{root}
use Rattle.rules.specs.declared.Limits.{Limits}
use Rattle.rules.specs.Scan.{Scan}
use Rattle.rules.specs.declared.Totals.{Totals}

-- ---- lines

-- n in decimal, at most k digits, the highest first and no zero in front of it; `0` for 0
unfoldable pub decimal_in : ℕ → ℕ → List ℕ
decimal_in zero n = []
decimal_in (suc k) n = pick (ltb n 10) (hex_digit_ascii n ∷ []) (decimal_in k (n / 10) ++ (hex_digit_ascii (n % 10) ∷ []))

-- 20 digits are enough for every 64-bit number
unfoldable pub decimal : ℕ → List ℕ
decimal n = decimal_in 20 n

-- behind a space
abbrev pub spaced : ℕ → List ℕ
spaced n = 32 ∷ decimal n

-- a line that begins so, with numbers behind it
abbrev pub line_of : List ℕ → List ℕ → List ℕ
line_of text [] = text ++ (10 ∷ [])
line_of text (n ∷ ns) = line_of (text ++ spaced n) ns

abbrev pub ok : List ℕ
ok = 111 ∷ 107 ∷ []

abbrev pub refused : List ℕ
refused = 114 ∷ 101 ∷ 102 ∷ 117 ∷ 115 ∷ 101 ∷ 100 ∷ []

-- ok BYTES CELLS CHARGE DEPTH
unfoldable pub ok_line : Totals → ℕ → List ℕ
ok_line u n = line_of ok (n ∷ u.cells ∷ u.charge ∷ u.depth ∷ [])

-- refused NUMBER PLACE
unfoldable pub refused_line : ℕ → ℕ → List ℕ
refused_line number place = line_of refused (number ∷ place ∷ [])

unfoldable pub cell_line : ℕ → List ℕ
cell_line v = line_of (decimal v) []

-- ---- reports

unfoldable pub report_lines : Scan → List ℕ → List ℕ
report_lines (Ok (u, n)) cs = ok_line u n ++ flat cell_line cs
report_lines (Err y) cs = refused_line (number_of y.reason) y.place

-- D, M and C of the program
abbrev pub program_limits : Limits
program_limits = record { depth = 16; memory = 65536; cells = 4096 }

-- on a message, by a table: the answer of a whole reading, and the cells that it passed
unfoldable pub report_of : List ℕ → List ℕ → List ℕ
report_of tb s = report_lines (read_whole tb s program_limits) (scanned (root tb) program_limits s)

-- on a file that is missing or too large
unfoldable pub unreadable : List ℕ
unreadable = refused_line 40 0

-- no report is longer: `ok` with four numbers, and 4096 cells, all of 20 digits
abbrev pub most_bytes : ℕ
most_bytes = 2 + 4 * 21 + 1 + 4096 * 21
