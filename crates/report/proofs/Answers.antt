-- What is proved of every report: how long it is, and what it says of the value that was read; and that the contracts allow no other.
use Rattle.std.specs.Prelude.{List, ◌++◌, [], ◌∷◌, ◌≡◌, refl, ℕ, ◌+◌, ◌*◌, ◌≤◌, length, drop, take, Ok, Err}
use Rattle.std.proofs.Common.{ap, sym, ◌∙◌, arith, length-append, take_at}
use Rattle.rules.specs.Refusals.{number_of}
use Rattle.rules.specs.Basics.{flat, onto}
use Rattle.rules.specs.Cells.{cells}
use Rattle.rules.proofs.Laws.Demands.{whole_accepts, whole_accepted, whole_decided}
use Rattle.rules.specs.Jobs.{read_whole}
use Rattle.rules.specs.Parser.{got}
use Rattle.rules.proofs.Laws.Places.{sets_onto}
use Rattle.rules.specs.Scan.{scanned}
use Rattle.rules.specs.Scan.Accept.{Accepted, answer}
use Rattle.rules.proofs.Laws.Scan.Accept.{passed}
use Rattle.rules.specs.Table.{root}
use Rattle.rules.specs.Table.Laws.{Good}
use Rattle.rules.specs.Types.{Val}
use Rattle.rules.specs.Wire.{read}
use Rattle.rules.specs.declared.Refusal.{Refusal}
use Rattle.rules.specs.Scan.{Scan}
use Rattle.rules.specs.declared.Totals.{Totals}
use Rattle.report.specs.Text.{decimal, spaced, line_of, ok, refused, ok_line, refused_line, cell_line, report_lines, program_limits, report_of, unreadable, most_bytes}
use Rattle.report.specs.Numerals.{decimal_short}
use Rattle.report.specs.Contract.{Contract}

-- ---- how long lines are

line_length : (text ns : List ℕ) → length (line_of text ns) ≤ length text + 21 * length ns + 1
line_length text [] = omega (arith, length-append text (10 ∷ []))
line_length text (n ∷ ns) = omega (arith, line_length (text ++ spaced n) ns, length-append text (spaced n), decimal_short n)

pub ok_length : (u : Totals) (n : ℕ) → length (ok_line u n) ≤ 87
unfolding ok_line
ok_length u n = line_length ok (n ∷ u.cells ∷ u.charge ∷ u.depth ∷ [])

pub refused_length : (number place : ℕ) → length (refused_line number place) ≤ 50
unfolding refused_line
refused_length number place = line_length refused (number ∷ place ∷ [])

pub cells_length : (cs : List ℕ) → length (flat cell_line cs) ≤ 21 * length cs
unfolding cell_line
cells_length [] = omega arith
cells_length (v ∷ cs) = omega (arith, length-append (line_of (decimal v) []) (flat cell_line cs), line_length (decimal v) [], decimal_short v, cells_length cs)

-- ---- the report on a message

-- a refusal is one line
pub report_refused : (tb s : List ℕ) (y : Refusal) → read_whole tb s program_limits ≡ Err y → report_of tb s ≡ refused_line (number_of y.reason) y.place
unfolding report_of report_lines
report_refused tb s y e = ap (λ a. report_lines a (scanned (root tb) program_limits s)) e

pub report_done : (tb s : List ℕ) (u : Totals) (n : ℕ) → read_whole tb s program_limits ≡ Ok (u, n) → report_of tb s ≡ ok_line u n ++ flat cell_line (scanned (root tb) program_limits s)
unfolding report_of report_lines
report_done tb s u n e = ap (λ a. report_lines a (scanned (root tb) program_limits s)) e

-- the cells that were passed are the value's
whole_cells : (tb s : List ℕ) (u : Totals) (n : ℕ) (v : Val (root tb)) (k : ℕ) → read_whole tb s program_limits ≡ Ok (u, n) → read (root tb) 0 s ≡ got v k
    → scanned (root tb) program_limits s ≡ cells (root tb) v
whole_cells tb s u n v k e r = passed (root tb) program_limits s v u k n r (whole_decided tb s program_limits u n e).1

-- a message that the written rules read as a value within the limits has a report with the value's own numbers, and all of its cells
pub report_accepts : (tb s : List ℕ) → Good tb → (v : Val (root tb)) → Accepted (root tb) program_limits s v (length s)
    → report_of tb s ≡ ok_line (answer (root tb) v) (length s) ++ flat cell_line (cells (root tb) v)
report_accepts tb s g v a =
    let e = whole_accepts tb s program_limits (omega arith) g v a in
    report_done tb s (answer (root tb) v) (length s) e ∙ ap (λ l. ok_line (answer (root tb) v) (length s) ++ flat cell_line l) (whole_cells tb s (answer (root tb) v) (length s) v (length s) e a.reads)

-- and no other message is accepted
pub report_accepted : (tb s : List ℕ) (u : Totals) (n : ℕ) → read_whole tb s program_limits ≡ Ok (u, n)
    → Good tb × ((v : Val (root tb)) × Accepted (root tb) program_limits s v (length s) × (report_of tb s ≡ ok_line (answer (root tb) v) (length s) ++ flat cell_line (cells (root tb) v)))
report_accepted tb s u n e =
    let w = whole_accepted tb s program_limits (omega arith) u n e in
    (w.0, (w.1.0, w.1.1, report_accepts tb s w.0 w.1.0 w.1.1))

-- the cells that were passed are as many as were counted, and at most C
pub cells_counted : (tb s : List ℕ) (u : Totals) (n : ℕ) → read_whole tb s program_limits ≡ Ok (u, n) → (u.cells ≡ length (scanned (root tb) program_limits s)) × (u.cells ≤ 4096)
cells_counted tb s u n e =
    let w = (whole_accepted tb s program_limits (omega arith) u n e).1 in
    let counts : u.cells ≡ length (cells (root tb) w.0) = ap (λ (x : Totals). x.cells) w.2 in
    (counts ∙ ap length (sym (whole_cells tb s u n w.0 (length s) e w.1.reads)), omega (arith, w.1.fills))

-- all of every report goes into a memory of so many bytes
pub report_fits : (tb s : List ℕ) → length (report_of tb s) ≤ most_bytes
report_fits tb s = go (read_whole tb s program_limits) refl
  where
    go : (a : Scan) → read_whole tb s program_limits ≡ a → length (report_of tb s) ≤ most_bytes
    go (Err y) e = omega (arith, ap length (report_refused tb s y e), refused_length (number_of y.reason) y.place)
    go (Ok (u, n)) e =
        let l = flat cell_line (scanned (root tb) program_limits s) in
        let c = cells_counted tb s u n e in
        omega (arith, ap length (report_done tb s u n e), length-append (ok_line u n) l, ok_length u n, cells_length (scanned (root tb) program_limits s), c.0, c.1)

pub unreadable_fits : length unreadable ≤ most_bytes
unfolding unreadable
unreadable_fits = omega (arith, refused_length 40 0)

-- ---- what the contracts of the public functions allow, for a text: r is the answer, l the lent memory and m what it is afterwards

-- any two answers that it allows are equal, and so is the memory
pub one_report : (text l : List ℕ) (r r' : ℕ) (m m' : List ℕ) → Contract text l r m → Contract text l r' m' → (r ≡ r') × (m ≡ m')
one_report text l r r' m m' c d = (c.answers ∙ sym d.answers, c.writes ∙ sym d.writes)

-- where there is room, the text stands at the front, as far as the answer says, and all behind it stays
pub report_whole : (text l : List ℕ) (r : ℕ) (m : List ℕ) → Contract text l r m → length text ≤ length l → (take r m ≡ text) × (m ≡ onto text l)
report_whole text l r m c h =
    let e : m ≡ onto text l = c.writes ∙ sets_onto text l h in
    (ap (take r) e ∙ take_at text (drop (length text) l) r (sym c.answers), e)
