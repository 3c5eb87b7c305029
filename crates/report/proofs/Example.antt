-- The example of the rules: two 16-bit numbers, and the four lines that are the whole output.
use Rattle.std.specs.Prelude.{[], ◌∷◌, ◌≡◌, refl}
use Rattle.rules.specs.Bytes.{le_value}
use Rattle.rules.specs.Compact.{fits, settled, form0, compact_from}
use Rattle.rules.specs.Jobs.{read_whole}
use Rattle.rules.specs.Parser.{more, next, map_res}
use Rattle.rules.specs.Scan.{barred, unless, finish, run, kept, finished, scan, scanned, filling, scan_all}
use Rattle.rules.specs.Table.{node_of, node_at, node_in, ty_by, ty_at, root, allowed, nodes_from, head_check, check_table}
use Rattle.rules.specs.Totals.{foot}
use Rattle.rules.specs.Trace.{longer, ◌▷◌, repeat, on, trace}
use Rattle.rules.specs.Cells.{leaf_cells}
use Rattle.rules.specs.Wire.{whole, number_from, placed, leaf_from}
use Rattle.report.specs.Example.{shorts, one_and_two}
use Rattle.report.specs.Text.{decimal_in, decimal, ok_line, cell_line, report_lines, report_of}

-- `ok 5 3 4 1`, `2`, `1`, `2`
pub example : report_of shorts one_and_two
    ≡ 111 ∷ 107 ∷ 32 ∷ 53 ∷ 32 ∷ 51 ∷ 32 ∷ 52 ∷ 32 ∷ 49 ∷ 10
    ∷ 50 ∷ 10
    ∷ 49 ∷ 10
    ∷ 50 ∷ 10
    ∷ []
unfolding le_value fits settled form0 compact_from read_whole more next map_res barred unless finish run kept finished scan scanned filling scan_all node_of node_at node_in ty_by ty_at root allowed nodes_from head_check check_table foot longer ◌▷◌ repeat on trace leaf_cells whole number_from placed leaf_from decimal_in decimal ok_line cell_line report_lines report_of
example = refl
