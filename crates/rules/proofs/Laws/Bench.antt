-- The starred plans of the bench as one table, and the one statement that the definitions answer each of them so.
use Rattle.std.specs.Prelude.{refl}
use Rattle.rules.specs.Basics.{All}
use Rattle.rules.specs.Bytes.{le_value, le_bytes}
use Rattle.rules.specs.Compact.{significant_in, significant, long, compact_bytes, fits, settled, form0, form1, form2, form3, compact_from}
use Rattle.rules.specs.Bits.{bits_value, digits, pack, lanes}
use Rattle.rules.specs.Parser.{more, next, map_res, times}
use Rattle.rules.specs.Form.{write, parse}
use Rattle.rules.specs.Wire.{leaf_bytes, bits_bytes, byte_from, whole, number_from, placed, leaf_from, lanes_in, lanes_from, bits_body, bits_from}
use Rattle.rules.specs.Cells.{leaf_cells}
use Rattle.rules.specs.Totals.{foot}
use Rattle.rules.specs.Trace.{longer, ◌▷◌, repeat, on, lane_trace, trace}
use Rattle.rules.specs.Scan.{barred, unless, finish, run, scan}
use Rattle.rules.specs.Bench.{Right, starred_plans}

pub starred : All Right starred_plans
unfolding le_value le_bytes significant_in significant long compact_bytes fits settled form0 form1 form2 form3 compact_from more next map_res times bits_value digits pack lanes write parse leaf_bytes bits_bytes byte_from whole number_from placed leaf_from lanes_in lanes_from bits_body bits_from leaf_cells foot longer ◌▷◌ repeat on lane_trace trace barred unless finish run scan
starred = ((refl, refl), ((refl, refl), ((refl, refl), ((refl, refl), ((refl, refl), ((refl, refl), (refl, ((refl, refl), (refl, (refl, (refl, (refl, (refl, (refl, tt))))))))))))))
