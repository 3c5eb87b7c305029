-- How many bits of each cell that is taken count: all 64.
use Rattle.std.specs.Prelude.{length, replicate}
use Rattle.rules.specs.Form.{Form}
use Rattle.rules.specs.Cells.{leaf_cells, bits_cells}

abbrev pub full : Form
full = record { leaf_out = λ k v. replicate (length (leaf_cells k v)) 64; bits_out = λ v. replicate (length (bits_cells v)) 64 }
