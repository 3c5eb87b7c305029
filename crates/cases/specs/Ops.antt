-- The ops of the case format, by the numbers that a case file has for them.
use Rattle.std.specs.Prelude.{ℕ, eqb, Option, Some, None}
use Rattle.rules.specs.Basics.{pick}
use Rattle.cases.specs.declared.Op.{Op}

abbrev pub op_of : ℕ → Option Op
op_of n =
    pick (eqb n 1) (Some Op.CompactRead)
    (pick (eqb n 2) (Some Op.CompactWrite)
    (pick (eqb n 3) (Some Op.TableCheck)
    (pick (eqb n 4) (Some Op.Longest)
    (pick (eqb n 5) (Some Op.Read)
    (pick (eqb n 6) (Some Op.Write)
    (pick (eqb n 7) (Some Op.Append) None))))))
