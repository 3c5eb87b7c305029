-- What is read of a leaf as the code answers it: a value in its halves, or a count, with the bytes that it took.
use Rattle.std.specs.Prelude.{ℕ, Ok, Err}
use Rattle.rules.specs.Bytes.{halves}
use Rattle.rules.specs.Parser.{Res, got, bad}
use Rattle.rules.specs.Refusals.{Answer}
use Rattle.rules.specs.declared.Halves.{Halves}

unfoldable pub halved : Res ℕ → Answer (Halves × ℕ)
halved (got v n) = Ok (halves v, n)
halved (bad y) = Err y

unfoldable pub count_of : Res ℕ → Answer (ℕ × ℕ)
count_of (got v n) = Ok (v, n)
count_of (bad y) = Err y
