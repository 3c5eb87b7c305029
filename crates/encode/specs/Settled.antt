-- The answer of a write, from how far it got.
use Rattle.std.specs.Prelude.{ℕ, ltb, Ok, Err}
use Rattle.rules.specs.Basics.{pick}
use Rattle.rules.specs.Refusals.{output_small, cells_left_at}
use Rattle.rules.specs.Put.{Put}
use Rattle.rules.specs.Jobs.{Written}

-- 23 and then 22
unfoldable pub settled_of : ℕ → ℕ → Put → Written
settled_of given room (Ok (n, used)) = pick (ltb n given) (Err (cells_left_at n)) (pick (ltb room used) (Err output_small) (Ok used))
settled_of given room (Err y) = Err y
