-- The answer of a write, from how far it got.
use Rattle.std.specs.Prelude.{Bool, true, false, List, ◌≡◌, refl, ℕ, ◌+◌, ltb, length, Ok, Err}
use Rattle.std.proofs.Common.{ap, ap₂, sym, ◌∙◌, arith}
use Rattle.rules.specs.Basics.{pick}
use Rattle.rules.specs.Jobs.{wrote, not, put_out, written_of}
use Rattle.rules.specs.Parser.{Res, got, bad}
use Rattle.rules.specs.Put.{put_of}
use Rattle.rules.specs.Refusals.{output_small, cells_left_at}
use Rattle.put.specs.Laws.{part_in_lem}
use Rattle.put.specs.Written.{part_in, part_out}
use Rattle.put.specs.declared.Part.{Part}
use Rattle.encode.specs.Settled.{settled_of}

-- 23 and 22, after what was put
settled_put : (given room : ℕ) (P : Res (List ℕ)) → settled_of given room (put_of 0 0 P) ≡ written_of (put_out given room (λ l. l) P)
unfolding settled_of put_of put_out
settled_put given room (got l n) =
    let a : 0 + n ≡ n = omega arith in
    let b : 0 + length l ≡ length l = omega arith in
    ap₂ (λ x y. settled_of given room (Ok (x, y))) a b ∙ go (ltb n given) (ltb room (length l))
  where
    go : (x y : Bool) → pick x (Err (cells_left_at n)) (pick y (Err output_small) (Ok (length l)))
        ≡ written_of (pick x (not (cells_left_at n)) (pick y (not output_small) (wrote l)))
    go true y = refl
    go false true = refl
    go false false = refl
settled_put given room (bad y) = refl

pub settled_part : (part : Part) (tb cs : List ℕ) (room : ℕ) → settled_of (length cs) room (put_of 0 0 (part_in part tb cs)) ≡ written_of (part_out part tb cs room)
settled_part part tb cs room = settled_put (length cs) room (part_in part tb cs) ∙ sym (ap written_of (part_in_lem part tb cs room))
