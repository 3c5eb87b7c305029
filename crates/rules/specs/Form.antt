-- How values stand in units, once for bytes and for cells: a form says what is written for a leaf and for a bit vector, and a reader how these are read.
-- A tag is written as a bool, and a count as a compact u32.
pub mod Laws
pub mod Units
use Rattle.std.specs.Prelude.{Bool, List, ◌++◌, [], ℕ, length}
use Rattle.std.proofs.Common.{inl, inr}
use Rattle.rules.specs.Basics.{choose, flat}
use Rattle.rules.specs.Types.{w4, Leaf, bool, compact, Ty, leaf, nothing, result, pair, array, vector, bits, Val}
use Rattle.rules.specs.Parser.{got, Parser, bind, map, times}

pub record Form : Type 0 where
  pub leaf_out : Leaf → ℕ → List ℕ
  pub bits_out : List Bool → List ℕ

unfoldable pub write : Form → (t : Ty) → Val t → List ℕ
write f (leaf k) v = f.leaf_out k v
write f nothing v = []
write f (result t u) (inl v) = f.leaf_out bool 0 ++ write f t v
write f (result t u) (inr v) = f.leaf_out bool 1 ++ write f u v
write f (pair t u) v = write f t v.0 ++ write f u v.1
write f (array n t) v = flat (write f t) v
write f (vector t) v = f.leaf_out (compact w4) (length v) ++ flat (write f t) v
write f bits v = f.bits_out v

pub record Reader : Type 0 where
  pub leaf_in : Leaf → Parser ℕ
  pub bits_in : Parser (List Bool)

unfoldable pub parse : Reader → (t : Ty) → Parser (Val t)
parse r (leaf k) = r.leaf_in k
parse r nothing = λ at s. got tt 0
parse r (result t u) = bind (r.leaf_in bool) (λ b. choose b (map inl (parse r t)) (map inr (parse r u)))
parse r (pair t u) = bind (parse r t) (λ v. map (λ w. (v, w)) (parse r u))
parse r (array n t) = times n (parse r t)
parse r (vector t) = bind (r.leaf_in (compact w4)) (λ n. times n (parse r t))
parse r bits = r.bits_in
