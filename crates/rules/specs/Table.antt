-- The type table: what node i says, the type that it denotes, and the checks of a table with their numbers and places.
pub mod Laws
use Rattle.std.specs.Prelude.{Bool, true, false, ◌&&◌, List, ◌++◌, [], ◌∷◌, ℕ, zero, suc, ◌+◌, ◌-◌, ◌*◌, ◌^◌, min, ltb, leb, eqb, length, replicate, get_or, Option, Ok, Err}
use Rattle.rules.specs.Refusals.{Refusal, Answer, table_mark, table_size, wrong_node_at, footprint_at, max_footprint}
use Rattle.rules.specs.Basics.{pick}
use Rattle.rules.specs.Types.{Width, w1, w2, w4, w8, w16, Leaf, unit, bool, opt_bool, fixed, compact, float, Ty, leaf, nothing, result, pair, array, vector, bits, option}
use Rattle.rules.specs.Totals.{foot, longest, unit_cells}
pub use Rattle.rules.specs.declared.Node.{Node}
pub use Rattle.rules.specs.declared.Node.TheVariants.{Leaf as leaf_node, Option as option_node, Result as result_node, Pair as pair_node, Array as array_node, Vector as vector_node, Bits as bits_node, Unknown as unknown}

-- ---- a node's four bytes

abbrev pub count : List ℕ → ℕ
count tb = get_or tb 5 0

abbrev pub kind_at : List ℕ → ℕ → ℕ
kind_at tb i = get_or tb (6 + 4 * i) 0

abbrev pub a_at : List ℕ → ℕ → ℕ
a_at tb i = get_or tb (6 + 4 * i + 1) 0

abbrev pub b_at : List ℕ → ℕ → ℕ
b_at tb i = get_or tb (6 + 4 * i + 2) 0 + 256 * get_or tb (6 + 4 * i + 3) 0

-- an unused number is 0
abbrev pub unused : ℕ → Node → Node
unused x n = pick (eqb x 0) n unknown

-- a width that is allowed
abbrev pub with_width : (Width → Leaf) → ℕ → Node
with_width f a =
    pick (eqb a 1) (leaf_node (f w1))
    (pick (eqb a 2) (leaf_node (f w2))
    (pick (eqb a 4) (leaf_node (f w4))
    (pick (eqb a 8) (leaf_node (f w8))
    (pick (eqb a 16) (leaf_node (f w16)) unknown))))

abbrev pub float_node : ℕ → Node
float_node a = pick (eqb a 4) (leaf_node (float w4)) (pick (eqb a 8) (leaf_node (float w8)) unknown)

-- what a kind with its a and b says, `unknown` where refusal 3 is due for the kind, a width, a count of items or an unused number
unfoldable pub node_of : ℕ → ℕ → ℕ → Node
node_of k a b =
    pick (eqb k 0) (unused a (unused b (leaf_node unit)))
    (pick (eqb k 1) (unused a (unused b (leaf_node bool)))
    (pick (eqb k 2) (unused a (unused b (leaf_node opt_bool)))
    (pick (eqb k 3) (unused b (with_width fixed a))
    (pick (eqb k 4) (unused b (with_width compact a))
    (pick (eqb k 5) (unused b (float_node a))
    (pick (eqb k 6) (unused b (option_node a))
    (pick (eqb k 7) (result_node a b)
    (pick (eqb k 8) (pair_node a b)
    (pick (eqb k 9) (pick (eqb b 0) unknown (array_node b a))
    (pick (eqb k 10) (unused b (vector_node a))
    (pick (eqb k 11) (unused a (unused b bits_node)) unknown)))))))))))

unfoldable pub node_at : List ℕ → ℕ → Node
node_at tb i = node_of (kind_at tb i) (a_at tb i) (b_at tb i)

-- node i of any bytes: `unknown` where its four bytes are not all there
unfoldable pub node_in : List ℕ → ℕ → Node
node_in tb i = pick (leb (6 + 4 * i + 4) (length tb)) (node_at tb i) unknown

-- ---- the type of a node, over its children's

abbrev pub build : (ℕ → Ty) → Node → Ty
build f (leaf_node k) = leaf k
build f (option_node a) = option (f a)
build f (result_node a b) = result (f a) (f b)
build f (pair_node a b) = pair (f a) (f b)
build f (array_node n a) = array n (f a)
build f (vector_node a) = vector (f a)
build f bits_node = bits
build f unknown = nothing

-- the fuel is more than a node's index can be: 64
unfoldable pub ty_by : List ℕ → ℕ → ℕ → Ty
ty_by tb zero i = nothing
ty_by tb (suc n) i = build (ty_by tb n) (node_at tb i)

unfoldable pub ty_at : List ℕ → ℕ → Ty
ty_at tb i = ty_by tb 64 i

-- the last node is the root
unfoldable pub root : List ℕ → Ty
root tb = ty_at tb (count tb - 1)

-- ---- the checks

-- `W T D`, version 1
abbrev pub marked : List ℕ → Bool
marked tb = eqb (get_or tb 0 0) 0x57 && (eqb (get_or tb 1 0) 0x54 && (eqb (get_or tb 2 0) 0x44 && (eqb (get_or tb 3 0) 1 && eqb (get_or tb 4 0) 0)))

-- a count from 1 to 64, and the length that it says
abbrev pub sized : List ℕ → Bool
sized tb = leb 1 (count tb) && (leb (count tb) 64 && eqb (length tb) (6 + 4 * count tb))

-- a known kind whose children are below i
unfoldable pub allowed : ℕ → Node → Bool
allowed i (leaf_node k) = true
allowed i (option_node a) = ltb a i
allowed i (result_node a b) = ltb a i && ltb b i
allowed i (pair_node a b) = ltb a i && ltb b i
allowed i (array_node n a) = ltb a i
allowed i (vector_node a) = ltb a i
allowed i bits_node = true
allowed i unknown = false

-- what the check answers, and what it answers of a table that it does not refuse
abbrev pub Check : Type 0
Check = Answer Unit

pattern abbrev pub fine : Check
fine = Ok tt

-- n nodes from i on, rising, 3 before 4
unfoldable pub nodes_from : List ℕ → ℕ → ℕ → Check
nodes_from tb zero i = fine
nodes_from tb (suc n) i =
    pick (allowed i (node_at tb i)) (pick (leb (foot (ty_at tb i)) max_footprint) (nodes_from tb n (suc i)) (Err (footprint_at i))) (Err (wrong_node_at i))

-- the six bytes before the nodes, and the length
unfoldable pub head_check : List ℕ → Check
head_check tb = pick (ltb (length tb) 6) (Err table_mark) (pick (marked tb) (pick (sized tb) fine (Err table_size)) (Err table_mark))

unfoldable pub check_table : List ℕ → Check
check_table tb = when_fine (head_check tb)
  where
    when_fine : Check → Check
    when_fine (Ok u) = nodes_from tb (count tb) 0
    when_fine (Err y) = Err y

-- a number for each of n nodes from i on, and for all nodes of a table: 64 numbers, 0 past the last node
unfoldable pub numbers_from : (Ty → ℕ) → List ℕ → ℕ → ℕ → List ℕ
numbers_from f tb zero i = []
numbers_from f tb (suc n) i = f (ty_at tb i) ∷ numbers_from f tb n (suc i)

unfoldable pub numbers_of : (Ty → ℕ) → List ℕ → List ℕ
numbers_of f tb = numbers_from f tb (count tb) 0 ++ replicate (64 - count tb) 0

-- ---- the jobs of a table alone

-- a refusal of the table, or what follows
abbrev pub after_check : {A : Type 0} → Check → (Refusal → A) → A → A
after_check (Ok u) refuse a = a
after_check (Err y) refuse a = refuse y

-- the footprint of each node
unfoldable pub footprints_of : List ℕ → Answer (List ℕ)
footprints_of tb = after_check (check_table tb) Err (Ok (numbers_of foot tb))

-- for each node of footprint 0 one less than the number of its cells, or 2^64 - 1 where it is larger: 64 numbers, 0 for other nodes
unfoldable pub unit_code : Ty → ℕ
unit_code t = pick (eqb (foot t) 0) (min (unit_cells t - 1) (2 ^ 64 - 1)) 0

unfoldable pub units_of : List ℕ → List ℕ
units_of tb = after_check (check_table tb) (λ y. replicate 64 0) (numbers_of unit_code tb)

-- the longest length of the root, if it has one
abbrev pub Longest : Type 0
Longest = Answer (Option ℕ)

unfoldable pub longest_of : List ℕ → Longest
longest_of tb = after_check (check_table tb) Err (Ok (longest (root tb)))
