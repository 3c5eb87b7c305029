-- Of a part by a table: what is put of it, and what writing it answers.
use Rattle.std.specs.Prelude.{List, ◌≡◌, ℕ, length, Err}
use Rattle.std.proofs.Math.Path.{refl}
use Rattle.std.proofs.Common.{ap, sym, ◌∙◌}
use Rattle.rules.specs.Jobs.{not, put_out, output, write_cells, of_vector, write_items}
use Rattle.rules.specs.Parser.{bad}
use Rattle.rules.specs.Put.{put}
use Rattle.rules.proofs.Laws.Put.{output_put}
use Rattle.rules.specs.Refusals.{append_root}
use Rattle.rules.specs.Table.{root, check_table, after_check, fine}
use Rattle.rules.specs.Types.{Ty, leaf, nothing, result, pair, array, vector, bits}
use Rattle.rules.specs.Table.{Check}
use Rattle.rules.specs.declared.Refusal.{Refusal}
use Rattle.put.specs.Written.{Part, whole_root, root_items, part_put, part_in, part_out}

pub in_fine : (part : Part) (tb cs : List ℕ) → check_table tb ≡ fine → part_in part tb cs ≡ part_put part (root tb) cs
unfolding part_in
in_fine part tb cs e = ap (λ x. after_check x bad (part_put part (root tb) cs)) e

pub in_refused : (part : Part) (tb cs : List ℕ) (y : Refusal) → check_table tb ≡ Err y → part_in part tb cs ≡ bad y
unfolding part_in
in_refused part tb cs y e = ap (λ x. after_check x bad (part_put part (root tb) cs)) e

-- a part of a checked table's root
part_out_lem : (part : Part) (tb cs : List ℕ) (room : ℕ) → check_table tb ≡ fine → part_out part tb cs room ≡ put_out (length cs) room (λ l. l) (part_put part (root tb) cs)
unfolding write_cells write_items
part_out_lem whole_root tb cs room e = ap (λ x. after_check x not (output (root tb) cs room)) e ∙ output_put (root tb) cs room
part_out_lem (root_items k) tb cs room e = ap (λ x. after_check x not (of_vector (λ t. output (array k t) cs room) (not append_root) (root tb))) e ∙ go (root tb)
  where
    go : (t : Ty) → of_vector (λ u. output (array k u) cs room) (not append_root) t ≡ put_out (length cs) room (λ l. l) (of_vector (λ u. put (array k u) 0 cs) (bad append_root) t)
    go (vector t) = output_put (array k t) cs room
    go (leaf l) = unfold put_out in refl
    go nothing = unfold put_out in refl
    go (result t u) = unfold put_out in refl
    go (pair t u) = unfold put_out in refl
    go (array n t) = unfold put_out in refl
    go bits = unfold put_out in refl

part_refused : (part : Part) (tb cs : List ℕ) (room : ℕ) (y : Refusal) → check_table tb ≡ Err y → part_out part tb cs room ≡ not y
unfolding write_cells write_items
part_refused whole_root tb cs room y e = ap (λ x. after_check x not (output (root tb) cs room)) e
part_refused (root_items k) tb cs room y e = ap (λ x. after_check x not (of_vector (λ t. output (array k t) cs room) (not append_root) (root tb))) e

-- what is written is what is put, where all cells are taken and there is room
pub part_in_lem : (part : Part) (tb cs : List ℕ) (room : ℕ) → part_out part tb cs room ≡ put_out (length cs) room (λ l. l) (part_in part tb cs)
unfolding put_out
part_in_lem part tb cs room = go (check_table tb) refl
  where
    go : (x : Check) → check_table tb ≡ x → part_out part tb cs room ≡ put_out (length cs) room (λ l. l) (part_in part tb cs)
    go fine e = part_out_lem part tb cs room e ∙ ap (put_out (length cs) room (λ l. l)) (sym (in_fine part tb cs e))
    go (Err y) e = part_refused part tb cs room y e ∙ sym (ap (put_out (length cs) room (λ l. l)) (in_refused part tb cs y e))
