-- From the walk of the root to what the walk of a whole table answers and passes.
use Rattle.std.specs.Prelude.{Err, List, ◌≡◌, ℕ, ◌-◌}
use Rattle.std.proofs.Common.{refl, ap, ◌∙◌, subst}
use Rattle.std.proofs.lemmas.List.Edits.{sets}
use Rattle.rules.specs.Jobs.{read_front}
use Rattle.rules.specs.Scan.{Scan, start, scan, scanned}
use Rattle.rules.specs.Scan.Landing.{Lands}
use Rattle.rules.specs.Scan.Pass.{pass_at, landed}
use Rattle.rules.proofs.Laws.Scan.Pass.{pass_front}
use Rattle.rules.specs.Table.{count, fine, ty_at, root, check_table}
use Rattle.rules.specs.declared.Limits.{Limits}
use Rattle.rules.specs.declared.Refusal.{Refusal}
use Rattle.scan.specs.Walk.{passed_in}

-- the walk of the root
pub root_walked : (tb s l m : List ℕ) (lim : Limits) (r : Scan) (node : ℕ) → node ≡ count tb - 1
    → Lands (pass_at (ty_at tb node) lim 0 0 s start) l start r m
    → record { answers : r ≡ scan (root tb) lim s; writes : m ≡ sets l 0 (scanned (root tb) lim s) }
unfolding root landed
root_walked tb s l m lim r node k f =
    let p = pass_front (ty_at tb node) lim s in
    subst (λ j. record { answers : r ≡ scan (ty_at tb j) lim s; writes : m ≡ sets l 0 (scanned (ty_at tb j) lim s) }) k
    (record { answers = f.answers ∙ p.0; writes = f.writes ∙ ap (sets l 0) p.1 })

-- by a table that is refused, and by one that is not
module _ (tb s l : List ℕ) (lim : Limits) (r : Scan) where
  pub front_refused : (y : Refusal) → check_table tb ≡ Err y → r ≡ Err y → record { answers : r ≡ read_front tb s lim; writes : l ≡ sets l 0 (passed_in tb lim s) }
  unfolding read_front passed_in
  front_refused y e f = rw e (record { answers = f; writes = refl })

  pub front_scanned : (m tb' : List ℕ) → tb' ≡ tb → check_table tb' ≡ fine → record { answers : r ≡ scan (root tb') lim s; writes : m ≡ sets l 0 (scanned (root tb') lim s) }
      → record { answers : r ≡ read_front tb s lim; writes : m ≡ sets l 0 (passed_in tb lim s) }
  unfolding read_front passed_in
  front_scanned m tb' q e f = rw (← q, e) f
