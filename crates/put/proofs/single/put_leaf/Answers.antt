use Rattle.rules.specs.Put.{put_leaf}
use Rattle.rules.specs.Types.{leaf}
use Rattle.rules.proofs.Laws.Put.{put_leaf_lem}
use Rattle.rules.proofs.Laws.Put.Relative.{put_leaf_relative}
use Rattle.put.proofs.Placing.{fits_there, put_there}
use Rattle.put.proofs.single.put_leaf.Goals as goal

pub placed-requires : goal.placed-requires
placed-requires c = fits_there (put_leaf _) (put_leaf_relative _) _ _ c.put_leaf.ensures (leaf _) (put_leaf_lem _ _ _) c.requires

pub returns : goal.returns
returns c = put_there (put_leaf _) (put_leaf_relative _) _ _ c.put_leaf.ensures c.placed.ensures
