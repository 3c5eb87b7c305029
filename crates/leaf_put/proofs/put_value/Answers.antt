use Rattle.std.proofs.Common.{length, ap, ◌∙◌}
use Rattle.std.proofs.lemmas.List.Edits.{sets}
use Rattle.leaf_put.proofs.Leaves.{tag_bytes}
use Rattle.leaf_put.proofs.put_value.Goals as goal

pub returns-in-Bool-clause-answers : goal.returns-in-Bool-clause-answers
returns-in-Bool-clause-answers c = c.put_fixed.ensures.answers ∙ ap length (tag_bytes _ _ c.in-Bool.is c.requires)

pub returns-in-Bool-clause-writes : goal.returns-in-Bool-clause-writes
returns-in-Bool-clause-writes c = c.put_fixed.ensures.writes ∙ ap (sets c.args.out.now c.args.pos) (tag_bytes _ _ c.in-Bool.is c.requires)
