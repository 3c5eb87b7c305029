-- `counted` meets its contract: old + k is above the bound exactly if k is above what is left to it. Assumes nothing.
use Rattle.std.proofs.Common.{◌∙◌}
use Rattle.encode_append.proofs.Deciding.{count_many, count_few}
use Rattle.encode_append.proofs.counted.Goals as goal

pub returns-then-old-k : goal.returns-then-old-k
returns-then-old-k c = c.refuse.ensures ∙ count_many c.args.k c.args.old c.args.len c.if-old-k.true

pub returns : goal.returns
returns c = count_few c.args.k c.args.old c.args.len c.requires c.if-old-k.false c.from.ensures c.encoded_len.ensures
