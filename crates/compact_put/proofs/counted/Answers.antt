-- `compact_put::counted` meets its contract: the first byte and both halves, one after the other, are the long form padded. Assumes nothing.
use Rattle.std.proofs.Common.{arith}
use Rattle.rules.proofs.Laws.Compact.Sizes.{significant_4}
use Rattle.rules.specs.Bytes.{whole}
use Rattle.compact_put.proofs.Outputs.{counted_is}
use Rattle.compact_put.proofs.counted.Goals as goal

pub overflow_sub-out : goal.overflow_sub-out
overflow_sub-out c = omega (arith, significant_4 (whole c.args.value.low c.args.value.high) c.requires)

pub returns : goal.returns
returns c =
    counted_is _ _ _ _ c.significant-n.ensures c.requires (omega arith) (omega arith) c.put_halves.ensures
