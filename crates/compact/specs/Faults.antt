-- The faults of a compact number among the refusals' reasons.
use Rattle.compact.specs.declared.Fault.{Fault}
use Rattle.compact.specs.declared.Fault.TheVariants.{Short, Prefix, Range}
use Rattle.rules.specs.declared.Reason.{Reason}
use Rattle.rules.specs.declared.Reason.TheVariants.{Short as reason_short, CompactPrefix, CompactRange}

abbrev pub reason_of : Fault → Reason
reason_of Short = reason_short
reason_of Prefix = CompactPrefix
reason_of Range = CompactRange
