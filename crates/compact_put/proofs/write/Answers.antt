-- `compact_put::write` meets its contract: a left shift by two with the form's number below it is what the form's bytes say. Assumes nothing.
use Rattle.std.proofs.Common.{ap, sym, ◌∙◌}
use Rattle.rules.proofs.Laws.Compact.Encoding.{encode_3}
use Rattle.compact_put.specs.Padded.{padded}
use Rattle.compact_put.proofs.Outputs.{plain_one, plain_two, plain_four}
use Rattle.compact_put.proofs.write.Goals as goal

pub counted-requires : goal.counted-requires
counted-requires c = rw c.in-Counted.is at c.form_of.ensures

pub returns-in-One : goal.returns-in-One
returns-in-One c = c.plain.ensures ∙ ap padded (plain_one _ _ (rw c.in-One.is at c.form_of.ensures))

pub returns-in-Two : goal.returns-in-Two
returns-in-Two c = c.plain-in-Two.ensures ∙ ap padded (plain_two _ _ (rw c.in-Two.is at c.form_of.ensures))

pub returns-in-Four : goal.returns-in-Four
returns-in-Four c = c.plain-in-Four.ensures ∙ ap padded (plain_four _ _ (rw c.in-Four.is at c.form_of.ensures))

pub returns-in-Counted : goal.returns-in-Counted
returns-in-Counted c = c.counted.ensures ∙ ap padded (sym (encode_3 _ (rw c.in-Counted.is at c.form_of.ensures)))
