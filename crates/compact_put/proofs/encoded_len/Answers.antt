-- `compact_put::encoded_len` meets its contract: each form says its length. Assumes nothing.
use Rattle.std.proofs.Common.{ℕ, ◌+◌, ap, sym, ◌∙◌}
use Rattle.rules.proofs.Laws.Compact.Encoding.{length_0, length_1, length_2, length_3}
use Rattle.compact_put.specs.Padded.{OfForm}
use Rattle.compact_put.specs.declared.Form.TheVariants.{Two, Four}
use Rattle.compact_put.proofs.encoded_len.Goals as goal

pub returns-in-One : goal.returns-in-One
returns-in-One c = sym (length_0 _ (rw c.in-One.is at c.form_of.ensures))

pub returns-in-Two : goal.returns-in-Two
returns-in-Two c =
    let h : OfForm Two _ = rw c.in-Two.is at c.form_of.ensures in
    sym (length_1 _ h.0 h.1)

pub returns-in-Four : goal.returns-in-Four
returns-in-Four c =
    let h : OfForm Four _ = rw c.in-Four.is at c.form_of.ensures in
    sym (length_2 _ h.0 h.1)

pub returns-in-Counted : goal.returns-in-Counted
returns-in-Counted c = ap (λ (x : ℕ). x + 1) c.significant.ensures ∙ sym (length_3 _ (rw c.in-Counted.is at c.form_of.ensures))
