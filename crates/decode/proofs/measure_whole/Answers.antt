use Rattle.std.proofs.Common.{◌∙◌, sym}
use Rattle.rules.proofs.Laws.Basics.{handed_on}
use Rattle.decode.proofs.Reading.{whole_refused, whole_left, whole_read}
use Rattle.decode.proofs.measure_whole.Goals as goal

pub returns-in_err-totals : goal.returns-in_err-totals
returns-in_err-totals c = whole_refused _ _ _ _ _ (sym c.measure_front.ensures ∙ c.in_err-totals.was) (handed_on _ _ c.from_residual.ensures.1)

pub returns-then-used-s : goal.returns-then-used-s
returns-then-used-s c = whole_left _ _ _ _ _ (sym c.measure_front.ensures ∙ c.in_ok-totals.was) _ c.if-used-s.true c.refuse.ensures

pub returns : goal.returns
returns c = whole_read _ _ _ _ _ (sym c.measure_front.ensures ∙ c.in_ok-totals.was) c.if-used-s.false
