use Rattle.std.proofs.Common.{◌∙◌, sym}
use Rattle.rules.proofs.Laws.Basics.{handed_on}
use Rattle.rules.proofs.Laws.Demands.{front_decided}
use Rattle.rules.specs.Jobs.{read_front}
use Rattle.decode.proofs.Reading.{cut_refused, cut_filled}
use Rattle.decode.proofs.read_front.Goals as goal

pub returns-in_err-measure_front : goal.returns-in_err-measure_front
returns-in_err-measure_front c =
    cut_refused read_front _ _ _ _ _ c.cut_to-cut.ensures _ _ (sym c.measure_front.ensures ∙ c.in_err-measure_front.was) (handed_on _ _ c.from_residual.ensures.1)

pub returns : goal.returns
returns c =
    cut_filled read_front _ _ _ _ _ c.cut_to-cut.ensures _ _ _ _ (front_decided _ _ _) (sym c.measure_front.ensures ∙ c.in_ok-measure_front.was) c.scan_front.ensures
