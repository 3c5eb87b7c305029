use Rattle.std.proofs.Common.{◌∙◌, sym}
use Rattle.rules.proofs.Laws.Basics.{handed_on}
use Rattle.rules.proofs.Laws.Demands.{whole_decided}
use Rattle.rules.specs.Jobs.{read_whole}
use Rattle.decode.proofs.Reading.{cut_refused, cut_filled}
use Rattle.decode.proofs.read_whole.Goals as goal

pub returns-in_err-measure_whole : goal.returns-in_err-measure_whole
returns-in_err-measure_whole c =
    cut_refused read_whole _ _ _ _ _ c.cut_to-cut.ensures _ _ (sym c.measure_whole.ensures ∙ c.in_err-measure_whole.was) (handed_on _ _ c.from_residual.ensures.1)

pub returns : goal.returns
returns c =
    cut_filled read_whole _ _ _ _ _ c.cut_to-cut.ensures _ _ _ _ (whole_decided _ _ _) (sym c.measure_whole.ensures ∙ c.in_ok-measure_whole.was) c.scan_front.ensures
