use Rattle.std.proofs.Common.{◌≡◌, arith}
use Rattle.rules.specs.Bits.{words64}
use Rattle.rules.proofs.Laws.Basics.{handed_on}
use Rattle.scan.proofs.Lanes.{lanes_refused, lanes_within, lanes_bytes}
use Rattle.scan.proofs.bits.scan_lanes.Goals as goal

pub returns-in_err-used : goal.returns-in_err-used
returns-in_err-used c = lanes_refused _ _ _ _ _ _ _ _ c.read.ensures.answers c.read.ensures.writes _ c.in_err-used.was (handed_on _ _ c.from_residual.ensures.1)

pub overflow_add-result-2 : goal.overflow_add-result-2
overflow_add-result-2 c = omega (arith, lanes_within _ _ 0 _ _ _ c.args.t _ c.read.ensures.answers c.read.ensures.writes _ c.in_ok-used.was, c.requires.1)

pub returns : goal.returns
returns c =
    let room : c.div_ceil.result ≡ words64 c.args.n = omega arith in
    rw room (lanes_bytes _ _ _ _ _ _ _ _ c.read.ensures.answers c.read.ensures.writes _ c.in_ok-used.was)
