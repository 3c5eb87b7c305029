use Rattle.std.proofs.Common.{◌^◌, ◌<◌, arith, rules}
use Rattle.rules.proofs.Laws.Table.{check_good}
use Rattle.scan.proofs.Rooted.{root_walked}
use Rattle.scan.proofs.scan_root.Goals as goal

pub item-requires : goal.item-requires
item-requires c =
    let room : c.args.limits.cells < 2 ^ 64 = search rules in
    let depth : c.args.limits.depth < 2 ^ 32 = search rules in
    record {
      there = omega (arith, c.root-root.ensures.last, (check_good _ c.args.checked.fine).some);
      few = c.root-root.ensures.few;
      place = omega arith;
      within = omega arith;
      room = room;
      depth = depth;
    }

pub returns : goal.returns
returns c = root_walked _ _ _ _ _ _ _ c.root-root.ensures.last c.item.ensures
