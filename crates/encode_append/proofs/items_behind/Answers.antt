-- `items_behind` meets its contract: an answer of the items' size, and 22 after it. Assumes nothing.
use Rattle.std.proofs.Common.{◌∙◌, arith}
use Rattle.rules.proofs.Laws.Basics.{handed_on}
use Rattle.encode_append.proofs.Deciding.{sized_not, sized_small, sized_fits}
use Rattle.encode_append.proofs.items_behind.Goals as goal
use Rattle.encode_append.proofs.items_behind.Goals.{then-room-end-via-then-room-end, then-room-end-via-else-room-end+then-room-end-2}

pub returns-in_err-items : goal.returns-in_err-items
returns-in_err-items c = handed_on _ _ c.from_residual.ensures.1 ∙ sized_not c.args.end c.args.room _ _ _ c.items_size.ensures c.in_err-items.was

pub returns-then-room-end : goal.returns-then-room-end
returns-then-room-end c =
    c.refuse.ensures
    ∙ elim c.then-room-end.branch [
      | then-room-end-via-then-room-end w ↦ sized_small c.args.end c.args.room _ _ _ c.items_size.ensures c.in_ok-items.was (omega (arith, w.if-room-end.true))
      | then-room-end-via-else-room-end+then-room-end-2 w ↦ sized_small c.args.end c.args.room _ _ _ c.items_size.ensures c.in_ok-items.was (omega (arith, w.if-room-end.false, w.if-room-end-2.true))
    ]

pub returns : goal.returns
returns c = sized_fits c.args.end c.args.room _ _ _ c.items_size.ensures c.in_ok-items.was (omega (arith, c.if-room-end.false, c.if-room-end-2.false))
