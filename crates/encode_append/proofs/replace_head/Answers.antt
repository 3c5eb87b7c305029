-- `replace_head` meets its contract: what the moving leaves, where there is any, and then the new head. Assumes nothing.
use Rattle.std.proofs.Common.{◌≡◌, ◌∙◌}
use Rattle.std.specs.List.{copy_within}
use Rattle.rules.specs.Compact.{compact_bytes}
use Rattle.encode_append.proofs.Moving.{unmoved, replaced, head_put}
use Rattle.encode_append.proofs.replace_head.Goals as goal
use Rattle.encode_append.proofs.replace_head.Goals.{then-heads, else-heads}

pub returns : goal.returns
returns c =
    let buf = c.args.buf.now in
    let heads = c.args.heads in
    let moved : c.if-heads.buf ≡ copy_within buf heads.old c.args.used heads.new =
    elim c.if-heads.branch [ then-heads w ↦ w.buf-is ∙ w.copy_within.ensures.after | else-heads w ↦ w.buf-is ∙ unmoved buf heads.old c.args.used heads.new w.if-heads.false ] in
    replaced buf _ _ (compact_bytes heads.count) c.args.used heads.old heads.new c.requires.there c.requires.head c.requires.long c.requires.room c.if-heads.auto.buf moved
    (head_put _ c.from.ensures c.put.ensures.writes)
