-- `compact_put::plain` meets its contract: bytes written into the front of zeros are the bytes padded. Assumes nothing.
use Rattle.std.proofs.Common.{append-nil, ap, sym, ◌∙◌, arith}
use Rattle.std.proofs.lemmas.List.Edits.{sets}
use Rattle.rules.specs.Bytes.{le_bytes}
use Rattle.rules.proofs.Laws.Bytes.{length_bytes}
use Rattle.compact_put.proofs.Outputs.{padded_is}
use Rattle.compact_put.proofs.plain.Goals as goal

pub returns : goal.returns
returns c =
    let a = c.args in
    let l = le_bytes a.n a.x in
    padded_is _ l 0 _ (c.put.ensures ∙ ap (sets _ 0) (sym (append-nil l))) (sym (length_bytes _ a.x)) (omega arith)
