-- `extract_length_data` meets its contract: the count that is read is the old one. Assumes nothing.
use Rattle.std.proofs.Common.{ap, sym, ◌∙◌, arith}
use Rattle.leaf.specs.Laws.{count_got, count_bad}
use Rattle.rules.specs.declared.Leaf.TheVariants.{Compact as compact}
use Rattle.rules.specs.declared.Width.TheVariants.{W4 as w4}
use Rattle.rules.proofs.Laws.Wire.{leaf_bound}
use Rattle.encode_append.proofs.Deciding.{count_none, count_some, count_unread}
use Rattle.encode_append.specs.Joins.{heads_of}
use Rattle.encode_append.proofs.extract_length_data.Goals as goal

pub returns-then-s-eq0 : goal.returns-then-s-eq0
returns-then-s-eq0 c = c.counted.ensures ∙ ap (heads_of c.args.k) (sym (count_none c.args.s.now c.if-s-eq0.true))

pub counted-requires-in-Ok : goal.counted-requires-in-Ok
counted-requires-in-Ok c = omega (arith, leaf_bound (compact w4) 0 _ _ _ (λ i. (c.type_inv.s i).fits) (count_got _ _ _ _ c.count_from.ensures c.in-Ok.is))

pub returns-in-Ok : goal.returns-in-Ok
returns-in-Ok c =
    c.counted-in-Ok.ensures ∙ ap (heads_of c.args.k) (sym (count_some c.args.s.now c.if-s-eq0.false ∙ count_got _ _ _ _ c.count_from.ensures c.in-Ok.is))

pub returns-in-Err : goal.returns-in-Err
returns-in-Err c = c.refuse.ensures ∙ count_unread c.args.k (count_some c.args.s.now c.if-s-eq0.false ∙ count_bad _ _ _ c.count_from.ensures c.in-Err.is)
