use Rattle.std.proofs.Common.{sym, ◌∙◌, arith}
use Rattle.rules.proofs.Laws.Places.{part_cons}
use Rattle.leaf_put.proofs.Lanes.{bits_refused, bits_none, bits_many, bits_short, bits_set, bits_done}
use Rattle.leaf_put.proofs.put_bits.Goals as goal

pub returns-then-cs-eq0 : goal.returns-then-cs-eq0
returns-then-cs-eq0 c = bits_refused _ _ _ c.refuse.ensures (bits_none _ c.if-cs-eq0.true)

pub returns-then-n-gt-MAX_BITS : goal.returns-then-n-gt-MAX_BITS
returns-then-n-gt-MAX_BITS c = bits_refused _ _ _ c.refuse-then-n-gt-MAX_BITS.ensures (bits_many _ _ _ (part_cons _ c.if-cs-eq0.false) c.if-n-gt-MAX_BITS.true)

pub returns-then-rest-words : goal.returns-then-rest-words
returns-then-rest-words c =
    bits_refused _ _ _ c.refuse-then-rest-words.ensures
    (bits_short _ _ _ (part_cons _ c.if-cs-eq0.false) c.if-n-gt-MAX_BITS.false (omega (arith, c.div_ceil-words.ensures)) c.if-rest-words.true)

pub returns-then-not-clear : goal.returns-then-not-clear
returns-then-not-clear c =
    bits_refused _ _ _ c.refuse-then-not-clear.ensures
    (bits_set _ _ _ (part_cons _ c.if-cs-eq0.false) c.if-n-gt-MAX_BITS.false (omega (arith, c.div_ceil-words.ensures)) c.if-rest-words.false (sym c.clear.ensures ∙ c.if-not-clear.true))

pub returns : goal.returns
returns c =
    bits_done _ _ _ (part_cons _ c.if-cs-eq0.false) c.if-n-gt-MAX_BITS.false (omega (arith, c.div_ceil-words.ensures)) c.if-rest-words.false _ _ (sym c.clear.ensures ∙ c.if-not-clear.false)
    c.put_lanes.ensures.answers c.put_lanes.ensures.writes
