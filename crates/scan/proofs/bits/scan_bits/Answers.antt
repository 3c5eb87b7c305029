use Rattle.std.proofs.Common.{◌≡◌, ◌+◌, ◌≤◌, length, ap, arith, length-drop, length-take}
use Rattle.rules.proofs.Laws.Basics.{handed_on}
use Rattle.rules.specs.Bits.{words8, words64}
use Rattle.rules.specs.Parser.{got}
use Rattle.rules.specs.Wire.{leaf_from}
use Rattle.rules.specs.Scan.Pass.{lanes_at}
use Rattle.rules.proofs.Laws.Scan.Single.{bits_refused, bits_many, bits_few}
use Rattle.rules.proofs.Laws.Wire.Used.{leaf_used}
use Rattle.rules.specs.declared.Leaf.TheVariants.{Compact as compact}
use Rattle.rules.specs.declared.Totals.{Totals}
use Rattle.rules.specs.declared.Width.TheVariants.{W4 as w4}
use Rattle.leaf.specs.Laws.{count_got, count_bad}
use Rattle.scan.proofs.Heads.{head_stops, head_enters, head_goes}
use Rattle.rules.proofs.Laws.Scan.Landing.{stops}
use Rattle.scan.proofs.Lanes.{lanes_land}
use Rattle.scan.proofs.bits.scan_bits.Goals as goal
use Rattle.scan.proofs.bits.scan_bits.Goals.{In_ok-n}

-- the count that was read, and that its bytes are there
count : (c : In_ok-n) → (leaf_from (compact w4) c.args.at c.args.s.now ≡ got c.in_ok-n.n c.in_ok-n.used) × (c.in_ok-n.used ≤ length c.args.s.now)
count c =
    let read = count_got _ _ _ _ c.count_from.ensures c.in_ok-n.was in
    (read, leaf_used (compact w4) _ _ _ _ read)

pub returns-in_err-n : goal.returns-in_err-n
returns-in_err-n c = stops _ _ _ _ _ (bits_refused _ _ _ _ _ _ (count_bad _ _ _ c.count_from.ensures c.in_err-n.was)) (handed_on _ _ c.from_residual.ensures.1)

pub returns-then-n-gt-MAX_BITS : goal.returns-then-n-gt-MAX_BITS
returns-then-n-gt-MAX_BITS c =
    let read = (count (goal.at.returns-then-n-gt-MAX_BITS c).In_ok-n).0 in
    stops _ _ _ _ _ (bits_many _ _ _ _ _ _ _ read c.if-n-gt-MAX_BITS.true) c.refuse.ensures

pub overflow_add-at : goal.overflow_add-at
overflow_add-at c = omega (arith, (count (goal.at.overflow_add-at c).In_ok-n).1, c.requires.0)

pub slice_bounds-scan_lanes-count : goal.slice_bounds-scan_lanes-count
slice_bounds-scan_lanes-count c = (count (goal.at.slice_bounds-scan_lanes-count c).In_ok-n).1

pub slice_bounds-scan_lanes-start : goal.slice_bounds-scan_lanes-start
slice_bounds-scan_lanes-start c = (count (goal.at.slice_bounds-scan_lanes-start c).In_ok-n).1

pub scan_lanes-requires : goal.scan_lanes-requires
scan_lanes-requires c =
    let used = (count (goal.at.scan_lanes-requires c).In_ok-n).1 in
    let E = head_enters _ _ _ _ _ _ _ c.enter.ensures _ _ c.in_ok-t.was in
    let k : c.in_ok-t.t.cells ≡ c.args.m.totals.cells + 1 = ap (λ (x : Totals). x.cells) E.totals in
    (omega (arith, c.if-n-gt-MAX_BITS.false), simp (length-take, length-drop) (omega (arith, used, E.place, c.requires.0)), omega (arith, E.lets.2, k, c.requires.2))

pub returns-in_err-t : goal.returns-in_err-t
returns-in_err-t c =
    let read = (count (goal.at.returns-in_err-t c).In_ok-n).0 in
    let a = c.args in
    let charge : c.div_ceil.result ≡ words8 c.in_ok-n.n = omega arith in
    let room : c.div_ceil-room.result ≡ words64 c.in_ok-n.n = omega arith in
    head_stops _ _ _ _ _ _ _ c.enter.ensures _ c.in_err-t.was (lanes_at a.m.limits c.in_ok-n.n a.at a.s.now (a.at + c.in_ok-n.used)) _
    (rw (charge, room) (bits_few _ _ _ _ _ _ _ read c.if-n-gt-MAX_BITS.false)) (handed_on _ _ c.from_residual-in_err-t.ensures.1)

pub returns : goal.returns
returns c =
    let read = (count (goal.at.returns c).In_ok-n).0 in
    let a = c.args in
    let charge : c.div_ceil.result ≡ words8 c.in_ok-n.n = omega arith in
    let room : c.div_ceil-room.result ≡ words64 c.in_ok-n.n = omega arith in
    let E = head_enters _ _ _ _ _ _ _ c.enter.ensures _ _ c.in_ok-t.was in
    head_goes _ _ _ _ _ _ _ c.enter.ensures _ _ c.in_ok-t.was (lanes_at a.m.limits c.in_ok-n.n a.at a.s.now (a.at + c.in_ok-n.used)) _ _ _
    (rw (charge, room) (bits_few _ _ _ _ _ _ _ read c.if-n-gt-MAX_BITS.false))
    (lanes_land a.m.limits c.in_ok-n.n a.at c.in_ok-n.used _ a.s.now c.in_ok-t.t _ _ _ (omega (arith, E.lets.2, ap (λ (x : Totals). x.cells) E.totals)) E.place c.scan_lanes.ensures)
